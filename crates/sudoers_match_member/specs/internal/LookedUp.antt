-- Devices of the proofs, which no public contract cites: the names and the numbers that are looked up in place of groups and interfaces.
use Rattle.std.specs.Prelude.{◌≡◌, ◌||◌, ℕ, Bool, List, IfSome, slice_get}
use Rattle.std.specs.List.{list_any}
use Rattle.std.specs.Str.{str_to_ascii_lowercase}
use Rattle.sudoers_match_member.specs.declared.groups.GroupLookups.{GroupLookups}
use Rattle.sudoers_match_member.specs.declared.network.Interface.{Interface}
use Rattle.sudoers_match_member.specs.declared.people_and_commands.Group.{Group}
use Rattle.sudoers_match_member.specs.Network.{network_under_mask}

-- The names are those of the groups in lower case, in any order.
abbrev pub AreLowerNamesOf : List Group → List (List ℕ) → Type 0
AreLowerNamesOf groups names = (test : List ℕ → Bool) → list_any test names ≡ list_any (λ (g : Group). test (str_to_ascii_lowercase g.name)) groups

-- The numbers are those of the groups, in any order.
abbrev pub AreNumbersOf : List Group → List ℕ → Type 0
AreNumbersOf groups numbers = (test : ℕ → Bool) → list_any test numbers ≡ list_any (λ (g : Group). test g.gid) groups

-- What the groups are looked up in, if anything, has their names and their numbers.
abbrev pub AreLookupsOfGroups : List Group → List GroupLookups → Type 0
AreLookupsOfGroups groups lookups = IfSome (slice_get lookups 0) (λ one. AreLowerNamesOf groups one.names × AreNumbersOf groups one.numbers)

-- The numbers are those that hit an interface without a mask: its address and its network.
abbrev pub AreNumbersHitWithoutMask : List Interface → List ℕ → Type 0
AreNumbersHitWithoutMask interfaces numbers = (test : ℕ → Bool) → list_any test numbers ≡ list_any (λ (i : Interface). test i.address.number || test (network_under_mask i.mask i.address)) interfaces

-- The set of numbers, if there is one, is of those that hit an interface without a mask.
abbrev pub AreHitsOfInterfaces : List Interface → List (List ℕ) → Type 0
AreHitsOfInterfaces interfaces hits = IfSome (slice_get hits 0) (AreNumbersHitWithoutMask interfaces)
