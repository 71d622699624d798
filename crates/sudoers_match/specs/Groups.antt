-- Where a user has rules: the host groups whose users and whose hosts match (sudoers(5), User specification).
use Rattle.std.specs.Prelude.{◌≡◌, ◌⊎◌, ℕ, List, [], ◌∷◌}
use Rattle.sudoers_grammar.specs.declared.node.Kind.TheVariants.{User, Host}
use Rattle.sudoers_grammar.specs.Node.{HostGroup}
use Rattle.sudoers_tree.specs.Line.{Line}
use Rattle.sudoers_match_member.specs.Hits.{is_user_atom_match, is_host_atom_match}
use Rattle.sudoers_match_member.specs.declared.people_and_commands.Who.{Who}
use Rattle.sudoers_match.specs.declared.matching_host_groups.HostGroupPlace.{HostGroupPlace}
use Rattle.sudoers_match.specs.Specs.{UserSpec, user_specs_of_lines, IsConcatenationOfParts}
use Rattle.sudoers_match.specs.Allows.{ListAllows}

abbrev pub host_group_place_from_spec_number : ℕ → ℕ → HostGroupPlace
host_group_place_from_spec_number spec group = record { spec = spec; host_group = group }

-- The place of a host group, if its hosts match.
abbrev pub HoldsHostGroupPlaceIfHostsMatch : List Line → Who → ℕ → ℕ → HostGroup → List HostGroupPlace → Type 0
HoldsHostGroupPlaceIfHostsMatch lines who i j g places =
    (ListAllows Host lines (is_host_atom_match who) g.hosts × (places ≡ host_group_place_from_spec_number i j ∷ []))
    ⊎ ((ListAllows Host lines (is_host_atom_match who) g.hosts → ⊥) × (places ≡ []))

-- The places of the host groups of a user specification whose hosts match, if its users match.
abbrev pub AreMatchingHostGroupPlacesOfSpec : List Line → Who → ℕ → UserSpec → List HostGroupPlace → Type 0
AreMatchingHostGroupPlacesOfSpec lines who i s places =
    (ListAllows User lines (is_user_atom_match who.user) s.users × IsConcatenationOfParts (HoldsHostGroupPlaceIfHostsMatch lines who i) 0 s.groups places)
    ⊎ ((ListAllows User lines (is_user_atom_match who.user) s.users → ⊥) × (places ≡ []))

-- All of them, in file order.
abbrev pub ArePlacesOfMatchingHostGroups : List Line → Who → List HostGroupPlace → Type 0
ArePlacesOfMatchingHostGroups lines who places = IsConcatenationOfParts (AreMatchingHostGroupPlacesOfSpec lines who) 0 (user_specs_of_lines lines) places
