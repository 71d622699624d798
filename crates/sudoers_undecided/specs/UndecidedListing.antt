-- What was not decided where the rules of a user and the Defaults lines that hold of him are listed.
use Rattle.std.specs.Prelude.{◌≡◌, ◌⊎◌, ℕ, false, List, [], ◌∷◌}
use Rattle.sudoers_grammar.specs.declared.node.Kind.TheVariants.{User, Host}
use Rattle.sudoers_grammar.specs.Node.{HostGroup, Node}
use Rattle.sudoers_grammar.specs.Node as node
use Rattle.sudoers_tree.specs.Line.{Line}
use Rattle.sudoers_check.specs.Chain.{ListHasElement}
use Rattle.sudoers_match_list.specs.Flat.{SignedAtom}
use Rattle.sudoers_match.specs.declared.matching_host_groups.HostGroupPlace.{HostGroupPlace}
use Rattle.sudoers_match.specs.Allows.{ListAllows}
use Rattle.sudoers_match.specs.Groups.{host_group_place_from_spec_number}
use Rattle.sudoers_match.specs.Specs.{UserSpec, user_specs_of_lines, IsConcatenationOfParts}
use Rattle.sudoers_undecided.specs.TurningMembers.{CouldTurnList}
use Rattle.sudoers_undecided.specs.MatchTests.{MatchTests}
use Rattle.sudoers_undecided.specs.RowParts.{CouldTurnScope}

abbrev pub HoldsHostGroupPlaceIfHostsMatchByTests : List Line → MatchTests → ℕ → ℕ → HostGroup → List HostGroupPlace → Type 0
HoldsHostGroupPlaceIfHostsMatchByTests lines tests i j g places =
    (ListAllows Host lines tests.host g.hosts × (places ≡ host_group_place_from_spec_number i j ∷ []))
    ⊎ ((ListAllows Host lines tests.host g.hosts → ⊥) × (places ≡ []))

abbrev pub AreMatchingHostGroupPlacesOfSpecByTests : List Line → MatchTests → ℕ → UserSpec → List HostGroupPlace → Type 0
AreMatchingHostGroupPlacesOfSpecByTests lines tests i s places =
    (ListAllows User lines tests.user s.users × IsConcatenationOfParts (HoldsHostGroupPlaceIfHostsMatchByTests lines tests i) 0 s.groups places)
    ⊎ ((ListAllows User lines tests.user s.users → ⊥) × (places ≡ []))

-- by these tests, the places of the host groups with rules
abbrev pub ArePlacesOfMatchingHostGroupsByTests : List Line → MatchTests → List HostGroupPlace → Type 0
ArePlacesOfMatchingHostGroupsByTests lines tests places = IsConcatenationOfParts (AreMatchingHostGroupPlacesOfSpecByTests lines tests) 0 (user_specs_of_lines lines) places

-- It could turn for whom a user specification is, or, where that allows the user, on which host one of its groups is.
abbrev pub CouldTurnUsersOrHosts : List Line → MatchTests → MatchTests → UserSpec → SignedAtom → Type 0
CouldTurnUsersOrHosts lines undecided tests spec s =
    CouldTurnList User lines undecided.user tests.user false spec.users s
    ⊎ (ListAllows User lines tests.user spec.users × ((g : HostGroup) × ListHasElement spec.groups g × CouldTurnList Host lines undecided.host tests.host false g.hosts s))

-- It could have changed where the user has rules.
pub record IsUndecidedInListing (lines : List Line) (undecided tests : MatchTests) (spec : UserSpec) (s : SignedAtom) : Type 0 where
  pub stands : ListHasElement (user_specs_of_lines lines) spec
  pub turns : CouldTurnUsersOrHosts lines undecided tests spec s

-- ---- Defaults lines

-- It could turn whether the Defaults line holds of the user on the host.
abbrev pub CouldTurnDefaults : List Line → MatchTests → MatchTests → Node → SignedAtom → Type 0
CouldTurnDefaults lines undecided tests (node.Defaults scope params) s = CouldTurnScope lines undecided tests scope s
CouldTurnDefaults lines undecided tests (node.Spec users groups) s = ⊥
CouldTurnDefaults lines undecided tests (node.Alias k defs) s = ⊥
CouldTurnDefaults lines undecided tests node.Blank s = ⊥
CouldTurnDefaults lines undecided tests node.Comment s = ⊥
CouldTurnDefaults lines undecided tests (node.Include dir path) s = ⊥

-- It could have changed whether one of the Defaults lines holds of the user.
pub record IsUndecidedInDefaults (lines : List Line) (undecided tests : MatchTests) (line : Line) (s : SignedAtom) : Type 0 where
  pub stands : ListHasElement lines line
  pub turns : CouldTurnDefaults lines undecided tests line.node s

-- ---- the listing of what a user may run

-- It could have changed where the user has rules, or which Defaults lines hold of him.
abbrev pub IsUndecidedInRights : List Line → MatchTests → MatchTests → SignedAtom → Type 0
IsUndecidedInRights lines undecided tests s =
    ((spec : UserSpec) × IsUndecidedInListing lines undecided tests spec s) ⊎ ((line : Line) × IsUndecidedInDefaults lines undecided tests line s)
