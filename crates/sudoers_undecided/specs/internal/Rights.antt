-- A device of the proof, which no public contract cites: the lists that could be turned where the rights of a user are listed.
use Rattle.std.specs.Prelude.{◌≡◌, ◌⊎◌, Bool, false, List, Option, Some, None}
use Rattle.sudoers_grammar.specs.declared.node.Atom.{Atom}
use Rattle.sudoers_grammar.specs.declared.node.Kind.{Kind}
use Rattle.sudoers_grammar.specs.declared.node.Kind.TheVariants.{User, Host}
use Rattle.sudoers_grammar.specs.Node.{HostGroup, Member, Node, Scope}
use Rattle.sudoers_grammar.specs.Node as node
use Rattle.sudoers_tree.specs.Line.{Line}
use Rattle.sudoers_check.specs.Chain.{ListHasElement}
use Rattle.sudoers_match_member.specs.declared.request.Request.{Request}
use Rattle.sudoers_match_list.specs.Flat.{SignedAtom}
use Rattle.sudoers_match.specs.Allows.{ListAllows}
use Rattle.sudoers_match.specs.Specs.{UserSpec, user_specs_of_lines}
use Rattle.sudoers_undecided.specs.declared.user_and_host_lists.UserAndHostLists.{UserAndHostLists}
use Rattle.sudoers_undecided.specs.declared.wanted_members.CountedList.{CountedList}
use Rattle.sudoers_undecided.specs.ListSway.{is_bare_and_undecided}
use Rattle.sudoers_undecided.specs.MatchTests.{match_tests_of_request, undecided_by_files_or_paths}
use Rattle.sudoers_undecided.specs.RowParts.{CouldTurnScopeList}
use Rattle.sudoers_undecided.specs.TurningMembers.{CouldTurnList}
use Rattle.sudoers_undecided.specs.internal.Wanted.{AreFlat, IsWantedOfLists}

-- ---- lists that are added

-- Beside the atoms of the lists before, the lists name those that turn so, and no others. Each list that is added has a flat list.
pub record AddsTurningAtoms (k : Kind) (lines : List Line) (undecided test : Atom → Bool) (Turns : SignedAtom → Type 0) (old new : List CountedList) : Type 0 where
  pub kept : (l : CountedList) → ListHasElement old l → ListHasElement new l
  pub each : (s : SignedAtom) → Turns s → IsWantedOfLists k lines (is_bare_and_undecided undecided) test new s
  pub only : (s : SignedAtom) → IsWantedOfLists k lines (is_bare_and_undecided undecided) test new s → IsWantedOfLists k lines (is_bare_and_undecided undecided) test old s ⊎ Turns s
  pub flats : AreFlat k lines old → AreFlat k lines new

-- The atom could turn one of these things.
pub record CouldTurnOneOf {X : Type 0} (Turns : X → SignedAtom → Type 0) (xs : List X) (s : SignedAtom) : Type 0 where
  pub item : X
  pub stands : ListHasElement xs item
  pub turns : Turns item s

-- ---- which atoms could turn where the user of a request has rules

-- It could turn for whom the user specification is.
abbrev pub CouldTurnUsersOfSpec : List Line → Request → UserSpec → SignedAtom → Type 0
CouldTurnUsersOfSpec lines r spec s = CouldTurnList User lines (undecided_by_files_or_paths r).user (match_tests_of_request r).user false spec.users s

-- It could turn on which host the group is.
abbrev pub CouldTurnHostsOfGroup : List Line → Request → HostGroup → SignedAtom → Type 0
CouldTurnHostsOfGroup lines r g s = CouldTurnList Host lines (undecided_by_files_or_paths r).host (match_tests_of_request r).host false g.hosts s

-- The user specification allows the user, and it could turn on which host one of its groups is.
pub record CouldTurnHostsOfSpec (lines : List Line) (r : Request) (spec : UserSpec) (s : SignedAtom) : Type 0 where
  pub allows : ListAllows User lines (match_tests_of_request r).user spec.users
  pub turns : CouldTurnOneOf (CouldTurnHostsOfGroup lines r) spec.groups s

-- Lists of hosts were added of these groups.
abbrev pub AddsListsOfGroups : List Line → Request → List HostGroup → List CountedList → List CountedList → Type 0
AddsListsOfGroups lines r groups old new =
    AddsTurningAtoms Host lines (undecided_by_files_or_paths r).host (match_tests_of_request r).host (CouldTurnOneOf (CouldTurnHostsOfGroup lines r) groups) old new

-- ---- which atoms could turn which Defaults lines hold of the user

-- The list is one of this kind, and the atom could turn it.
abbrev pub CouldTurnScopeListOfKind : Kind → List Line → Request → Kind → List Member → SignedAtom → Type 0
CouldTurnScopeListOfKind wanted lines r k ms s = (k ≡ wanted) × CouldTurnScopeList lines (undecided_by_files_or_paths r) (match_tests_of_request r) k ms s

abbrev pub CouldTurnScopeOfKind : Kind → List Line → Request → Option Scope → SignedAtom → Type 0
CouldTurnScopeOfKind wanted lines r None s = ⊥
CouldTurnScopeOfKind wanted lines r (Some scope) s = CouldTurnScopeListOfKind wanted lines r scope.kind scope.members s

-- It is a Defaults line with a scope of this kind, and the atom could turn that.
abbrev pub CouldTurnDefaultsOfKind : Kind → List Line → Request → Node → SignedAtom → Type 0
CouldTurnDefaultsOfKind wanted lines r (node.Defaults scope params) s = CouldTurnScopeOfKind wanted lines r scope s
CouldTurnDefaultsOfKind wanted lines r (node.Spec users groups) s = ⊥
CouldTurnDefaultsOfKind wanted lines r (node.Alias k defs) s = ⊥
CouldTurnDefaultsOfKind wanted lines r node.Blank s = ⊥
CouldTurnDefaultsOfKind wanted lines r node.Comment s = ⊥
CouldTurnDefaultsOfKind wanted lines r (node.Include dir path) s = ⊥

abbrev pub CouldTurnLineOfKind : Kind → List Line → Request → Line → SignedAtom → Type 0
CouldTurnLineOfKind wanted lines r line s = CouldTurnDefaultsOfKind wanted lines r line.node s

-- ---- lists of users and of hosts

-- Lists of users were added that these atoms could turn, and lists of hosts that those could turn.
pub record AddsLists (lines : List Line) (r : Request) (TurnsUsers TurnsHosts : SignedAtom → Type 0) (old new : UserAndHostLists) : Type 0 where
  pub users : AddsTurningAtoms User lines (undecided_by_files_or_paths r).user (match_tests_of_request r).user TurnsUsers old.users.items new.users.items
  pub hosts : AddsTurningAtoms Host lines (undecided_by_files_or_paths r).host (match_tests_of_request r).host TurnsHosts old.hosts.items new.hosts.items

-- Lists were added of these user specifications.
abbrev pub AddsListsOfSpecs : List Line → Request → List UserSpec → UserAndHostLists → UserAndHostLists → Type 0
AddsListsOfSpecs lines r specs old new = AddsLists lines r (CouldTurnOneOf (CouldTurnUsersOfSpec lines r) specs) (CouldTurnOneOf (CouldTurnHostsOfSpec lines r) specs) old new

-- The list of the scope was added, if this is a Defaults line that has one.
abbrev pub AddsListOfNode : List Line → Request → Node → UserAndHostLists → UserAndHostLists → Type 0
AddsListOfNode lines r n old new = AddsLists lines r (CouldTurnDefaultsOfKind User lines r n) (CouldTurnDefaultsOfKind Host lines r n) old new

-- Lists were added of the scopes of Defaults lines among these lines.
abbrev pub AddsListsOfLines : List Line → Request → List Line → UserAndHostLists → UserAndHostLists → Type 0
AddsListsOfLines lines r some old new = AddsLists lines r (CouldTurnOneOf (CouldTurnLineOfKind User lines r) some) (CouldTurnOneOf (CouldTurnLineOfKind Host lines r) some) old new

-- ---- all lists of the rights of a user

abbrev pub CouldTurnUsersOfRights : List Line → Request → SignedAtom → Type 0
CouldTurnUsersOfRights lines r s = CouldTurnOneOf (CouldTurnUsersOfSpec lines r) (user_specs_of_lines lines) s ⊎ CouldTurnOneOf (CouldTurnLineOfKind User lines r) lines s

abbrev pub CouldTurnHostsOfRights : List Line → Request → SignedAtom → Type 0
CouldTurnHostsOfRights lines r s = CouldTurnOneOf (CouldTurnHostsOfSpec lines r) (user_specs_of_lines lines) s ⊎ CouldTurnOneOf (CouldTurnLineOfKind Host lines r) lines s

-- The lists are those.
abbrev pub AreListsOfRights : List Line → Request → UserAndHostLists → UserAndHostLists → Type 0
AreListsOfRights lines r empty lists = AddsLists lines r (CouldTurnUsersOfRights lines r) (CouldTurnHostsOfRights lines r) empty lists
