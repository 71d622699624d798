-- A device of the proof, which no public contract cites: settings of runas_default that were counted.
use Rattle.std.specs.Prelude.{◌≡◌, ◌⊎◌, not, ℕ, Bool, true, false, List, [], ◌∷◌, ◌++◌, Option}
use Rattle.std.specs.List.{AllByRecursion}
use Rattle.sudoers_grammar.specs.declared.node.Kind.{Kind}
use Rattle.sudoers_grammar.specs.declared.node.Kind.TheVariants.{User, Host, Runas, Cmnd}
use Rattle.sudoers_grammar.specs.Node.{Scope}
use Rattle.sudoers_line_rows.specs.declared.view.Scope.{Scope as ScopeView}
use Rattle.sudoers_line_rows.specs.View.{members_of_view}
use Rattle.sudoers_tree.specs.Line.{Line}
use Rattle.sudoers_check.specs.Chain.{ListHasElement}
use Rattle.sudoers_match_member.specs.declared.request.Request.{Request}
use Rattle.sudoers_match_list.specs.Flat.{SignedAtom}
use Rattle.sudoers_undecided.specs.declared.decided_aliases.PartStanding.{PartStanding}
use Rattle.sudoers_undecided.specs.declared.user_and_host_lists.UserAndHostLists.{UserAndHostLists}
use Rattle.sudoers_undecided.specs.declared.wanted_members.CountedList.{CountedList}
use Rattle.sudoers_undecided.specs.ListSway.{is_bare_and_undecided}
use Rattle.sudoers_undecided.specs.MatchTests.{match_tests_of_request, undecided_by_files_or_paths}
use Rattle.sudoers_undecided.specs.RowParts.{CouldTurnScope, CouldTurnScopeList, IsScopeForUserOnHostByTests, IsScopeListForUserOrHostByTests}
use Rattle.sudoers_undecided.specs.internal.Counted.{AreScopeListsTurned, IsPartStanding, IsWantedOfScopes, counted_list}
use Rattle.sudoers_undecided.specs.internal.Wanted.{IsWantedOfList, wanted_of_sign}

abbrev pub has_item : {X : Type 0} → List X → Bool
has_item [] = false
has_item (x ∷ xs) = true

abbrev pub IsWantedOfScopeList : List Line → Request → ScopeView → Kind → PartStanding → SignedAtom → Type 0
IsWantedOfScopeList lines r scope User st s = IsWantedOfList User lines (is_bare_and_undecided (undecided_by_files_or_paths r).user) (match_tests_of_request r).user (members_of_view scope.members) (wanted_of_sign (not st.holds)) s
IsWantedOfScopeList lines r scope Host st s = IsWantedOfList Host lines (is_bare_and_undecided (undecided_by_files_or_paths r).host) (match_tests_of_request r).host (members_of_view scope.members) (wanted_of_sign (not st.holds)) s
IsWantedOfScopeList lines r scope Runas st s = ⊥
IsWantedOfScopeList lines r scope Cmnd st s = ⊥

abbrev pub IsScopeStandingOfKind : List Line → Request → ScopeView → Kind → PartStanding → Type 0
IsScopeStandingOfKind lines r scope k st = IsPartStanding (IsScopeListForUserOrHostByTests lines (match_tests_of_request r) k (members_of_view scope.members))
    (CouldTurnScopeList lines (undecided_by_files_or_paths r) (match_tests_of_request r) k (members_of_view scope.members)) (IsWantedOfScopeList lines r scope k st) st

abbrev pub IsScopeStanding : List Line → Request → ScopeView → PartStanding → Type 0
IsScopeStanding lines r scope st = IsScopeStandingOfKind lines r scope scope.kind st

-- The list of the scope is there.
abbrev pub HasScopeList : UserAndHostLists → ℕ → ScopeView → Kind → PartStanding → Type 0
HasScopeList c line scope User st = ListHasElement c.users.items (counted_list line scope.members st.holds)
HasScopeList c line scope Host st = ListHasElement c.hosts.items (counted_list line scope.members st.holds)
HasScopeList c line scope Runas st = Unit {0}
HasScopeList c line scope Cmnd st = Unit {0}

-- It is the list of the scope, which could be turned.
pub record IsListOfScope (line : ℕ) (scope : ScopeView) (st : PartStanding) (l : CountedList) : Type 0 where
  pub is : l ≡ counted_list line scope.members st.holds
  pub could_turn : st.could_turn ≡ true

-- No list is new but that of the scope.
pub record AddsOnlyScopeList (c e : UserAndHostLists) (line : ℕ) (scope : ScopeView) (k : Kind) (st : PartStanding) : Type 0 where
  pub users : (l : CountedList) → ListHasElement e.users.items l → ListHasElement c.users.items l ⊎ ((k ≡ User) × IsListOfScope line scope st l)
  pub hosts : (l : CountedList) → ListHasElement e.hosts.items l → ListHasElement c.hosts.items l ⊎ ((k ≡ Host) × IsListOfScope line scope st l)

pub record HaveScopesGrown (c e : UserAndHostLists) : Type 0 where
  pub users : (l : CountedList) → ListHasElement c.users.items l → ListHasElement e.users.items l
  pub hosts : (l : CountedList) → ListHasElement c.hosts.items l → ListHasElement e.hosts.items l

abbrev pub CountsNot : List Line → Request → (Option Scope × List ℕ) → Type 0
CountsNot lines r setting = IsScopeForUserOnHostByTests lines (match_tests_of_request r) setting.0 → ⊥

-- Of each setting behind which none of these counts the atoms are named that could turn whether it counts.
abbrev pub CoversSettings : List Line → Request → UserAndHostLists → List (Option Scope × List ℕ) → Type 0
CoversSettings lines r c [] = Unit {0}
CoversSettings lines r c (x ∷ xs) =
    (AllByRecursion (CountsNot lines r) xs → (s : SignedAtom) → CouldTurnScope lines (undecided_by_files_or_paths r) (match_tests_of_request r) x.0 s → IsWantedOfScopes lines r c s)
    × CoversSettings lines r c xs

-- It could turn whether one of the settings counts behind which none does.
pub record CouldTurnOneOfSettings (lines : List Line) (r : Request) (xs : List (Option Scope × List ℕ)) (s : SignedAtom) : Type 0 where
  pub setting : Option Scope × List ℕ
  pub before : List (Option Scope × List ℕ)
  pub after : List (Option Scope × List ℕ)
  pub stands : xs ≡ before ++ setting ∷ after
  pub none_behind : AllByRecursion (CountsNot lines r) after
  pub turns : CouldTurnScope lines (undecided_by_files_or_paths r) (match_tests_of_request r) setting.0 s

-- An atom is named only if it was before and none of the settings counts, or if it could turn whether one of them does.
abbrev pub NamesOnlyAtomsOfSettings : List Line → Request → UserAndHostLists → UserAndHostLists → List (Option Scope × List ℕ) → Type 0
NamesOnlyAtomsOfSettings lines r c e xs = (s : SignedAtom) → IsWantedOfScopes lines r e s
    → (IsWantedOfScopes lines r c s × AllByRecursion (CountsNot lines r) xs) ⊎ CouldTurnOneOfSettings lines r xs s

-- The settings were counted: one of them counts, or the lists before are still there.
pub record CountsSettings (lines : List Line) (r : Request) (c e : UserAndHostLists) (xs : List (Option Scope × List ℕ)) : Type 0 where
  pub counts : (AllByRecursion (CountsNot lines r) xs → ⊥) ⊎ HaveScopesGrown c e
  pub covers : CoversSettings lines r e xs
  pub only : NamesOnlyAtomsOfSettings lines r c e xs
  pub turned : AreScopeListsTurned lines r c → AreScopeListsTurned lines r e
