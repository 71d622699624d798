-- Scopes of Defaults lines that could be turned.
use Rattle.std.proofs.Common.{◌≡◌, ◌⊎◌, inl, inr, true, ℕ, List, Option, Some, None, refl}
use Rattle.sudoers_grammar.specs.declared.node.Kind.{Kind}
use Rattle.sudoers_grammar.specs.declared.node.Kind.TheVariants.{User, Host, Runas, Cmnd}
use Rattle.sudoers_grammar.specs.Node.{Member, Node, Scope}
use Rattle.sudoers_grammar.specs.Node as node
use Rattle.sudoers_line_rows.specs.declared.view.Scope.{Scope as ScopeView}
use Rattle.sudoers_line_rows.specs.declared.row_lists.RowsOfTable.{RowsOfTable}
use Rattle.sudoers_line_rows.specs.declared.rows.ParamRow.{ParamRow}
use Rattle.sudoers_line_rows.specs.declared.view.Node.{Node as NodeView}
use Rattle.sudoers_line_rows.specs.declared.view.Node.TheVariants as view
use Rattle.sudoers_line_rows.specs.View.{members_of_view, node_of_view}
use Rattle.sudoers_tree.specs.Line.{Line}
use Rattle.sudoers_check.specs.Chain.{ListHasElement}
use Rattle.sudoers_match_member.specs.declared.request.Request.{Request}
use Rattle.sudoers_match_list.specs.Flat.{SignedAtom}
use Rattle.sudoers_undecided.specs.declared.decided_aliases.PartStanding.{PartStanding}
use Rattle.sudoers_undecided.specs.declared.user_and_host_lists.UserAndHostLists.{UserAndHostLists}
use Rattle.sudoers_undecided.specs.declared.wanted_members.CountedList.{CountedList}
use Rattle.sudoers_undecided.specs.MatchTests.{match_tests_of_request, undecided_by_files_or_paths}
use Rattle.sudoers_undecided.specs.RowParts.{CouldTurnScope, CouldTurnScopeList}
use Rattle.sudoers_undecided.specs.UndecidedListing.{CouldTurnDefaults}
use Rattle.sudoers_undecided.specs.internal.Counted.{counted_list}
use Rattle.sudoers_undecided.specs.internal.Rights.{AddsLists, CouldTurnDefaultsOfKind, CouldTurnScopeListOfKind, CouldTurnScopeOfKind}
use Rattle.sudoers_undecided.specs.internal.Settings.{AddsOnlyScopeList, HasScopeList, HaveScopesGrown, IsListOfScope, IsScopeStandingOfKind}
use Rattle.sudoers_undecided.proofs.UserAndHostLists.{list_added, no_new_list_added, nothing_added, same_atoms_added}

module _ (lines : List Line) (r : Request) where
  turned_or_list : (line : ℕ) (scope : ScopeView) (st : PartStanding) (old : Type 0) (l : CountedList) (same : Type 0) → old ⊎ (same × IsListOfScope line scope st l) → old ⊎ ((st.could_turn ≡ true) × (l ≡ counted_list line scope.members st.holds))
  turned_or_list line scope st old l same (inl before) = inl before
  turned_or_list line scope st old l same (inr new) = inr (new.1.could_turn, new.1.is)

  before_if_not_same : (old other : Type 0) (same : Type 0) → (same → ⊥) → old ⊎ (same × other) → old
  before_if_not_same old other same never (inl before) = before
  before_if_not_same old other same never (inr new) = absurd (never new.0)

  pub scope_list_added : (c e : UserAndHostLists) (line : ℕ) (scope : ScopeView) (k : Kind) (st : PartStanding) → IsScopeStandingOfKind lines r scope k st → HaveScopesGrown c e
      → (st.could_turn ≡ true → HasScopeList e line scope k st) → AddsOnlyScopeList c e line scope k st
      → AddsLists lines r (CouldTurnScopeListOfKind User lines r k (members_of_view scope.members)) (CouldTurnScopeListOfKind Host lines r k (members_of_view scope.members)) c e
  scope_list_added c e line scope User st stands grown has only = record {
    users = same_atoms_added User lines (undecided_by_files_or_paths r).user (match_tests_of_request r).user
        (CouldTurnScopeList lines (undecided_by_files_or_paths r) (match_tests_of_request r) User (members_of_view scope.members)) (CouldTurnScopeListOfKind User lines r User (members_of_view scope.members)) c.users.items e.users.items
        (λ s t. t.1) (λ s t. (refl, t))
        (list_added User lines (undecided_by_files_or_paths r).user (match_tests_of_request r).user c.users.items e.users.items line scope.members st grown.users has
        (λ l h. turned_or_list line scope st (ListHasElement c.users.items l) l (User ≡ User) (only.users l h)) stands);
    hosts = no_new_list_added Host lines (undecided_by_files_or_paths r).host (match_tests_of_request r).host (CouldTurnScopeListOfKind Host lines r User (members_of_view scope.members)) c.hosts.items e.hosts.items
        grown.hosts (λ l h. before_if_not_same (ListHasElement c.hosts.items l) (IsListOfScope line scope st l) (User ≡ Host) (λ same. cc) (only.hosts l h)) (λ s t. let same = t.0 in cc);
  }
  scope_list_added c e line scope Host st stands grown has only = record {
    users = no_new_list_added User lines (undecided_by_files_or_paths r).user (match_tests_of_request r).user (CouldTurnScopeListOfKind User lines r Host (members_of_view scope.members)) c.users.items e.users.items
        grown.users (λ l h. before_if_not_same (ListHasElement c.users.items l) (IsListOfScope line scope st l) (Host ≡ User) (λ same. cc) (only.users l h)) (λ s t. let same = t.0 in cc);
    hosts = same_atoms_added Host lines (undecided_by_files_or_paths r).host (match_tests_of_request r).host
        (CouldTurnScopeList lines (undecided_by_files_or_paths r) (match_tests_of_request r) Host (members_of_view scope.members)) (CouldTurnScopeListOfKind Host lines r Host (members_of_view scope.members)) c.hosts.items e.hosts.items
        (λ s t. t.1) (λ s t. (refl, t))
        (list_added Host lines (undecided_by_files_or_paths r).host (match_tests_of_request r).host c.hosts.items e.hosts.items line scope.members st grown.hosts has
        (λ l h. turned_or_list line scope st (ListHasElement c.hosts.items l) l (Host ≡ Host) (only.hosts l h)) stands);
  }
  scope_list_added c e line scope Runas st stands grown has only = record {
    users = no_new_list_added User lines (undecided_by_files_or_paths r).user (match_tests_of_request r).user (CouldTurnScopeListOfKind User lines r Runas (members_of_view scope.members)) c.users.items e.users.items
        grown.users (λ l h. before_if_not_same (ListHasElement c.users.items l) (IsListOfScope line scope st l) (Runas ≡ User) (λ same. cc) (only.users l h)) (λ s t. t.1);
    hosts = no_new_list_added Host lines (undecided_by_files_or_paths r).host (match_tests_of_request r).host (CouldTurnScopeListOfKind Host lines r Runas (members_of_view scope.members)) c.hosts.items e.hosts.items
        grown.hosts (λ l h. before_if_not_same (ListHasElement c.hosts.items l) (IsListOfScope line scope st l) (Runas ≡ Host) (λ same. cc) (only.hosts l h)) (λ s t. t.1);
  }
  scope_list_added c e line scope Cmnd st stands grown has only = record {
    users = no_new_list_added User lines (undecided_by_files_or_paths r).user (match_tests_of_request r).user (CouldTurnScopeListOfKind User lines r Cmnd (members_of_view scope.members)) c.users.items e.users.items
        grown.users (λ l h. before_if_not_same (ListHasElement c.users.items l) (IsListOfScope line scope st l) (Cmnd ≡ User) (λ same. cc) (only.users l h)) (λ s t. t.1);
    hosts = no_new_list_added Host lines (undecided_by_files_or_paths r).host (match_tests_of_request r).host (CouldTurnScopeListOfKind Host lines r Cmnd (members_of_view scope.members)) c.hosts.items e.hosts.items
        grown.hosts (λ l h. before_if_not_same (ListHasElement c.hosts.items l) (IsListOfScope line scope st l) (Cmnd ≡ Host) (λ same. cc) (only.hosts l h)) (λ s t. t.1);
  }

  pub no_lists_added : (TurnsUsers TurnsHosts : SignedAtom → Type 0) (lists : UserAndHostLists) → ((s : SignedAtom) → TurnsUsers s → ⊥) → ((s : SignedAtom) → TurnsHosts s → ⊥) → AddsLists lines r TurnsUsers TurnsHosts lists lists
  no_lists_added TurnsUsers TurnsHosts lists users hosts = record {
    users = nothing_added User lines (undecided_by_files_or_paths r).user (match_tests_of_request r).user TurnsUsers lists.users.items users;
    hosts = nothing_added Host lines (undecided_by_files_or_paths r).host (match_tests_of_request r).host TurnsHosts lists.hosts.items hosts;
  }

  pub other_lines_turn_nothing : (k : Kind) (n : NodeView) → ((scope : Option ScopeView) (params : RowsOfTable ParamRow) → n ≡ view.Defaults scope params → ⊥) → (s : SignedAtom) → CouldTurnDefaultsOfKind k lines r (node_of_view n) s → ⊥
  other_lines_turn_nothing k (view.Defaults scope params) other s t = other scope params refl
  other_lines_turn_nothing k (view.Spec users groups) other s t = t
  other_lines_turn_nothing k (view.Alias j defs) other s t = t
  other_lines_turn_nothing k view.Blank other s t = t
  other_lines_turn_nothing k view.Comment other s t = t
  other_lines_turn_nothing k (view.Include dir path) other s t = t

  -- ---- a Defaults line could be turned by its scope of users or of hosts

  list_of_users_or_hosts : (k : Kind) (ms : List Member) (s : SignedAtom) → CouldTurnScopeList lines (undecided_by_files_or_paths r) (match_tests_of_request r) k ms s → CouldTurnScopeListOfKind User lines r k ms s ⊎ CouldTurnScopeListOfKind Host lines r k ms s
  list_of_users_or_hosts User ms s t = inl (refl, t)
  list_of_users_or_hosts Host ms s t = inr (refl, t)
  list_of_users_or_hosts Runas ms s t = absurd t
  list_of_users_or_hosts Cmnd ms s t = absurd t

  scope_of_users_or_hosts : (scope : Option Scope) (s : SignedAtom) → CouldTurnScope lines (undecided_by_files_or_paths r) (match_tests_of_request r) scope s → CouldTurnScopeOfKind User lines r scope s ⊎ CouldTurnScopeOfKind Host lines r scope s
  scope_of_users_or_hosts None s t = absurd t
  scope_of_users_or_hosts (Some scope) s t = list_of_users_or_hosts scope.kind scope.members s t

  pub defaults_of_users_or_hosts : (n : Node) (s : SignedAtom) → CouldTurnDefaults lines (undecided_by_files_or_paths r) (match_tests_of_request r) n s → CouldTurnDefaultsOfKind User lines r n s ⊎ CouldTurnDefaultsOfKind Host lines r n s
  defaults_of_users_or_hosts (node.Defaults scope params) s t = scope_of_users_or_hosts scope s t
  defaults_of_users_or_hosts (node.Spec users groups) s t = absurd t
  defaults_of_users_or_hosts (node.Alias k defs) s t = absurd t
  defaults_of_users_or_hosts node.Blank s t = absurd t
  defaults_of_users_or_hosts node.Comment s t = absurd t
  defaults_of_users_or_hosts (node.Include dir path) s t = absurd t

  scope_turns : (k : Kind) (scope : Option Scope) (s : SignedAtom) → CouldTurnScopeOfKind k lines r scope s → CouldTurnScope lines (undecided_by_files_or_paths r) (match_tests_of_request r) scope s
  scope_turns k None s t = t
  scope_turns k (Some scope) s t = t.1

  pub defaults_turn : (k : Kind) (n : Node) (s : SignedAtom) → CouldTurnDefaultsOfKind k lines r n s → CouldTurnDefaults lines (undecided_by_files_or_paths r) (match_tests_of_request r) n s
  defaults_turn k (node.Defaults scope params) s t = scope_turns k scope s t
  defaults_turn k (node.Spec users groups) s t = t
  defaults_turn k (node.Alias j defs) s t = t
  defaults_turn k node.Blank s t = t
  defaults_turn k node.Comment s t = t
  defaults_turn k (node.Include dir path) s t = t
