-- A device of the proof, which no public contract cites: the lists whose undecided members count in an answer.
use Rattle.std.specs.Prelude.{◌≡◌, ◌⊎◌, not, ℕ, Bool, true, false, List, [], ◌∷◌, ◌++◌, drop, Option, Some, None}
use Rattle.std.specs.List.{AllByRecursion}
use Rattle.std.specs.Option.{option_map}
use Rattle.sudoers_grammar.specs.declared.node.Kind.{Kind}
use Rattle.sudoers_grammar.specs.declared.node.Kind.TheVariants.{User, Host, Runas, Cmnd}
use Rattle.sudoers_grammar.specs.declared.node.Atom.{Atom}
use Rattle.sudoers_grammar.specs.Node.{CmdSpec, Member}
use Rattle.sudoers_line_rows.specs.declared.row_lists.RowsOfTable.{RowsOfTable}
use Rattle.sudoers_line_rows.specs.declared.rows.MemberRow.{MemberRow}
use Rattle.sudoers_line_rows.specs.declared.view.RunasSpec.{RunasSpec as RunasView}
use Rattle.sudoers_line_rows.specs.View.{members_of_view, runas_of_view}
use Rattle.sudoers_tree.specs.Line.{Line}
use Rattle.sudoers_check.specs.Chain.{ListHasElement}
use Rattle.sudoers_match_member.specs.declared.people_and_commands.Group.{Group}
use Rattle.sudoers_match_member.specs.declared.request.Request.{Request}
use Rattle.sudoers_match_member.specs.Hits.{is_command_atom_match, is_runas_group_atom_match}
use Rattle.sudoers_match_list.specs.Flat.{SignedAtom}
use Rattle.sudoers_match.specs.declared.command_settings.CommandSettings.{CommandSettings as HeadHeld}
use Rattle.sudoers_match.specs.Allows.{ListAllows}
use Rattle.sudoers_match.specs.Answer.{command_with_joined_arguments_of_request}
use Rattle.sudoers_match.specs.Heads.{AccumulatedCommandSettings, commands_with_settings, empty_command_settings}
use Rattle.sudoers_match.specs.IsHead.{HoldsCommandSettings}
use Rattle.sudoers_match.specs.Moment.{is_in_option_time_bounds}
use Rattle.sudoers_match.specs.Rows.{PrivilegeRow, AreRowsPerFlatAtomOfCommand}
use Rattle.sudoers_match.specs.Specs.{IsConcatenationOfParts}
use Rattle.sudoers_match.specs.Values.{final_values_of_options}
use Rattle.sudoers_undecided.specs.declared.asked_request.AskedRequest.{AskedRequest}
use Rattle.sudoers_undecided.specs.declared.asked_request.CommandLists.{CommandLists}
use Rattle.sudoers_undecided.specs.declared.asked_request.CountedParts.{CountedParts}
use Rattle.sudoers_undecided.specs.declared.counted_lists.CountedLists.{CountedLists}
use Rattle.sudoers_undecided.specs.declared.decided_aliases.DecidedAliases.{DecidedAliases}
use Rattle.sudoers_undecided.specs.declared.decided_aliases.PartStanding.{PartStanding}
use Rattle.sudoers_undecided.specs.declared.user_and_host_lists.UserAndHostLists.{UserAndHostLists}
use Rattle.sudoers_undecided.specs.declared.member_question.MemberQuestion.{MemberQuestion}
use Rattle.sudoers_undecided.specs.MemberQuestions.{is_atom_matched_by_question, is_undecided_by_question}
use Rattle.sudoers_undecided.specs.declared.request_aliases.RequestAliases.{RequestAliases}
use Rattle.sudoers_undecided.specs.declared.request_part.RequestPart.{RequestPart}
use Rattle.sudoers_undecided.specs.declared.request_part.RequestPart.TheVariants as part
use Rattle.sudoers_undecided.specs.declared.wanted_members.CountedList.{CountedList}
use Rattle.sudoers_undecided.specs.declared.wanted_members.WantedMembers.{WantedMembers}
use Rattle.sudoers_undecided.specs.ListSway.{is_bare_and_undecided}
use Rattle.sudoers_undecided.specs.MatchTests.{is_netgroup_or_non_unix_group_atom, match_tests_of_request, undecided_by_files_or_paths}
use Rattle.sudoers_undecided.specs.RowParts.{CouldTurnRunasDefault, CouldTurnRunasSpecGroups, CouldTurnRunasSpecUsers, IsRunasDefaultByTests, RunasSpecAllowsGroupByTests, RunasSpecAllowsUserByTests}
use Rattle.sudoers_undecided.specs.TurningMembers.{CouldTurnList}
use Rattle.sudoers_undecided.specs.UndecidedAnswer.{CouldChangeWhetherRowFits, RowFitsRequestByTests}
use Rattle.sudoers_undecided.specs.internal.Decided.{DecidesAllAliases, matched_by, undecided_by}
use Rattle.sudoers_undecided.specs.internal.Wanted.{AreFlat, IsWantedOfList, IsWantedOfLists, wanted_of_sign}

-- ---- what is asked

-- The aliases of a kind are decided by these tests.
pub record AreDecidedBy (lines : List Line) (k : Kind) (undecided : SignedAtom → Bool) (test : Atom → Bool) (d : DecidedAliases) : Type 0 where
  pub all : DecidesAllAliases lines d
  pub kind : d.kind ≡ k
  pub undecided_are : undecided_by d ≡ undecided
  pub matched_are : matched_by d ≡ test

-- the aliases of users and of hosts, as the request asks

abbrev pub AreUserAliases : List Line → Request → DecidedAliases → Type 0
AreUserAliases lines r d = AreDecidedBy lines User (is_bare_and_undecided (undecided_by_files_or_paths r).user) (match_tests_of_request r).user d

abbrev pub AreHostAliases : List Line → Request → DecidedAliases → Type 0
AreHostAliases lines r d = AreDecidedBy lines Host (is_bare_and_undecided (undecided_by_files_or_paths r).host) (match_tests_of_request r).host d

abbrev pub IsGroupQuestion : Option Group → MemberQuestion → Type 0
IsGroupQuestion None q = (s : SignedAtom) → is_undecided_by_question q s ≡ false
IsGroupQuestion (Some g) q = (is_undecided_by_question q ≡ is_bare_and_undecided is_netgroup_or_non_unix_group_atom) × (is_atom_matched_by_question q ≡ is_runas_group_atom_match g)

abbrev pub AreGroupAliases : List Line → Request → Option Group → DecidedAliases → Type 0
AreGroupAliases lines r None d = DecidesAllAliases lines d × ((s : SignedAtom) → undecided_by d s ≡ false)
AreGroupAliases lines r (Some g) d = AreDecidedBy lines Runas (is_bare_and_undecided ((undecided_by_files_or_paths r).group g)) ((match_tests_of_request r).group g) d

pub record AreAliasesOfRequest (lines : List Line) (r : Request) (a : RequestAliases) : Type 0 where
  pub users : AreUserAliases lines r a.users
  pub hosts : AreHostAliases lines r a.hosts
  pub targets : AreDecidedBy lines Runas (is_bare_and_undecided (undecided_by_files_or_paths r).target) (match_tests_of_request r).target a.targets
  pub groups : AreGroupAliases lines r r.target_group a.groups
  pub commands : AreDecidedBy lines Cmnd (undecided_by_files_or_paths r).command (is_command_atom_match (command_with_joined_arguments_of_request r)) a.commands

-- ---- which atoms the lists name

abbrev pub IsWantedOfScopes : List Line → Request → UserAndHostLists → SignedAtom → Type 0
IsWantedOfScopes lines r scopes s =
    IsWantedOfLists User lines (is_bare_and_undecided (undecided_by_files_or_paths r).user) (match_tests_of_request r).user scopes.users.items s
    ⊎ IsWantedOfLists Host lines (is_bare_and_undecided (undecided_by_files_or_paths r).host) (match_tests_of_request r).host scopes.hosts.items s

abbrev pub IsWantedOfGroupLists : List Line → Request → Option Group → List CountedList → SignedAtom → Type 0
IsWantedOfGroupLists lines r None lists s = ⊥
IsWantedOfGroupLists lines r (Some g) lists s = IsWantedOfLists Runas lines (is_bare_and_undecided ((undecided_by_files_or_paths r).group g)) ((match_tests_of_request r).group g) lists s

-- The lists name the atom in this part of a row.
abbrev pub CoversAtom : List Line → Request → UserAndHostLists → CountedLists → RequestPart → SignedAtom → Type 0
CoversAtom lines r scopes c part.Users s = IsWantedOfLists User lines (is_bare_and_undecided (undecided_by_files_or_paths r).user) (match_tests_of_request r).user c.users.items s
CoversAtom lines r scopes c part.Hosts s = IsWantedOfLists Host lines (is_bare_and_undecided (undecided_by_files_or_paths r).host) (match_tests_of_request r).host c.hosts.items s
CoversAtom lines r scopes c part.RunasUsers s =
    IsWantedOfLists Runas lines (is_bare_and_undecided (undecided_by_files_or_paths r).target) (match_tests_of_request r).target c.runas_users.items s
    ⊎ ((c.default ≡ true) × IsWantedOfScopes lines r scopes s)
CoversAtom lines r scopes c part.RunasGroups s = IsWantedOfGroupLists lines r r.target_group c.runas_groups.items s
CoversAtom lines r scopes c part.Moment s = ⊥
CoversAtom lines r scopes c part.Command s = IsWantedOfLists Cmnd lines (undecided_by_files_or_paths r).command (is_command_atom_match (command_with_joined_arguments_of_request r)) c.commands.items s

-- Each list of which atoms are named has a flat list.
abbrev pub AreGroupListsFlat : List Line → Option Group → List CountedList → Type 0
AreGroupListsFlat lines None lists = Unit {0}
AreGroupListsFlat lines (Some g) lists = AreFlat Runas lines lists

pub record AreCountedListsFlat (lines : List Line) (r : Request) (c : CountedLists) : Type 0 where
  pub users : AreFlat User lines c.users.items
  pub hosts : AreFlat Host lines c.hosts.items
  pub runas_users : AreFlat Runas lines c.runas_users.items
  pub runas_groups : AreGroupListsFlat lines r.target_group c.runas_groups.items
  pub commands : AreFlat Cmnd lines c.commands.items

-- Of each list of a scope an atom is wanted.
pub record AreScopeListsTurned (lines : List Line) (r : Request) (scopes : UserAndHostLists) : Type 0 where
  pub users : (l : CountedList) → ListHasElement scopes.users.items l
      → (s : SignedAtom) × IsWantedOfList User lines (is_bare_and_undecided (undecided_by_files_or_paths r).user) (match_tests_of_request r).user (members_of_view l.members) l.wanted s
  pub hosts : (l : CountedList) → ListHasElement scopes.hosts.items l
      → (s : SignedAtom) × IsWantedOfList Host lines (is_bare_and_undecided (undecided_by_files_or_paths r).host) (match_tests_of_request r).host (members_of_view l.members) l.wanted s

-- ---- lists that are added

abbrev pub counted_list : ℕ → RowsOfTable MemberRow → Bool → CountedList
counted_list line members holds = record { line = line; members = members; wanted = wanted_of_sign (not holds) }

abbrev pub command_list : ℕ → RowsOfTable MemberRow → WantedMembers → CountedList
command_list line members wanted = record { line = line; members = members; wanted = wanted }

abbrev pub users_list : CommandLists → CountedList
users_list l = counted_list l.line l.users l.standing.users.holds

abbrev pub hosts_list : CommandLists → CountedList
hosts_list l = counted_list l.line l.hosts l.standing.hosts.holds

abbrev pub runas_users_list : CommandLists → RunasView → CountedList
runas_users_list l spec = counted_list l.line spec.users l.standing.runas_users.holds

abbrev pub runas_groups_list : CommandLists → RunasView → CountedList
runas_groups_list l spec = counted_list l.line spec.groups l.standing.runas_groups.holds

-- What the flags say is so.
pub record HasNotedLists (c : CountedLists) (l : CommandLists) : Type 0 where
  pub users : c.has_users ≡ true → ListHasElement c.users.items (users_list l)
  pub hosts : c.has_hosts ≡ true → ListHasElement c.hosts.items (hosts_list l)
  pub runas_users : c.has_runas_users ≡ true → (spec : RunasView) → l.runas ≡ Some spec → ListHasElement c.runas_users.items (runas_users_list l spec)
  pub runas_groups : c.has_runas_groups ≡ true → (spec : RunasView) → l.runas ≡ Some spec → ListHasElement c.runas_groups.items (runas_groups_list l spec)

-- No list is gone.
pub record HaveGrown (c e : CountedLists) : Type 0 where
  pub users : (l : CountedList) → ListHasElement c.users.items l → ListHasElement e.users.items l
  pub hosts : (l : CountedList) → ListHasElement c.hosts.items l → ListHasElement e.hosts.items l
  pub runas_users : (l : CountedList) → ListHasElement c.runas_users.items l → ListHasElement e.runas_users.items l
  pub runas_groups : (l : CountedList) → ListHasElement c.runas_groups.items l → ListHasElement e.runas_groups.items l
  pub commands : (l : CountedList) → ListHasElement c.commands.items l → ListHasElement e.commands.items l
  pub default : c.default ≡ true → e.default ≡ true

abbrev pub HasRunasUsers : CountedLists → CommandLists → Option RunasView → Type 0
HasRunasUsers c l None = c.default ≡ true
HasRunasUsers c l (Some spec) = ListHasElement c.runas_users.items (runas_users_list l spec)

abbrev pub HasRunasGroups : CountedLists → CommandLists → Option RunasView → Type 0
HasRunasGroups c l None = Unit {0}
HasRunasGroups c l (Some spec) = ListHasElement c.runas_groups.items (runas_groups_list l spec)

-- Those lists of the command are there that are among the parts.
pub record HasListsOfParts (c : CountedLists) (l : CommandLists) (parts : CountedParts) : Type 0 where
  pub users : parts.users ≡ true → ListHasElement c.users.items (users_list l)
  pub hosts : parts.hosts ≡ true → ListHasElement c.hosts.items (hosts_list l)
  pub runas_users : parts.runas_users ≡ true → HasRunasUsers c l l.runas
  pub runas_groups : parts.runas_groups ≡ true → HasRunasGroups c l l.runas

-- No list is there.
pub record AreNoLists (c : CountedLists) : Type 0 where
  pub users : c.users.items ≡ []
  pub hosts : c.hosts.items ≡ []
  pub runas_users : c.runas_users.items ≡ []
  pub runas_groups : c.runas_groups.items ≡ []
  pub commands : c.commands.items ≡ []
  pub default : c.default ≡ false

-- The same lists are there.
pub record HaveSameLists (c e : CountedLists) : Type 0 where
  pub users : e.users.items ≡ c.users.items
  pub hosts : e.hosts.items ≡ c.hosts.items
  pub runas_users : e.runas_users.items ≡ c.runas_users.items
  pub runas_groups : e.runas_groups.items ≡ c.runas_groups.items
  pub commands : e.commands.items ≡ c.commands.items
  pub default : e.default ≡ c.default

-- Each list that is there was there before, or is one of those of the command that are among the parts, or of these of commands.
pub record AddsOnlyListsOfParts (c e : CountedLists) (l : CommandLists) (parts : CountedParts) (added : List CountedList) : Type 0 where
  pub users : (x : CountedList) → ListHasElement e.users.items x → ListHasElement c.users.items x ⊎ ((parts.users ≡ true) × (x ≡ users_list l))
  pub hosts : (x : CountedList) → ListHasElement e.hosts.items x → ListHasElement c.hosts.items x ⊎ ((parts.hosts ≡ true) × (x ≡ hosts_list l))
  pub runas_users : (x : CountedList) → ListHasElement e.runas_users.items x
      → ListHasElement c.runas_users.items x ⊎ ((parts.runas_users ≡ true) × (spec : RunasView) × (l.runas ≡ Some spec) × (x ≡ runas_users_list l spec))
  pub runas_groups : (x : CountedList) → ListHasElement e.runas_groups.items x
      → ListHasElement c.runas_groups.items x ⊎ ((parts.runas_groups ≡ true) × (spec : RunasView) × (l.runas ≡ Some spec) × (x ≡ runas_groups_list l spec))
  pub commands : (x : CountedList) → ListHasElement e.commands.items x → ListHasElement c.commands.items x ⊎ ListHasElement added x
  pub default : e.default ≡ true → (c.default ≡ true) ⊎ ((parts.runas_users ≡ true) × (l.runas ≡ None))

-- Each list that is there is one of those of the command that are among the parts, or of these of commands.
pub record HasOnlyListsOfParts (e : CountedLists) (l : CommandLists) (parts : CountedParts) (added : List CountedList) : Type 0 where
  pub start : CountedLists
  pub empty : AreNoLists start
  pub only : AddsOnlyListsOfParts start e l parts added

-- ---- how the lists of a command stand to a request

-- It is known whether the part holds, and whether it could be turned; the atoms that could turn it, and no others, are wanted.
pub record IsPartStanding (Holds : Type 0) (Turns Wanted : SignedAtom → Type 0) (st : PartStanding) : Type 0 where
  pub holds : st.holds ≡ true → Holds
  pub held : Holds → st.holds ≡ true
  pub turns : (s : SignedAtom) → Turns s → st.could_turn ≡ true
  pub turned : st.could_turn ≡ true → (s : SignedAtom) × Turns s
  pub wanted : (s : SignedAtom) → Turns s → Wanted s
  pub only : (s : SignedAtom) → Wanted s → Turns s

abbrev pub IsUsersStanding : List Line → Request → RowsOfTable MemberRow → PartStanding → Type 0
IsUsersStanding lines r users st = IsPartStanding (ListAllows User lines (match_tests_of_request r).user (members_of_view users))
    (CouldTurnList User lines (undecided_by_files_or_paths r).user (match_tests_of_request r).user false (members_of_view users))
    (IsWantedOfList User lines (is_bare_and_undecided (undecided_by_files_or_paths r).user) (match_tests_of_request r).user (members_of_view users) (wanted_of_sign (not st.holds))) st

abbrev pub IsHostsStanding : List Line → Request → RowsOfTable MemberRow → PartStanding → Type 0
IsHostsStanding lines r hosts st = IsPartStanding (ListAllows Host lines (match_tests_of_request r).host (members_of_view hosts))
    (CouldTurnList Host lines (undecided_by_files_or_paths r).host (match_tests_of_request r).host false (members_of_view hosts))
    (IsWantedOfList Host lines (is_bare_and_undecided (undecided_by_files_or_paths r).host) (match_tests_of_request r).host (members_of_view hosts) (wanted_of_sign (not st.holds))) st

abbrev pub IsWantedRunasUser : List Line → Request → UserAndHostLists → PartStanding → Option RunasView → SignedAtom → Type 0
IsWantedRunasUser lines r scopes st None s = IsWantedOfScopes lines r scopes s
IsWantedRunasUser lines r scopes st (Some spec) s =
    IsWantedOfList Runas lines (is_bare_and_undecided (undecided_by_files_or_paths r).target) (match_tests_of_request r).target (members_of_view spec.users) (wanted_of_sign (not st.holds)) s

abbrev pub IsRunasUsersStanding : List Line → Request → UserAndHostLists → Option RunasView → PartStanding → Type 0
IsRunasUsersStanding lines r scopes runas st =
    IsPartStanding (RunasSpecAllowsUserByTests lines (match_tests_of_request r) r.who.user r.target (option_map runas_of_view runas))
    (CouldTurnRunasSpecUsers lines (undecided_by_files_or_paths r) (match_tests_of_request r) (option_map runas_of_view runas)) (IsWantedRunasUser lines r scopes st runas) st

abbrev pub IsWantedGroupOf : List Line → Request → Option Group → PartStanding → List Member → SignedAtom → Type 0
IsWantedGroupOf lines r None st ms s = ⊥
IsWantedGroupOf lines r (Some g) st ms s = IsWantedOfList Runas lines (is_bare_and_undecided ((undecided_by_files_or_paths r).group g)) ((match_tests_of_request r).group g) ms (wanted_of_sign (not st.holds)) s

abbrev pub IsWantedRunasGroup : List Line → Request → PartStanding → Option RunasView → SignedAtom → Type 0
IsWantedRunasGroup lines r st None s = ⊥
IsWantedRunasGroup lines r st (Some spec) s = IsWantedGroupOf lines r r.target_group st (members_of_view spec.groups) s

abbrev pub IsRunasGroupsStanding : List Line → Request → Option RunasView → PartStanding → Type 0
IsRunasGroupsStanding lines r runas st =
    IsPartStanding (RunasSpecAllowsGroupByTests lines (match_tests_of_request r) r.who.user r.target r.target_group (option_map runas_of_view runas))
    (CouldTurnRunasSpecGroups lines (undecided_by_files_or_paths r) (match_tests_of_request r) r.target r.target_group (option_map runas_of_view runas)) (IsWantedRunasGroup lines r st runas) st

-- The lists are those of commands with this head, and it is known how they stand.
pub record AreListsOfCommand (lines : List Line) (r : Request) (scopes : UserAndHostLists) (head : AccumulatedCommandSettings) (l : CommandLists) : Type 0 where
  pub users : IsUsersStanding lines r l.users l.standing.users
  pub hosts : IsHostsStanding lines r l.hosts l.standing.hosts
  pub runas_are : option_map runas_of_view l.runas ≡ head.runas
  pub runas_users : IsRunasUsersStanding lines r scopes l.runas l.standing.runas_users
  pub runas_groups : IsRunasGroupsStanding lines r l.runas l.standing.runas_groups
  pub moment : l.standing.is_in_time ≡ is_in_option_time_bounds r.moment (final_values_of_options head.options)

-- The aliases are decided, the name is that of the user as whom a command runs where nothing else is said, and the scopes are those
-- that could turn that.
pub record IsAskedOfPolicy (asked : AskedRequest) : Type 0 where
  pub aliases : AreAliasesOfRequest asked.policy.now asked.request.now asked.aliases.now
  pub default : IsRunasDefaultByTests asked.policy.now (match_tests_of_request asked.request.now) asked.default.now
  pub scopes : (s : SignedAtom) → CouldTurnRunasDefault asked.policy.now (undecided_by_files_or_paths asked.request.now) (match_tests_of_request asked.request.now) s
      → IsWantedOfScopes asked.policy.now asked.request.now asked.scopes.now s
  pub only_scopes : (s : SignedAtom) → IsWantedOfScopes asked.policy.now asked.request.now asked.scopes.now s
      → CouldTurnRunasDefault asked.policy.now (undecided_by_files_or_paths asked.request.now) (match_tests_of_request asked.request.now) s
  pub turned_scopes : AreScopeListsTurned asked.policy.now asked.request.now asked.scopes.now

-- ---- rows that were counted

abbrev pub FitsNot : List Line → Request → PrivilegeRow → Type 0
FitsNot lines r row = RowFitsRequestByTests lines (match_tests_of_request r) r row → ⊥

-- Of each row behind which none of these fits the atoms are named that could have changed whether it fits.
abbrev pub CoversRows : List Line → Request → UserAndHostLists → CountedLists → List PrivilegeRow → Type 0
CoversRows lines r scopes c [] = Unit {0}
CoversRows lines r scopes c (row ∷ rows) =
    (AllByRecursion (FitsNot lines r) rows → (p : RequestPart) (s : SignedAtom) → CouldChangeWhetherRowFits lines (undecided_by_files_or_paths r) (match_tests_of_request r) r row p s → CoversAtom lines r scopes c p s)
    × CoversRows lines r scopes c rows

-- The atom could have changed, in this part, whether one of the rows fits behind which none does.
pub record CouldChangeOneOfRows (lines : List Line) (r : Request) (rows : List PrivilegeRow) (p : RequestPart) (s : SignedAtom) : Type 0 where
  pub row : PrivilegeRow
  pub before : List PrivilegeRow
  pub after : List PrivilegeRow
  pub stands : rows ≡ before ++ row ∷ after
  pub none_behind : AllByRecursion (FitsNot lines r) after
  pub could : CouldChangeWhetherRowFits lines (undecided_by_files_or_paths r) (match_tests_of_request r) r row p s

-- An atom is named only if it was before and none of the rows fits, or if it could have changed whether one of them fits.
abbrev pub NamesOnlyAtomsOfRows : List Line → Request → UserAndHostLists → CountedLists → CountedLists → List PrivilegeRow → Type 0
NamesOnlyAtomsOfRows lines r scopes c e rows = (p : RequestPart) (s : SignedAtom) → CoversAtom lines r scopes e p s
    → (CoversAtom lines r scopes c p s × AllByRecursion (FitsNot lines r) rows) ⊎ CouldChangeOneOfRows lines r rows p s

-- The rows were counted: one of them fits, or the lists before are still there.
pub record CountsRows (lines : List Line) (r : Request) (scopes : UserAndHostLists) (c e : CountedLists) (rows : List PrivilegeRow) : Type 0 where
  pub fits : (AllByRecursion (FitsNot lines r) rows → ⊥) ⊎ HaveGrown c e
  pub covers : CoversRows lines r scopes e rows
  pub only : NamesOnlyAtomsOfRows lines r scopes c e rows
  pub flats : AreCountedListsFlat lines r c → AreCountedListsFlat lines r e

-- The rows of the things before this one were counted.
abbrev pub CountsPartsSoFar : {X : Type 0} → (ℕ → X → List PrivilegeRow → Type 0) → List Line → Request → UserAndHostLists → CountedLists → CountedLists → List X → ℕ → List X → Type 0
CountsPartsSoFar Part lines r scopes c e all i left = (rows : List PrivilegeRow) → IsConcatenationOfParts Part 0 all rows
    → (before rest : List PrivilegeRow) × (rows ≡ before ++ rest) × CountsRows lines r scopes c e before × IsConcatenationOfParts Part i left rest

-- The same of the commands of a list.
pub record CountsCommandsSoFar (lines : List Line) (r : Request) (scopes : UserAndHostLists) (c e : CountedLists) (users hosts : List Member) (cs : List CmdSpec) (i : ℕ) (held : HeadHeld) (runas : Option RunasView) : Type 0 where
  pub head : AccumulatedCommandSettings
  pub runas_are : option_map runas_of_view runas ≡ head.runas
  pub is_head : HoldsCommandSettings held head
  pub left : drop i (commands_with_settings empty_command_settings cs) ≡ commands_with_settings head (drop i cs)
  pub so_far : (spec group : ℕ) → CountsPartsSoFar (AreRowsPerFlatAtomOfCommand lines spec group users hosts) lines r scopes c e (commands_with_settings empty_command_settings cs) i (commands_with_settings head (drop i cs))
