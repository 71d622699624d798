-- What a row asks of a request, part by part, and the members that could turn a part.
use Rattle.std.specs.Prelude.{◌≡◌, ℕ, true, false, List, [], ◌∷◌, ◌++◌, Option, Some, None}
use Rattle.std.specs.List.{AllByRecursion}
use Rattle.sudoers_grammar.specs.declared.node.Kind.{Kind}
use Rattle.sudoers_grammar.specs.declared.node.Kind.TheVariants.{User, Host, Runas, Cmnd}
use Rattle.sudoers_grammar.specs.Node.{Member, RunasSpec, Scope}
use Rattle.sudoers_tree.specs.Line.{Line}
use Rattle.sudoers_match_member.specs.declared.people_and_commands.Group.{Group}
use Rattle.sudoers_match_member.specs.declared.people_and_commands.Person.{Person}
use Rattle.sudoers_match_member.specs.declared.request.Request.{Request}
use Rattle.sudoers_match_member.specs.Hits.{is_name_equal_ignoring_case}
use Rattle.sudoers_match_list.specs.declared.verdict.Verdict.{Verdict}
use Rattle.sudoers_match_list.specs.Flat.{IsListVerdict, SignedAtom}
use Rattle.sudoers_match.specs.Allows.{ListAllows}
use Rattle.sudoers_match.specs.Default.{runas_defaults_of_lines, runas_name_or_root}
use Rattle.sudoers_match.specs.Last.{IsLastItemWith}
use Rattle.sudoers_match.specs.Moment.{is_in_option_time_bounds}
use Rattle.sudoers_match.specs.Rows.{PrivilegeRow}
use Rattle.sudoers_match.specs.Runas.{is_group_absent_or_among, is_allowed_by_verdict_or_own_group}
use Rattle.sudoers_match.specs.Values.{final_values_of_options}
use Rattle.sudoers_undecided.specs.MatchTests.{MatchTests}
use Rattle.sudoers_undecided.specs.TurningMembers.{CouldTurnList}
use Rattle.sudoers_undecided.specs.declared.request_part.RequestPart.{RequestPart}
use Rattle.sudoers_undecided.specs.declared.request_part.RequestPart.TheVariants as part

-- ---- runas_default

abbrev pub IsScopeListForUserOrHostByTests : List Line → MatchTests → Kind → List Member → Type 0
IsScopeListForUserOrHostByTests lines tests User ms = ListAllows User lines tests.user ms
IsScopeListForUserOrHostByTests lines tests Host ms = ListAllows Host lines tests.host ms
IsScopeListForUserOrHostByTests lines tests Runas ms = ⊥
IsScopeListForUserOrHostByTests lines tests Cmnd ms = ⊥

abbrev pub IsScopeForUserOnHostByTests : List Line → MatchTests → Option Scope → Type 0
IsScopeForUserOnHostByTests lines tests None = Unit {0}
IsScopeForUserOnHostByTests lines tests (Some scope) = IsScopeListForUserOrHostByTests lines tests scope.kind scope.members

-- The name of the user as whom a command runs where nothing else is said, by these tests: the last setting counts.
pub record IsRunasDefaultByTests (lines : List Line) (tests : MatchTests) (name : List ℕ) : Type 0 where
  pub last : Option (Option Scope × List ℕ)
  pub is_last : IsLastItemWith (λ setting. IsScopeForUserOnHostByTests lines tests setting.0) (runas_defaults_of_lines lines) last
  pub says : name ≡ runas_name_or_root last

abbrev pub CouldTurnScopeList : List Line → MatchTests → MatchTests → Kind → List Member → SignedAtom → Type 0
CouldTurnScopeList lines undecided tests User ms s = CouldTurnList User lines undecided.user tests.user false ms s
CouldTurnScopeList lines undecided tests Host ms s = CouldTurnList Host lines undecided.host tests.host false ms s
CouldTurnScopeList lines undecided tests Runas ms s = ⊥
CouldTurnScopeList lines undecided tests Cmnd ms s = ⊥

abbrev pub CouldTurnScope : List Line → MatchTests → MatchTests → Option Scope → SignedAtom → Type 0
CouldTurnScope lines undecided tests None s = ⊥
CouldTurnScope lines undecided tests (Some scope) s = CouldTurnScopeList lines undecided tests scope.kind scope.members s

-- It could turn whether a setting counts behind which no other does.
pub record CouldTurnRunasDefault (lines : List Line) (undecided tests : MatchTests) (s : SignedAtom) : Type 0 where
  pub setting : Option Scope × List ℕ
  pub before : List (Option Scope × List ℕ)
  pub after : List (Option Scope × List ℕ)
  pub stands : runas_defaults_of_lines lines ≡ before ++ setting ∷ after
  pub none_behind : AllByRecursion (λ (other : Option Scope × List ℕ). IsScopeForUserOnHostByTests lines tests other.0 → ⊥) after
  pub turns : CouldTurnScope lines undecided tests setting.0 s

-- ---- as whom a command runs

abbrev pub RunasUserListAllowsByTests : List Line → MatchTests → Person → Person → List Member → Type 0
RunasUserListAllowsByTests lines tests user target [] = target.uid ≡ user.uid
RunasUserListAllowsByTests lines tests user target (u ∷ us) = ListAllows Runas lines tests.target (u ∷ us)

abbrev pub RunasSpecAllowsUserByTests : List Line → MatchTests → Person → Person → Option RunasSpec → Type 0
RunasSpecAllowsUserByTests lines tests user target None = (name : List ℕ) × IsRunasDefaultByTests lines tests name × (is_name_equal_ignoring_case name target.name ≡ true)
RunasSpecAllowsUserByTests lines tests user target (Some s) = RunasUserListAllowsByTests lines tests user target s.users

abbrev pub RunasGroupListAllowsByTests : List Line → MatchTests → Person → Option Group → List Member → Type 0
RunasGroupListAllowsByTests lines tests target None groups = Unit {0}
RunasGroupListAllowsByTests lines tests target (Some g) groups =
    (verdict : Verdict) × IsListVerdict Runas lines (tests.group g) groups verdict × (is_allowed_by_verdict_or_own_group verdict (is_group_absent_or_among target.groups (Some g)) ≡ true)

abbrev pub RunasListsAllowGroupByTests : List Line → MatchTests → Person → Person → Option Group → List Member → List Member → Type 0
RunasListsAllowGroupByTests lines tests user target group [] [] = is_group_absent_or_among user.groups group ≡ true
RunasListsAllowGroupByTests lines tests user target group (u ∷ us) [] = is_group_absent_or_among target.groups group ≡ true
RunasListsAllowGroupByTests lines tests user target group [] (g ∷ gs) = RunasGroupListAllowsByTests lines tests target group (g ∷ gs)
RunasListsAllowGroupByTests lines tests user target group (u ∷ us) (g ∷ gs) = RunasGroupListAllowsByTests lines tests target group (g ∷ gs)

abbrev pub RunasSpecAllowsGroupByTests : List Line → MatchTests → Person → Person → Option Group → Option RunasSpec → Type 0
RunasSpecAllowsGroupByTests lines tests user target group None = is_group_absent_or_among target.groups group ≡ true
RunasSpecAllowsGroupByTests lines tests user target group (Some s) = RunasListsAllowGroupByTests lines tests user target group s.users s.groups

-- ---- the parts

-- What the row asks in this part holds of the request by these tests.
abbrev pub RowPartHolds : List Line → MatchTests → Request → PrivilegeRow → RequestPart → Type 0
RowPartHolds lines tests r row part.Users = ListAllows User lines tests.user row.users
RowPartHolds lines tests r row part.Hosts = ListAllows Host lines tests.host row.hosts
RowPartHolds lines tests r row part.RunasUsers = RunasSpecAllowsUserByTests lines tests r.who.user r.target row.head.runas
RowPartHolds lines tests r row part.RunasGroups = RunasSpecAllowsGroupByTests lines tests r.who.user r.target r.target_group row.head.runas
RowPartHolds lines tests r row part.Moment = is_in_option_time_bounds r.moment (final_values_of_options row.head.options) ≡ true
RowPartHolds lines tests r row part.Command = tests.command row.atom ≡ true

abbrev pub CouldTurnRunasUserList : List Line → MatchTests → MatchTests → List Member → SignedAtom → Type 0
CouldTurnRunasUserList lines undecided tests [] s = ⊥
CouldTurnRunasUserList lines undecided tests (u ∷ us) s = CouldTurnList Runas lines undecided.target tests.target false (u ∷ us) s

abbrev pub CouldTurnRunasSpecUsers : List Line → MatchTests → MatchTests → Option RunasSpec → SignedAtom → Type 0
CouldTurnRunasSpecUsers lines undecided tests None s = CouldTurnRunasDefault lines undecided tests s
CouldTurnRunasSpecUsers lines undecided tests (Some spec) s = CouldTurnRunasUserList lines undecided tests spec.users s

abbrev pub CouldTurnRunasGroupList : List Line → MatchTests → MatchTests → Person → Option Group → List Member → SignedAtom → Type 0
CouldTurnRunasGroupList lines undecided tests target None groups s = ⊥
CouldTurnRunasGroupList lines undecided tests target (Some g) [] s = ⊥
CouldTurnRunasGroupList lines undecided tests target (Some g) (m ∷ ms) s =
    CouldTurnList Runas lines (undecided.group g) (tests.group g) (is_group_absent_or_among target.groups (Some g)) (m ∷ ms) s

abbrev pub CouldTurnRunasSpecGroups : List Line → MatchTests → MatchTests → Person → Option Group → Option RunasSpec → SignedAtom → Type 0
CouldTurnRunasSpecGroups lines undecided tests target group None s = ⊥
CouldTurnRunasSpecGroups lines undecided tests target group (Some spec) s = CouldTurnRunasGroupList lines undecided tests target group spec.groups s

-- The signed atom could turn this part of the row.
abbrev pub CouldTurnRowPart : List Line → MatchTests → MatchTests → Request → PrivilegeRow → RequestPart → SignedAtom → Type 0
CouldTurnRowPart lines undecided tests r row part.Users s = CouldTurnList User lines undecided.user tests.user false row.users s
CouldTurnRowPart lines undecided tests r row part.Hosts s = CouldTurnList Host lines undecided.host tests.host false row.hosts s
CouldTurnRowPart lines undecided tests r row part.RunasUsers s = CouldTurnRunasSpecUsers lines undecided tests row.head.runas s
CouldTurnRowPart lines undecided tests r row part.RunasGroups s = CouldTurnRunasSpecGroups lines undecided tests r.target r.target_group row.head.runas s
CouldTurnRowPart lines undecided tests r row part.Moment s = ⊥
CouldTurnRowPart lines undecided tests r row part.Command s = (s ≡ row.atom) × (undecided.command s ≡ true)
