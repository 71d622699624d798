-- A device of the proof, which no public contract cites: what is known of the aliases for one request.
use Rattle.std.specs.Prelude.{◌≡◌, ℕ, Bool, true, false, List, ◌++◌, drop, Option, Some, None}
use Rattle.std.specs.List.{AllByRecursion}
use Rattle.sudoers_grammar.specs.declared.node.Kind.TheVariants.{User, Runas, Host, Cmnd}
use Rattle.sudoers_grammar.specs.Node.{RunasSpec, Member, CmdSpec, HostGroup}
use Rattle.sudoers_line_rows.specs.declared.view.Member.{Member as MemberHeld}
use Rattle.sudoers_tree.specs.Line.{Line}
use Rattle.sudoers_match_member.specs.declared.people_and_commands.Group.{Group}
use Rattle.sudoers_match_member.specs.declared.people_and_commands.Person.{Person}
use Rattle.sudoers_match_member.specs.declared.people_and_commands.Who.{Who}
use Rattle.sudoers_match_member.specs.Hits.{is_user_atom_match, is_runas_group_atom_match, is_host_atom_match}
use Rattle.sudoers_match_list.specs.declared.verdict.MemberHit.{MemberHit}
use Rattle.sudoers_match_list.specs.declared.alias_verdicts.AliasVerdictCache.{AliasVerdictCache}
use Rattle.sudoers_match_list.specs.Search.{IsValidVerdictCache}
use Rattle.sudoers_match.specs.declared.request_verdicts.RequestVerdictCache.{RequestVerdictCache}
use Rattle.sudoers_match.specs.declared.matching_host_groups.HostGroupPlace.{HostGroupPlace}
use Rattle.sudoers_match.specs.declared.answer_of_row.Answer.{Answer as AnswerHeld}
use Rattle.sudoers_match.specs.declared.answer_of_row.AnswerWithMemberAndSettings.{AnswerWithMemberAndSettings}
use Rattle.sudoers_match.specs.declared.answer_of_row.SpecGroupCommandNumbers.{SpecGroupCommandNumbers}
use Rattle.sudoers_match_member.specs.declared.request.Request.{Request}
use Rattle.sudoers_match.specs.Answer.{Answer, IsAnswerOfRowsByTest, RowFitsRequestByTest, tags_with_setenv_by_all}
use Rattle.sudoers_match.specs.Spellings.{is_spelled_command_match}
use Rattle.sudoers_match.specs.declared.request_verdicts.RequestContext.{RequestContext}
use Rattle.sudoers_grammar.specs.declared.node.Atom.{Atom}
use Rattle.sudoers_match.specs.Default.{IsRunasDefault}
use Rattle.sudoers_match.specs.Found.{HasMemberAndSettingsFromHostGroup, HasMemberAndSettingsFromHostGroups}
use Rattle.sudoers_match.specs.declared.command_settings.CommandSettings.{CommandSettings as HeadHeld}
use Rattle.sudoers_match.specs.Allows.{ListAllows}
use Rattle.sudoers_match.specs.Heads.{AccumulatedCommandSettings, empty_command_settings, commands_with_settings, final_tags_of}
use Rattle.sudoers_match.specs.IsHead.{HoldsCommandSettings}
use Rattle.sudoers_match.specs.Rows.{PrivilegeRow, AreRowsPerFlatAtomOfCommand}
use Rattle.sudoers_match.specs.Runas.{RunasGroupsAllow, RunasSpecAllows, is_group_absent_or_among}
use Rattle.sudoers_match.specs.Specs.{IsConcatenationOfParts}
use Rattle.sudoers_match.specs.internal.Straight.{RunasSpecLeadsToNoCycle}
use Rattle.sudoers_match.specs.Values.{final_values_of_options}

-- of the group that is asked for, if one is
abbrev pub IsValidGroupVerdictCache : List Line → Option Group → AliasVerdictCache → Type 0
IsValidGroupVerdictCache lines None verdicts = Unit {0}
IsValidGroupVerdictCache lines (Some g) verdicts = IsValidVerdictCache Runas lines (is_runas_group_atom_match g) verdicts

-- Its verdicts on commands are those by this test.
pub record IsValidRequestCache (lines : List Line) (test : Atom → Bool) (r : Request) (q : RequestVerdictCache) : Type 0 where
  pub default : IsRunasDefault lines r.who q.default.now
  pub users : IsValidVerdictCache User lines (is_user_atom_match r.who.user) q.users
  pub hosts : IsValidVerdictCache Host lines (is_host_atom_match r.who) q.hosts
  pub targets : IsValidVerdictCache Runas lines (is_user_atom_match r.target) q.targets
  pub groups : IsValidGroupVerdictCache lines r.target_group q.groups
  pub commands : IsValidVerdictCache Cmnd lines test q.commands
  pub own : q.own ≡ is_group_absent_or_among r.target.groups r.target_group

-- the test of the command of a request
abbrev pub command_test_of_context : RequestContext → Atom → Bool
command_test_of_context asked = is_spelled_command_match asked.command.now

-- What is known is right of the request that is asked.
abbrev pub IsValidCacheForContext : RequestContext → RequestVerdictCache → Type 0
IsValidCacheForContext asked = IsValidRequestCache asked.policy.now (command_test_of_context asked) asked.request.now

-- Of these rows the last that fits the request that is asked gives the answer.
abbrev pub IsAnswerOfRowsForContext : RequestContext → List PrivilegeRow → Option Answer → Type 0
IsAnswerOfRowsForContext asked = IsAnswerOfRowsByTest asked.policy.now (command_test_of_context asked) asked.request.now

-- The group part allows, or it does not; the same of the whole.
abbrev pub DecidesWhetherRunasGroupsAllow : List Line → Person → Option Group → List Member → Bool → Type 0
DecidesWhetherRunasGroupsAllow lines target group groups true = RunasGroupsAllow lines target group groups
DecidesWhetherRunasGroupsAllow lines target group groups false = RunasGroupsAllow lines target group groups → ⊥

abbrev pub DecidesWhetherRunasSpecAllows : List Line → Who → Person → Option Group → Option RunasSpec → Bool → Type 0
DecidesWhetherRunasSpecAllows lines who target group runas true = RunasSpecAllows lines who target group runas
DecidesWhetherRunasSpecAllows lines who target group runas false = RunasSpecAllows lines who target group runas → ⊥

-- What is known of a Runas_Spec is right: whether it permits the user and the group that are asked for.
abbrev pub IsKnownRunasDecision : List Line → Request → Option RunasSpec → Option Bool → Type 0
IsKnownRunasDecision lines r runas None = Unit {0}
IsKnownRunasDecision lines r runas (Some allowed) = DecidesWhetherRunasSpecAllows lines r.who r.target r.target_group runas allowed

-- the answer that a command gives where an atom of its list says this
abbrev pub answer_of_command_hit : SpecGroupCommandNumbers → AccumulatedCommandSettings → MemberHit → Answer
answer_of_command_hit place head hit = record {
  allow = hit.allow;
  spec = place.spec;
  host_group = place.host_group;
  command = place.command;
  tags = tags_with_setenv_by_all hit.by_all (final_tags_of head.tags);
  options = final_values_of_options head.options;
}

-- the place that an answer has
abbrev pub spec_group_command_numbers_of_answer : AnswerHeld → SpecGroupCommandNumbers
spec_group_command_numbers_of_answer a = record { spec = a.spec; host_group = a.host_group; command = a.command }

-- what is found with an answer
abbrev pub answer_with_member_and_settings : ℕ → HeadHeld → MemberHeld → AnswerHeld → AnswerWithMemberAndSettings
answer_with_member_and_settings line head member answer = record { answer = answer; line = line; head = head; member = member }

-- It stands in a host group with this place, on the line with this number.
pub record HasMemberAndSettingsFromGroupAtPlace (number : ℕ) (at : HostGroupPlace) (group : HostGroup) (found : AnswerWithMemberAndSettings) : Type 0 where
  pub line : found.line ≡ number
  pub spec : found.answer.spec ≡ at.spec
  pub host_group : found.answer.host_group ≡ at.host_group
  pub in_group : HasMemberAndSettingsFromHostGroup group found

-- It stands in a user specification with this number, on the line with this number.
pub record HasMemberAndSettingsFromSpecAtNumber (number i : ℕ) (groups : List HostGroup) (found : AnswerWithMemberAndSettings) : Type 0 where
  pub line : found.line ≡ number
  pub spec : found.answer.spec ≡ i
  pub in_groups : HasMemberAndSettingsFromHostGroups groups found

-- The rows of all begin with those of the things before this one, of which the last that fits gives the answer; those of the things
-- that are left follow.
pub record IsAnswerOfRowsSoFar {X : Type 0} (Part : ℕ → X → List PrivilegeRow → Type 0) (lines : List Line) (test : Atom → Bool) (r : Request) (all : List X) (i : ℕ) (left : List X) (latest : Option Answer) : Type 0 where
  pub holds : (rows : List PrivilegeRow) → IsConcatenationOfParts Part 0 all rows
      → (before : List PrivilegeRow) × (rest : List PrivilegeRow) × (rows ≡ before ++ rest) × IsAnswerOfRowsByTest lines test r before latest × IsConcatenationOfParts Part i left rest

-- Of the rows of the things from this number on none fits.
pub record HasNoFittingRowBehind {X : Type 0} (Part : ℕ → X → List PrivilegeRow → Type 0) (lines : List Line) (test : Atom → Bool) (r : Request) (all : List X) (i : ℕ) : Type 0 where
  pub none : (left : List X) (rows : List PrivilegeRow) → left ≡ drop i all → IsConcatenationOfParts Part i left rows → AllByRecursion (λ row. RowFitsRequestByTest lines test r row → ⊥) rows

-- The same of the commands of a list, with what those before this one leave.
pub record IsAnswerOfCommandsSoFar (lines : List Line) (test : Atom → Bool) (r : Request) (spec host_group : ℕ) (hosts : List Member) (cs : List CmdSpec) (i : ℕ) (held : HeadHeld) (latest : Option Answer) : Type 0 where
  pub head : AccumulatedCommandSettings
  pub is_head : HoldsCommandSettings held head
  pub left : drop i (commands_with_settings empty_command_settings cs) ≡ commands_with_settings head (drop i cs)
  pub straight : RunasSpecLeadsToNoCycle lines head.runas
  pub so_far : (users : List Member) → ListAllows User lines (is_user_atom_match r.who.user) users
      → IsAnswerOfRowsSoFar (AreRowsPerFlatAtomOfCommand lines spec host_group users hosts) lines test r (commands_with_settings empty_command_settings cs) i (commands_with_settings head (drop i cs)) latest
