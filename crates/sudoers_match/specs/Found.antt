-- The command of the row that answers a request: on which line it stands, and what holds of it.
use Rattle.std.specs.Prelude.{◌≡◌, ◌+◌, ℕ, List, [], ◌∷◌, slice_get, Some}
use Rattle.std.specs.List.{cons_option}
use Rattle.std.specs.Option.{option_map}
use Rattle.sudoers_grammar.specs.Node.{HostGroup}
use Rattle.sudoers_line_rows.specs.View.{member_of_view}
use Rattle.sudoers_tree.specs.Line.{Line}
use Rattle.sudoers_match.specs.declared.answer_of_row.AnswerWithMemberAndSettings.{AnswerWithMemberAndSettings}
use Rattle.sudoers_match.specs.Answer.{Answer, answer_of_view}
use Rattle.sudoers_match.specs.Heads.{AccumulatedCommandSettings, empty_command_settings, commands_with_settings}
use Rattle.sudoers_match.specs.IsHead.{HoldsCommandSettings}
use Rattle.sudoers_match.specs.Specs.{UserSpec, user_spec_in_node}

-- the user specifications, each with the number of its line, of lines that are numbered from this on
abbrev pub specs_with_line_numbers : ℕ → List Line → List (ℕ × UserSpec)
specs_with_line_numbers n [] = []
specs_with_line_numbers n (line ∷ lines) = cons_option (option_map (λ (s : UserSpec). (n, s)) (user_spec_in_node line.node)) (specs_with_line_numbers (n + 1) lines)

-- the answer that is found
abbrev pub answer_without_member_and_settings : AnswerWithMemberAndSettings → Answer
answer_without_member_and_settings found = answer_of_view found.answer

-- Of the commands of the host group it is the one with the number of the answer, with all that holds of it.
pub record HasMemberAndSettingsFromHostGroup (group : HostGroup) (found : AnswerWithMemberAndSettings) : Type 0 where
  pub head : AccumulatedCommandSettings
  pub is_head : HoldsCommandSettings found.head head
  pub stands : slice_get (commands_with_settings empty_command_settings group.commands) found.answer.command ≡ Some (head, member_of_view found.member)

-- It stands in the host group with the number of the answer.
pub record HasMemberAndSettingsFromHostGroups (groups : List HostGroup) (found : AnswerWithMemberAndSettings) : Type 0 where
  pub group : HostGroup
  pub stands : slice_get groups found.answer.host_group ≡ Some group
  pub in_group : HasMemberAndSettingsFromHostGroup group found

-- It stands in the user specification with the number of the answer, whose line has this number.
pub record HasMemberAndSettingsFromLines (lines : List Line) (found : AnswerWithMemberAndSettings) : Type 0 where
  pub spec : UserSpec
  pub stands : slice_get (specs_with_line_numbers 0 lines) found.answer.spec ≡ Some (found.line, spec)
  pub in_groups : HasMemberAndSettingsFromHostGroups spec.groups found
