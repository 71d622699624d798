-- The rule by which a request is answered, and where it stands (sudoers(5), User specification).
use Rattle.std.specs.Prelude.{ℕ, ◌+◌, Bool, List, [], ◌∷◌, slice_get, Option, option_and_then}
use Rattle.std.specs.List.{filter_map}
use Rattle.std.specs.Option.{option_map}
use Rattle.sudoers_grammar.specs.Node.{CmdSpec, HostGroup, Member}
use Rattle.sudoers_grammar.specs.declared.node.Tag.{Tag}
use Rattle.sudoers_grammar.specs.declared.node.Tag.TheVariants as tag
use Rattle.sudoers_tree.specs.Line.{Line}
use Rattle.sudoers_match.specs.declared.tags.CommandTags.{CommandTags}
use Rattle.sudoers_match.specs.Answer.{Answer}
use Rattle.sudoers_match.specs.Heads.{AccumulatedCommandSettings, empty_command_settings, commands_with_settings, given_options_in_order, final_value_of_option}
use Rattle.sudoers_match.specs.Specs.{UserSpec, user_spec_in_node}
use Rattle.sudoers_cvt_rules.specs.Effective.{given_tags_in_order}

-- ---- user specifications

-- lines, each with its number, from this on
abbrev pub lines_with_numbers : ℕ → List Line → List (ℕ × Line)
lines_with_numbers n [] = []
lines_with_numbers n (line ∷ lines) = (n, line) ∷ lines_with_numbers (n + 1) lines

-- the host groups of a user specification, with its line and the number of the line
pub record HostGroupsOnLine : Type 0 where
  pub line : ℕ
  pub text : List ℕ
  pub groups : List HostGroup

abbrev pub host_groups_on_line_from_line_and_spec : ℕ × Line → UserSpec → HostGroupsOnLine
host_groups_on_line_from_line_and_spec l s = record { line = l.0; text = l.1.text; groups = s.groups }

abbrev pub optional_host_groups_on_numbered_line : ℕ × Line → Option HostGroupsOnLine
optional_host_groups_on_numbered_line l = option_map (host_groups_on_line_from_line_and_spec l) (user_spec_in_node l.1.node)

-- those of each user specification, in their order, of lines that are numbered from this on
abbrev pub host_groups_of_spec_lines : ℕ → List Line → List HostGroupsOnLine
host_groups_of_spec_lines n lines = filter_map optional_host_groups_on_numbered_line (lines_with_numbers n lines)

-- ---- the rule

-- the command of a host group with this number, and all that holds of it
abbrev pub command_with_settings_at_number_in_group : ℕ → Option HostGroup → Option (AccumulatedCommandSettings × Member)
command_with_settings_at_number_in_group number group = option_and_then (λ (g : HostGroup). slice_get (commands_with_settings empty_command_settings g.commands) number) group

-- what tags say of a tag
abbrev pub tag_value_in_tags : CommandTags → Tag → Option Bool
tag_value_in_tags t tag.Exec = t.exec
tag_value_in_tags t tag.Follow = t.follow
tag_value_in_tags t tag.Intercept = t.intercept
tag_value_in_tags t tag.LogInput = t.log_input
tag_value_in_tags t tag.LogOutput = t.log_output
tag_value_in_tags t tag.Mail = t.mail
tag_value_in_tags t tag.Passwd = t.passwd
tag_value_in_tags t tag.Setenv = t.setenv

-- A command with all that holds of it. Its tags are those of the answer, the SETENV among them that `ALL` implies.
abbrev pub command_with_answer_tags : CommandTags → AccumulatedCommandSettings × Member → CmdSpec
command_with_answer_tags tags c = record { runas = c.0.runas; options = given_options_in_order (final_value_of_option c.0.options); tags = given_tags_in_order (tag_value_in_tags tags); member = c.1 }

-- a command by which a request is answered, and the line on which it stands: its number on the walk, from 0, and its text. The member of
-- the command says at which byte of the line it begins
pub record DecidingRuleOnLine : Type 0 where
  pub line : ℕ
  pub text : List ℕ
  pub command : CmdSpec

abbrev pub deciding_rule_from_answer_line_and_command : Answer → HostGroupsOnLine → AccumulatedCommandSettings × Member → DecidingRuleOnLine
deciding_rule_from_answer_line_and_command a spec c = record { line = spec.line; text = spec.text; command = command_with_answer_tags a.tags c }

abbrev pub rule_of_answer_in_spec : Answer → HostGroupsOnLine → Option DecidingRuleOnLine
rule_of_answer_in_spec a spec = option_map (deciding_rule_from_answer_line_and_command a spec) (command_with_settings_at_number_in_group a.command (slice_get spec.groups a.host_group))

-- the command by which the request is answered
abbrev pub deciding_rule : List Line → Answer → Option DecidingRuleOnLine
deciding_rule lines a = option_and_then (rule_of_answer_in_spec a) (slice_get (host_groups_of_spec_lines 0 lines) a.spec)
