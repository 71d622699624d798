-- Devices of the proof, which no public contract cites.
use Rattle.std.specs.Prelude.{◌≡◌, ℕ, false, List, [], ◌∷◌, ◌++◌, codes, Option, Some}
use Rattle.sudoers_grammar.specs.declared.node.Kind.TheVariants.{Runas}
use Rattle.sudoers_grammar.specs.Node.{Member}
use Rattle.sudoers_line_rows.specs.View.{member_of_view}
use Rattle.sudoers_tree.specs.Line.{Line, line_of_view}
use Rattle.sudoers_match.specs.Heads.{AccumulatedCommandSettings}
use Rattle.sudoers_match.specs.IsHead.{HoldsCommandSettings}
use Rattle.sudoers_cvt_spell.specs.Members.{printed_member_list}
use Rattle.sudoers_cvt_rules.specs.Effective.{effective_command}
use Rattle.sudoers_list.specs.declared.deciding_member.DecidingAliasMember.{DecidingAliasMember as InnerHeld}
use Rattle.sudoers_list.specs.declared.deciding_rule.NumberedLine.{NumberedLine}
use Rattle.sudoers_list.specs.declared.deciding_rule.DecidingRule.{DecidingRule as RuleHeld}
use Rattle.sudoers_list.specs.Inner.{InnerAliasMember}
use Rattle.sudoers_list.specs.Rule.{DecidingRuleOnLine}

-- what stands in parentheses, in two parts
abbrev pub printed_runas_groups_part : List Member → List ℕ
printed_runas_groups_part [] = []
printed_runas_groups_part (g ∷ gs) = codes " : " ++ printed_member_list false Runas (g ∷ gs)

-- what is held of a line
abbrev pub numbered_line_of_view : NumberedLine → ℕ × Line
numbered_line_of_view l = (l.number, line_of_view l.line)

-- what is held of a member of an alias
abbrev pub alias_member_of_view : InnerHeld → InnerAliasMember
alias_member_of_view inner = record { name = inner.name.now; member = member_of_view inner.member }

abbrev pub deciding_rule_of_held_and_settings : RuleHeld → AccumulatedCommandSettings → DecidingRuleOnLine
deciding_rule_of_held_and_settings r h = record { line = r.at.number; text = r.at.line.text.now; command = effective_command (h, member_of_view r.command.member) }

-- It is held of the rule that is wanted.
abbrev pub IsHeldDecidingRule : RuleHeld → Option DecidingRuleOnLine → Type 0
IsHeldDecidingRule r wanted = (h : AccumulatedCommandSettings) × HoldsCommandSettings r.command.head h × (wanted ≡ Some (deciding_rule_of_held_and_settings r h))
