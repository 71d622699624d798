use Rattle.std.proofs.Common.{List, subst, sym}
use Rattle.sudoers_tree.specs.Line.{Line}
use Rattle.sudoers_match.specs.Answer.{Answer}
use Rattle.sudoers_match.specs.Found.{answer_without_member_and_settings}
use Rattle.sudoers_match.specs.Spellings.{is_spelled_command_match}
use Rattle.sudoers_list.specs.Inner.{MemberMatchesCommand}
use Rattle.sudoers_list.specs.internal.Inside.{deciding_rule_of_held_and_settings}
use Rattle.sudoers_list.specs.Rule.{DecidingRuleOnLine}
use Rattle.sudoers_list.proofs.Ruled.{deciding_rule_member_matches_command}
use Rattle.sudoers_list.proofs.answer_reason.find_answer_reason.Goals as goal

pub find_deciding_alias_member-requires : goal.find_deciding_alias_member-requires
find_deciding_alias_member-requires c =
    let a : Answer = answer_without_member_and_settings c.args.found.now in
    let held = c.deciding_rule_of_found_answer-rule.ensures.rule in
    let rule : DecidingRuleOnLine = deciding_rule_of_held_and_settings c.deciding_rule_of_found_answer-rule.result held.0 in
    subst (λ (ls : List Line). MemberMatchesCommand ls (is_spelled_command_match c.args.command.now) rule.command.member) (sym c.requires.same)
    (deciding_rule_member_matches_command c.args.policy.now.walk.lines (is_spelled_command_match c.args.command.now) c.args.request.now a rule c.requires.answer held.2)
