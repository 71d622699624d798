use Rattle.std.proofs.Common.{List, Option, ◌↔◌}
use Rattle.sudoers_tree.specs.Line.{Line}
use Rattle.sudoers_tree.specs.Load.{LoadedPolicy}
use Rattle.sudoers_match_member.specs.declared.request.Request.{Request}
use Rattle.sudoers_match.specs.Answer.{Answer, IsAnswerToRequest}
use Rattle.sudoers_cvt_rules.specs.Rules.{rule_nodes_in_print_order, printed_rules, rules_of_policy_lines}
use Rattle.laws_program.specs.ReadAs.{IsPolicyOfPrintedRules}
use Rattle.laws_program.specs.Sound.{AreWalkLinesWithoutNul}
use Rattle.laws_program.proofs.OnlyFile.{OnlyFileLoadedIsReadAsLines, only_file_text_is_read_as_nodes, printed_rules_are_read_as_policy_lines}
use Rattle.laws_program.proofs.PrintedAnswers.{printed_rules_keep_answers, printed_rules_keep_matching_host_groups, printed_rules_keep_runas_default}
use Rattle.laws_program.proofs.SameCycles.{printed_rules_keep_reachable_cycle}
use Rattle.laws_program.proofs.Second.{PrintedRulesAreRead, lines_read_of_print_are_rules}
use Rattle.laws_program.proofs.answers.printed_rules_answer.Goals as goal

pub returns : goal.returns
returns c = record {
  answer = λ lines policy sound is q answer. (answers lines policy sound is q answer).0;
  back = λ lines policy sound is q answer. (answers lines policy sound is q answer).1;
  groups = λ lines policy sound is. printed_rules_keep_matching_host_groups law c.rewritten_lists_are_alike.ensures c.alike_specs_have_same_groups.ensures
      c.read_member_matches_same.ensures lines policy.walk.lines sound is.size (printed_rules_are_read_as_policy_lines reads (rules_of_policy_lines lines) policy is);
  cycle = λ lines policy sound is. printed_rules_keep_reachable_cycle lines policy.walk.lines
      (lines_read_of_print_are_rules law lines policy.walk.lines sound is.size (printed_rules_are_read_as_policy_lines reads (rules_of_policy_lines lines) policy is));
  default = λ lines policy sound is. printed_rules_keep_runas_default law c.rewritten_lists_are_alike.ensures c.alike_defaults_are_same.ensures
      c.read_member_matches_same.ensures lines policy.walk.lines sound is.size (printed_rules_are_read_as_policy_lines reads (rules_of_policy_lines lines) policy is);
}
  where
    reads : OnlyFileLoadedIsReadAsLines
    reads = c.text_loads.ensures.reads

    law : PrintedRulesAreRead
    law lines sound size = only_file_text_is_read_as_nodes reads (printed_rules (rules_of_policy_lines lines)) (rule_nodes_in_print_order (rules_of_policy_lines lines)) (c.printed_rules_are_read.ensures lines sound size)

    answers : (lines : List Line) (policy : LoadedPolicy) → AreWalkLinesWithoutNul lines → IsPolicyOfPrintedRules (rules_of_policy_lines lines) policy → (q : Request) (answer : Option Answer)
        → IsAnswerToRequest lines q answer ↔ IsAnswerToRequest policy.walk.lines q answer
    answers lines policy sound is = printed_rules_keep_answers law c.rewritten_lists_are_alike.ensures c.equal_specs_answer_same.ensures
        c.read_member_matches_same.ensures lines policy.walk.lines sound is.size (printed_rules_are_read_as_policy_lines reads (rules_of_policy_lines lines) policy is)
