use Rattle.sudoers_cvt_rules.specs.Rules.{rule_nodes_in_print_order, printed_rules, rules_of_policy_lines}
use Rattle.laws_program.proofs.OnlyFile.{OnlyFileLoadedIsReadAsLines, only_file_text_is_read_as_nodes, printed_rules_are_read_as_policy_lines}
use Rattle.laws_program.proofs.Second.{PrintedRulesAreRead, second_printing_of_rules_is_same, second_printing_of_rules_fits}
use Rattle.laws_program.proofs.printing.second_printing_is_same.Goals as goal

pub returns : goal.returns
returns c = record {
  text = λ lines policy sound is. second_printing_of_rules_is_same law lines policy.walk.lines sound is.size (printed_rules_are_read_as_policy_lines reads (rules_of_policy_lines lines) policy is);
  size = λ lines policy sound is. second_printing_of_rules_fits law lines policy.walk.lines sound is.size (printed_rules_are_read_as_policy_lines reads (rules_of_policy_lines lines) policy is);
}
  where
    reads : OnlyFileLoadedIsReadAsLines
    reads = c.text_loads.ensures.reads

    law : PrintedRulesAreRead
    law lines sound size = only_file_text_is_read_as_nodes reads (printed_rules (rules_of_policy_lines lines)) (rule_nodes_in_print_order (rules_of_policy_lines lines)) (c.printed_rules_are_read.ensures lines sound size)
