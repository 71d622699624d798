use Rattle.sudoers_cvt_rules.specs.Rules.{rule_nodes_in_print_order, printed_rules}
use Rattle.sudoers_cvt_rewrite.specs.Rewrite.{rules_with_used_definitions}
use Rattle.laws_program.specs.Expanded.{lines_with_aliases_replaced}
use Rattle.laws_program.proofs.OnlyFile.{OnlyFileLoadedIsReadAsLines, only_file_text_is_read_as_nodes, printed_rules_are_read_as_policy_lines}
use Rattle.laws_program.proofs.Printed.{PrintedExpandedRulesAreRead}
use Rattle.laws_program.proofs.SecondExpansion.{second_printing_of_expansion_is_first, second_printing_of_expansion_fits}
use Rattle.laws_program.proofs.rewriting.second_printing_of_expansion_is_same.Goals as goal

pub returns : goal.returns
returns c = record {
  text = λ lines policy sound is. second_printing_of_expansion_is_first law lines policy.walk.lines sound is.size (printed_rules_are_read_as_policy_lines reads (rules_with_used_definitions (lines_with_aliases_replaced lines)) policy is);
  size = λ lines policy sound is. second_printing_of_expansion_fits law lines policy.walk.lines sound is.size (printed_rules_are_read_as_policy_lines reads (rules_with_used_definitions (lines_with_aliases_replaced lines)) policy is);
}
  where
    reads : OnlyFileLoadedIsReadAsLines
    reads = c.text_loads.ensures.reads

    law : PrintedExpandedRulesAreRead
    law lines sound size = only_file_text_is_read_as_nodes reads (printed_rules (rules_with_used_definitions (lines_with_aliases_replaced lines))) (rule_nodes_in_print_order (rules_with_used_definitions (lines_with_aliases_replaced lines))) (c.expanded_rules_are_read.ensures lines sound size)
