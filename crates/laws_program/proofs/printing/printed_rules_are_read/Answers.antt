use Rattle.sudoers_cvt_rules.specs.Rules.{rule_nodes_in_print_order, printed_rules, rules_of_policy_lines}
use Rattle.laws_program.proofs.OnlyFile.{text_of_nodes_loads_as_only_file}
use Rattle.laws_program.proofs.ReadLines.{printed_rules_of_policy_are_read}
use Rattle.laws_program.proofs.printing.printed_rules_are_read.Goals as goal

pub returns : goal.returns
returns c lines is size =
    text_of_nodes_loads_as_only_file c.text_loads.ensures.loads (printed_rules (rules_of_policy_lines lines)) (rule_nodes_in_print_order (rules_of_policy_lines lines))
    (printed_rules_of_policy_are_read c.printed_line_is_read.ensures c.printed_line_is_line.ensures.alone c.printed_lines_are_cut.ensures c.read_is.ensures
    c.one_outcome.ensures c.rules_can_be_written.ensures lines is size)
