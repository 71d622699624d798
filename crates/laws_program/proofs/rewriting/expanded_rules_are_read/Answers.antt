use Rattle.sudoers_cvt_rules.specs.Rules.{Rules, rule_nodes_in_print_order, printed_rules}
use Rattle.sudoers_cvt_rewrite.specs.Rewrite.{rules_with_used_definitions}
use Rattle.laws_program.specs.Expanded.{lines_with_aliases_replaced}
use Rattle.laws_program.proofs.OnlyFile.{text_of_nodes_loads_as_only_file}
use Rattle.laws_program.proofs.Written.{printed_expanded_rules_are_read}
use Rattle.laws_program.proofs.rewriting.expanded_rules_are_read.Goals as goal

pub returns : goal.returns
returns c lines is size =
    let rules : Rules = rules_with_used_definitions (lines_with_aliases_replaced lines) in
    text_of_nodes_loads_as_only_file c.text_loads.ensures.loads (printed_rules rules) (rule_nodes_in_print_order rules)
    (printed_expanded_rules_are_read c.printed_line_is_read.ensures c.printed_line_is_line.ensures.alone c.printed_lines_are_cut.ensures c.read_is.ensures
    c.one_outcome.ensures c.expanded_rules_can_be_written.ensures lines is size)
