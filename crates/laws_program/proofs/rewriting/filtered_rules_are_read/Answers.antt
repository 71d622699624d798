use Rattle.sudoers_cvt_rules.specs.Rules.{Rules, rule_nodes_in_print_order, printed_rules}
use Rattle.sudoers_cvt_rewrite.specs.Rewrite.{rewritten_lines_of_policy, rules_with_used_definitions}
use Rattle.laws_program.proofs.FilteredRules.{printed_rewritten_rules_are_read}
use Rattle.laws_program.proofs.OnlyFile.{text_of_nodes_loads_as_only_file}
use Rattle.laws_program.proofs.rewriting.filtered_rules_are_read.Goals as goal

pub returns : goal.returns
returns c changes lines is size =
    let rules : Rules = rules_with_used_definitions (rewritten_lines_of_policy changes lines) in
    text_of_nodes_loads_as_only_file c.text_loads.ensures.loads (printed_rules rules) (rule_nodes_in_print_order rules)
    (printed_rewritten_rules_are_read
    (record {
      given = c.read_can_be_written.ensures;
      sign = c.writable_is_kept.ensures.sign;
      fewer = c.writable_is_kept.ensures.fewer;
      print = c.printed_line_is_read.ensures;
      alone = c.printed_line_is_line.ensures.alone;
      cut = c.printed_lines_are_cut.ensures;
      read = c.read_is.ensures;
      one = c.one_outcome.ensures;
    }) changes lines is size)
