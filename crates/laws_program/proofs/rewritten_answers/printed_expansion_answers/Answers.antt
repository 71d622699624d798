use Rattle.std.proofs.Common.{List}
use Rattle.sudoers_tree.specs.Line.{Line}
use Rattle.sudoers_cvt_rules.specs.Rules.{Rules, rule_nodes_in_print_order, printed_rules}
use Rattle.sudoers_cvt_rewrite.specs.Rewrite.{rules_with_used_definitions}
use Rattle.laws_program.specs.Expanded.{lines_with_aliases_replaced}
use Rattle.laws_program.proofs.Flattened.{LawsOfFlatLists}
use Rattle.laws_program.proofs.OnlyFile.{OnlyFileLoadedIsReadAsLines, only_file_text_is_read_as_nodes, printed_rules_are_read_as_policy_lines}
use Rattle.laws_program.proofs.Printed.{PrintedExpandedRulesAreRead, printed_default, printed_groups, printed_expansion_has_no_cycle, printed_there, printed_back}
use Rattle.laws_program.proofs.rewritten_answers.printed_expansion_answers.Goals as goal

pub returns : goal.returns
returns c =
    let laws : LawsOfFlatLists = record {
      some = c.flat_or_cycle.ensures;
      is = c.flattened_is_flat.ensures;
      straight = c.alias_free_list_is_flat.ensures;
      same = c.same_flat_lists_are_alike.ensures;
    } in
    let alike = c.rewritten_lists_are_alike.ensures in
    let hits = c.read_member_matches_same.ensures in
    record {
      there = λ lines policy sound straight is q answer a. printed_there law alike hits laws lines policy.walk.lines sound straight is.size
          (printed_rules_are_read_as_policy_lines reads (rules lines) policy is) c.alike_rows_answer.ensures.alike c.equal_specs_answer_same.ensures q answer a;
      back = λ lines policy sound straight is q other b. printed_back law alike hits laws lines policy.walk.lines sound straight is.size
          (printed_rules_are_read_as_policy_lines reads (rules lines) policy is) c.alike_rows_answer.ensures.alike c.equal_specs_answer_same.ensures q
          c.alike_rows_fit.ensures c.one_flat.ensures c.one_answer.ensures other b;
      straight = λ lines policy sound straight is. printed_expansion_has_no_cycle law lines policy.walk.lines sound straight is.size (printed_rules_are_read_as_policy_lines reads (rules lines) policy is);
      default = λ lines policy sound straight is who name. printed_default law alike hits laws lines policy.walk.lines sound straight is.size
          (printed_rules_are_read_as_policy_lines reads (rules lines) policy is) c.alike_defaults_are_same.ensures who name;
      groups = λ lines policy sound straight is who places. printed_groups law alike hits laws lines policy.walk.lines sound straight is.size
          (printed_rules_are_read_as_policy_lines reads (rules lines) policy is) c.alike_specs_have_same_groups.ensures who places;
    }
  where
    reads : OnlyFileLoadedIsReadAsLines
    reads = c.text_loads.ensures.reads

    rules : List Line → Rules
    rules lines = rules_with_used_definitions (lines_with_aliases_replaced lines)

    law : PrintedExpandedRulesAreRead
    law lines sound size = only_file_text_is_read_as_nodes reads (printed_rules (rules lines)) (rule_nodes_in_print_order (rules lines)) (c.expanded_rules_are_read.ensures lines sound size)
