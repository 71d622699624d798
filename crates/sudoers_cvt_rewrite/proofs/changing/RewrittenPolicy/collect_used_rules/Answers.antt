use Rattle.sudoers_cvt_rewrite.proofs.Common.{Line, List, Node, ap, definitions_of_lines, is_used, length, lines_of_rows, map, sym, ◌∙◌, ◌≡◌}
use Rattle.sudoers_cvt_rules.specs.Rules.{Rules, rules_of_policy_lines, rules_with_marked_definitions}
use Rattle.sudoers_cvt_rewrite.proofs.Uses.{used_marks_are_counted_by_definition_nodes, nodes_marked_used_are_used_definitions}
use Rattle.sudoers_cvt_rewrite.proofs.changing.RewrittenPolicy.collect_used_rules.Goals as goal

pub keep_marked_definitions-requires : goal.keep_marked_definitions-requires
keep_marked_definitions-requires c =
    let lines : List Line = c.args.self.now in
    let shown : lines_of_rows c.as_rows-rows.result ≡ lines = c.as_rows-rows.ensures ∙ c.self.view_is in
    let marks : c.as_slice.result.now ≡ map (is_used lines) (definitions_of_lines lines) =
    c.as_slice.ensures.value ∙ c.self.invariant ∙ ap (λ ls. map (is_used ls) (definitions_of_lines ls)) c.self.view_is in
    ap length marks ∙ used_marks_are_counted_by_definition_nodes lines ∙ sym (ap (λ (r : Rules). length r.defs) (c.in_ok-rules.ensures.rules ∙ ap rules_of_policy_lines shown))

pub returns-clause-rules : goal.returns-clause-rules
returns-clause-rules c =
    let lines : List Line = c.args.self.now in
    let shown : lines_of_rows c.as_rows-rows.result ≡ lines = c.as_rows-rows.ensures ∙ c.self.view_is in
    let marks : c.as_slice.result.now ≡ map (is_used lines) (definitions_of_lines lines) =
    c.as_slice.ensures.value ∙ c.self.invariant ∙ ap (λ ls. map (is_used ls) (definitions_of_lines ls)) c.self.view_is in
    c.in_ok-kept.ensures.rules
    ∙ ap (λ ms. rules_with_marked_definitions ms c.in_ok-rules.rules) marks
    ∙ ap (rules_with_marked_definitions (map (is_used lines) (definitions_of_lines lines))) (c.in_ok-rules.ensures.rules ∙ ap rules_of_policy_lines shown)
    ∙ ap (λ (defs : List Node). record { defaults = (rules_of_policy_lines lines).defaults; defs = defs; specs = (rules_of_policy_lines lines).specs }) (nodes_marked_used_are_used_definitions lines)
