use Rattle.sudoers_check.proofs.Common.{IfOk, Line, List, PlacedDefinition, ap, definitions_of_lines, definitions_with_mark, false, is_unused, is_used, map, subst, unused_definitions_of_lines, ◌∙◌, ◌≡◌}
use Rattle.sudoers_check.proofs.Linked.{definitions_marked_false_are_filtered}
use Rattle.sudoers_check.proofs.checking.list_unused_definitions_of_walk.Goals as goal

pub returns : goal.returns
returns c =
    let lines : List Line = c.in_ok-numbers.numbers.walk in
    let marks : c.as_slice.result.now ≡ map (is_used lines) (definitions_of_lines lines) =
    c.as_slice.ensures.value ∙ c.in_ok-reached.ensures ∙ ap (λ ls. map (is_used ls) (definitions_of_lines ls)) c.lines.ensures in
    subst (λ (ls : List Line). IfOk c.find_unmarked_definitions.result (λ places. places.items ≡ map (λ (d : PlacedDefinition). (d.kind, d.place)) (unused_definitions_of_lines ls))) c.in_ok-numbers.ensures
    (subst (λ ds. IfOk c.find_unmarked_definitions.result (λ places. places.items ≡ map (λ (d : PlacedDefinition). (d.kind, d.place)) ds))
    (ap (λ ms. definitions_with_mark false ms (definitions_of_lines lines)) marks ∙ definitions_marked_false_are_filtered (is_unused lines) (definitions_of_lines lines)) c.find_unmarked_definitions.ensures)
