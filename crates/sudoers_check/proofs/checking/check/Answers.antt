use Rattle.sudoers_check.proofs.Common.{Line, List, ap, cyclic_definitions_of_lines, definitions_of_lines, definitions_with_mark, false, is_cyclic, is_unused, is_used, map, note_of_definition, true}
use Rattle.sudoers_check.proofs.Common.{unused_definitions_of_lines, ◌∙◌, ◌≡◌}
use Rattle.sudoers_check.proofs.Linked.{definitions_marked_true_are_filtered, definitions_marked_false_are_filtered}
use Rattle.sudoers_check.proofs.checking.check.Goals as goal

pub returns : goal.returns
returns c =
    let lines : List Line = c.args.policy.now.walk.lines in
    let noted = map (note_of_definition c.args.policy.now.walk) in
    let cyclic_marks : c.as_slice-2.result.now ≡ map (is_cyclic lines) (definitions_of_lines lines) =
    c.as_slice-2.ensures.value ∙ c.in_ok-cyclic.ensures ∙ ap (λ ls. map (is_cyclic ls) (definitions_of_lines ls)) (c.in_ok-numbers.ensures ∙ c.walk.ensures) in
    let used_marks : c.as_slice-3.result.now ≡ map (is_used lines) (definitions_of_lines lines) =
    c.as_slice-3.ensures.value ∙ c.in_ok-reached.ensures ∙ ap (λ ls. map (is_used ls) (definitions_of_lines ls)) c.lines-lines.ensures in
    let undefined = c.in_ok-make_notes_of_undefined_names.ensures in
    let cyclic : c.in_ok-make_notes_of_definitions.field-0 ≡ noted (cyclic_definitions_of_lines lines) =
    c.in_ok-make_notes_of_definitions.ensures ∙ ap (λ ms. noted (definitions_with_mark true ms (definitions_of_lines lines))) cyclic_marks ∙ ap noted (definitions_marked_true_are_filtered (is_cyclic lines) (definitions_of_lines lines)) in
    let unused : c.in_ok-make_notes_of_definitions-2.field-0 ≡ noted (unused_definitions_of_lines lines) =
    c.in_ok-make_notes_of_definitions-2.ensures ∙ ap (λ ms. noted (definitions_with_mark false ms (definitions_of_lines lines))) used_marks ∙ ap noted (definitions_marked_false_are_filtered (is_unused lines) (definitions_of_lines lines)) in
    cc
