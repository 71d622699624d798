use Rattle.std.proofs.Common.{◌++◌, ℕ, Bool, List, map, ap₂, ◌∙◌}
use Rattle.std.proofs.lemmas.Result.{on_ok_weaker}
use Rattle.sudoers_compare.specs.FlatSpecs.{placed_row_of_view}
use Rattle.sudoers_review.specs.ChangedText.{changed_row_lines, rows_with_marks}
use Rattle.sudoers_review.proofs.changes.append_rows_with_marks.Goals as goal

pub returns-clause-lines : goal.returns-clause-lines
returns-clause-lines c =
    let lines : List Bool → List Bool → List ℕ = λ (gone came : List Bool). c.args.out.now.text.items ++ changed_row_lines c.args.counted c.args.old.now c.args.new.now
    (rows_with_marks gone (map placed_row_of_view c.args.old_rows.now)) (rows_with_marks came (map placed_row_of_view c.args.new_rows.now)) in
    on_ok_weaker c.append_changed_rows.result (λ e. e ∙ ap₂ lines c.as_slice.ensures.value c.as_slice-2.ensures.value) c.append_changed_rows.ensures.lines
