use Rattle.std.proofs.Common.{◌++◌, ◌∷◌, [], ap, ◌∙◌, if◌then◌else◌}
use Rattle.sudoers_compare.specs.declared.flat_rows.PlacedFlatRow.{PlacedFlatRow}
use Rattle.sudoers_compare.specs.FlatSpecs.{placed_row_of_view}
use Rattle.sudoers_review_users.proofs.KeptRows.{all_marked_rows_are_kept, marked_row_is_kept}
use Rattle.sudoers_review_users.proofs.deciding_rows.list_marked_rows.Goals as goal

pub loop-number-preserved : goal.loop-number-preserved
loop-number-preserved c =
    let kept = c.loop-number.marked.items in
    marked_row_is_kept placed_row_of_view c.args.marks.now c.args.rows.now c.loop-number.number c.index-rows-number.result c.is_marked.result
    kept c.append_row_if_kept.new.out.items c.loop-number-test.true c.is_marked.ensures
    (c.in_ok-append_row_if_kept.ensures ∙ ap (λ (row : PlacedFlatRow). if c.is_marked.result then kept ++ row ∷ [] else kept) c.index-rows-number.is)
    c.loop-number.invariant

pub returns : goal.returns
returns c =
    all_marked_rows_are_kept placed_row_of_view c.args.marks.now c.args.rows.now c.loop-number.number c.loop-number.marked.items c.loop-number-test.false c.loop-number.invariant
