use Rattle.std.proofs.Common.{◌++◌, ◌∷◌, [], ◌<◌, length, ap, ◌∙◌, arith, if◌then◌else◌}
use Rattle.sudoers_compare.specs.declared.flat_rows.PlacedFlatRow.{PlacedFlatRow}
use Rattle.sudoers_compare.specs.FlatSpecs.{placed_row_of_view}
use Rattle.sudoers_review_users.proofs.KeptRows.{all_uncovered_rows_are_kept, uncovered_row_is_kept}
use Rattle.sudoers_review_users.proofs.deciding_rows.list_rows_not_overruled.Goals as goal

pub loop-number-preserved : goal.loop-number-preserved
loop-number-preserved c =
    let within : c.loop-number.number < length c.args.rows.now = omega (arith, c.loop-number-test.true, c.min-number-end.ensures) in
    let within_too : c.loop-number.number < length c.args.found.now = omega (arith, c.loop-number-test.true, c.min-number-end.ensures) in
    let kept = c.loop-number.left.items in
    uncovered_row_is_kept placed_row_of_view c.args.rows.now c.args.found.now c.loop-number.number c.index-rows-number.result _ c.may_decide.result
    kept c.append_row_if_kept.new.out.items within within_too
    c.may_decide.ensures
    (c.in_ok-append_row_if_kept.ensures ∙ ap (λ (row : PlacedFlatRow). if c.may_decide.result then kept ++ row ∷ [] else kept) c.index-rows-number.is)
    c.loop-number.invariant

pub returns : goal.returns
returns c =
    all_uncovered_rows_are_kept placed_row_of_view c.args.rows.now c.args.found.now c.loop-number.number c.loop-number.left.items
    (omega (arith, c.loop-number-test.false, c.min-number-end.ensures)) c.loop-number.invariant
