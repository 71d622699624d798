use Rattle.std.proofs.Common.{◌++◌, ◌<◌, ◌≤◌, min, get_or, length, map, Option, ap, ◌∙◌, arith}
use Rattle.std.specs.Borrow.{Bor}
use Rattle.std.specs.Option.{option_map}
use Rattle.sudoers_compare.specs.declared.flat_rows.PlacedFlatRow.{PlacedFlatRow}
use Rattle.sudoers_compare.specs.FlatSpecs.{PlacedRow, placed_row_of_view}
use Rattle.sudoers_review.specs.OverruledText.{overruled_row_line_if_any}
use Rattle.sudoers_review.proofs.OverruledRows.{overruled_line_is_appended, overruled_lines_end}
use Rattle.sudoers_review.proofs.overruled.append_overruled_lines.Goals as goal

pub loop-number-preserved : goal.loop-number-preserved
loop-number-preserved c =
    let policy = c.args.policy.now in
    let rows = c.args.rows.now in
    let number = c.loop-number.number in
    let o = c.loop-number.out.text.items in
    let row = placed_row_of_view (get_or rows number c.index-rows-number.result) in
    let within : number < length rows = omega (arith, c.loop-number-test.true, c.min-number-end.ensures) in
    let within_too : number < length c.args.found.now = omega (arith, c.loop-number-test.true, c.min-number-end.ensures) in
    overruled_line_is_appended policy (map placed_row_of_view rows) rows c.args.found.now number c.index-rows-number.result _ o c.append_line_of_overruling.new.out.text.items within within_too
    (c.in_ok-append_line_of_overruling.ensures
    ∙ ap (λ (held : PlacedFlatRow). o ++ overruled_row_line_if_any policy (placed_row_of_view held) (option_map (λ (one : Bor PlacedFlatRow). placed_row_of_view one.now) c.find_row-later.result)) c.index-rows-number.is
    ∙ ap (λ (later : Option PlacedRow). o ++ overruled_row_line_if_any policy row later) c.find_row-later.ensures)
    ∙ c.loop-number.invariant

pub returns-clause-lines : goal.returns-clause-lines
returns-clause-lines c =
    let end : min (length c.args.rows.now) (length c.args.found.now) ≤ c.loop-number.number = omega (arith, c.loop-number-test.false, c.min-number-end.ensures) in
    overruled_lines_end c.args.policy.now c.args.rows.now c.args.found.now c.loop-number.number c.loop-number.out.text.items end ∙ c.loop-number.invariant
