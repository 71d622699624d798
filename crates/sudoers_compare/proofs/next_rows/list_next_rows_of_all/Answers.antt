use Rattle.std.proofs.Common.{◌≡◌, ◌+◌, ◌-◌, map, arith}
use Rattle.std.specs.Prelude.{slice_index_or}
use Rattle.sudoers_compare.specs.FlatSpecs.{row_of_placed_view}
use Rattle.sudoers_compare.specs.NextRows.{is_next_row_of_all}
use Rattle.sudoers_compare.specs.Overruled.{is_row_of_all}
use Rattle.sudoers_compare.proofs.Chains.{item_of_mapped_list_at}
use Rattle.sudoers_compare.proofs.NextNumbers.{first_row_one_further_to_front, one_more_number_is_next}
use Rattle.sudoers_compare.proofs.next_rows.list_next_rows_of_all.Goals as goal

pub loop-number-preserved : goal.loop-number-preserved
loop-number-preserved c =
    let rows = map row_of_placed_view c.args.rows.now in
    let number = c.loop-number.number in
    let fewer = number - 1 in
    let row = row_of_placed_view (slice_index_or c.args.rows.now fewer c.index-rows-number.result) in
    let less : fewer + 1 ≡ number = omega (arith, c.loop-number-test.true) in
    let stands = item_of_mapped_list_at row_of_placed_view c.args.rows.now fewer c.index-rows-number.result (omega (arith, c.loop-number.invariant.0, c.loop-number-test.true)) in (
      omega (arith, c.loop-number.invariant.0),
      one_more_number_is_next is_next_row_of_all rows number fewer row c.loop-number.next.items c.push.new.self.items c.loop-number.nearest less stands c.loop-number.invariant.1 c.loop-number.invariant.2 c.in_ok-push.ensures.items,
      first_row_one_further_to_front is_row_of_all rows number fewer row c.loop-number.nearest c.first_row_of_all-nearest.result less stands c.loop-number.invariant.2 c.first_row_of_all-nearest.ensures,
    )
