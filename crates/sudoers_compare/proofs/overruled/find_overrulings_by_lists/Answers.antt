use Rattle.std.proofs.Common.{◌∙◌, map}
use Rattle.std.specs.Prelude.{slice_index_or}
use Rattle.sudoers_compare.specs.Overruled.{overrulings_of_rows}
use Rattle.sudoers_compare.specs.FlatSpecs.{row_of_placed_view}
use Rattle.sudoers_compare.proofs.Chains.{item_of_mapped_list_at}
use Rattle.sudoers_compare.proofs.NextNumbers.{one_more_row_has_finding}
use Rattle.sudoers_compare.proofs.overruled.find_overrulings_by_lists.Goals as goal

pub loop-number-preserved : goal.loop-number-preserved
loop-number-preserved c = λ all kept right.
    let rows = map row_of_placed_view c.args.rows.rows.now in
    let number = c.loop-number.number in
    let row = row_of_placed_view (slice_index_or c.args.rows.rows.now number c.index-rows-number.result) in
    let so_far = c.loop-number.invariant all kept right in
    let stands = item_of_mapped_list_at row_of_placed_view c.args.rows.rows.now number c.index-rows-number.result c.loop-number-test.true in
    let one = c.find_overruling.ensures all kept so_far.0 (c.as_slice-same.ensures.value ∙ c.in_ok-next_same.ensures) (c.as_slice-of_all.ensures.value ∙ c.in_ok-next_all.ensures) stands in
    (one.0, one_more_row_has_finding rows number row c.loop-number.found.items c.push.new.self.items (overrulings_of_rows 0 rows) c.find_overruling.result stands so_far.1 one.1 c.in_ok-push.ensures.items)
