use Rattle.sudoers_compare.specs.FlatSpecs.{placed_row_of_view}
use Rattle.sudoers_review_users.proofs.KeptRows.{AreUncoveredRowsKept}
use Rattle.sudoers_review_users.proofs.deciding_rows.list_rows_not_overruled.Given as goal

abbrev pub invariant-loop-number : goal.invariant-loop-number
invariant-loop-number l = AreUncoveredRowsKept placed_row_of_view l.rows l.found l.number l.left.items
