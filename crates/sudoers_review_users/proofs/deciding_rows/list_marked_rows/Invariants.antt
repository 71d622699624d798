use Rattle.sudoers_compare.specs.FlatSpecs.{placed_row_of_view}
use Rattle.sudoers_review_users.proofs.KeptRows.{AreMarkedRowsKept}
use Rattle.sudoers_review_users.proofs.deciding_rows.list_marked_rows.Given as goal

abbrev pub invariant-loop-number : goal.invariant-loop-number
invariant-loop-number l = AreMarkedRowsKept placed_row_of_view l.marks l.rows l.number l.marked.items
