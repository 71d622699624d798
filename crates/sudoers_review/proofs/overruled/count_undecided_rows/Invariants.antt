use Rattle.std.proofs.Common.{◌≡◌, ◌≤◌, List, length}
use Rattle.sudoers_compare.specs.FlatSpecs.{PlacedRow}
use Rattle.sudoers_review.specs.Undecided.{AreCountedRows}
use Rattle.sudoers_review.proofs.OverruledRows.{undecided_before}
use Rattle.sudoers_review.proofs.overruled.count_undecided_rows.Given as goal

-- Those before this row are counted.
abbrev pub invariant-loop-number : goal.invariant-loop-number
invariant-loop-number l =
    (l.undecided.count ≤ l.number) × ((rows : List PlacedRow) → length rows ≡ length l.found → AreCountedRows rows l.undecided (undecided_before rows l.found l.number))
