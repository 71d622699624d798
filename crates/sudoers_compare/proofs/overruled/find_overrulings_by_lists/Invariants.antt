use Rattle.std.proofs.Common.{◌≡◌, ◌++◌, drop, map}
use Rattle.sudoers_compare.specs.FlatSpecs.{row_of_placed_view}
use Rattle.sudoers_compare.specs.KnownAnswers.{AreRightAnswers}
use Rattle.sudoers_compare.specs.Overruled.{overrulings_of_rows}
use Rattle.sudoers_compare.specs.RowLists.{AreListsKept, NumberedLists}
use Rattle.sudoers_compare.proofs.overruled.find_overrulings_by_lists.Given as goal

-- What is found of the rows so far, and of those still to come. What is known of lists is right.
abbrev pub invariant-loop-number : goal.invariant-loop-number
invariant-loop-number l =
    (all : NumberedLists) → AreListsKept all l.rows.lists.now (map row_of_placed_view l.rows.rows.now) → AreRightAnswers all l.initial.answers
    → AreRightAnswers all l.answers
    × (l.found.items ++ overrulings_of_rows l.number (drop l.number (map row_of_placed_view l.rows.rows.now)) ≡ overrulings_of_rows 0 (map row_of_placed_view l.rows.rows.now))
