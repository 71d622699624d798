use Rattle.std.proofs.Common.{◌≡◌, ◌-◌, ◌++◌, drop, length}
use Rattle.std.specs.List.{flat_map}
use Rattle.sudoers_review.specs.ChangedText.{line_of_new_row, marked_rows_in_front, rows_behind_first_unmarked}
use Rattle.sudoers_review.specs.Views.{marked_rows_of_view}
use Rattle.sudoers_review.proofs.changed_rows.append_rows_in_front.Given as goal

-- The lines so far and those still to come, and the rows behind them.
abbrev pub invariant-loop-number : goal.invariant-loop-number
invariant-loop-number l =
    (l.out.text.items ++ flat_map (line_of_new_row l.counted l.new.policy.now) (marked_rows_in_front (drop l.number (marked_rows_of_view l.new)))
    ≡ l.fn.out.text.items ++ flat_map (line_of_new_row l.counted l.new.policy.now) (marked_rows_in_front (drop l.from (marked_rows_of_view l.new))))
    × (rows_behind_first_unmarked (drop l.number (marked_rows_of_view l.new)) ≡ rows_behind_first_unmarked (drop l.from (marked_rows_of_view l.new)))

abbrev pub decreases-loop-number : goal.decreases-loop-number
decreases-loop-number l = length l.new.rows.now - l.number
