use Rattle.std.proofs.Common.{◌≡◌, ◌++◌, drop}
use Rattle.std.specs.List.{flat_map}
use Rattle.sudoers_review.specs.ChangedText.{line_of_new_row, marked_rows}
use Rattle.sudoers_review.specs.Views.{marked_rows_of_view}
use Rattle.sudoers_review.proofs.changed_rows.append_marked_rows.Given as goal

-- The lines so far and those still to come.
abbrev pub invariant-loop-number : goal.invariant-loop-number
invariant-loop-number l =
    l.out.text.items ++ flat_map (line_of_new_row l.counted l.new.policy.now) (marked_rows (drop l.number (marked_rows_of_view l.new)))
    ≡ l.fn.out.text.items ++ flat_map (line_of_new_row l.counted l.new.policy.now) (marked_rows (drop l.from (marked_rows_of_view l.new)))
