use Rattle.std.proofs.Common.{◌≡◌, ◌++◌, drop}
use Rattle.sudoers_review.specs.ChangedText.{changed_row_lines}
use Rattle.sudoers_review.specs.Views.{marked_rows_of_view}
use Rattle.sudoers_review.proofs.changed_rows.append_changed_rows.Given as goal

-- The lines so far and those still to come.
abbrev pub invariant-loop-number : goal.invariant-loop-number
invariant-loop-number l =
    l.out.text.items ++ changed_row_lines l.counted l.old.policy.now l.new.policy.now (drop l.number (marked_rows_of_view l.old)) (drop l.reached (marked_rows_of_view l.new))
    ≡ l.fn.out.text.items ++ changed_row_lines l.counted l.old.policy.now l.new.policy.now (marked_rows_of_view l.old) (marked_rows_of_view l.new)
