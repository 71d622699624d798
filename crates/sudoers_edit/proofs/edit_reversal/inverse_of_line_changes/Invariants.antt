use Rattle.sudoers_edit.proofs.Common.{drop, inverse_of_changes_after_counts, inverse_of_changes, ◌++◌, ◌≡◌, ◌≤◌}
use Rattle.sudoers_edit.proofs.edit_reversal.inverse_of_line_changes.Given as goal

abbrev pub invariant-loop-change : goal.invariant-loop-change
invariant-loop-change l =
    (l.put ≤ l.change-index)
    × (l.taken ≤ l.change-index)
    × (l.back.items ++ inverse_of_changes_after_counts l.policy.files l.last l.put l.taken (drop l.change-index l.changes) ≡ inverse_of_changes l.policy.files l.changes)
