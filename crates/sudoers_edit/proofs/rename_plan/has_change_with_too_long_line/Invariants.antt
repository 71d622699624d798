use Rattle.sudoers_edit.proofs.Common.{drop, is_line_too_long, list_any, texts_of_changes, ◌≡◌}
use Rattle.sudoers_edit.proofs.rename_plan.has_change_with_too_long_line.Given as goal

abbrev pub invariant-loop-change : goal.invariant-loop-change
invariant-loop-change l = list_any is_line_too_long (texts_of_changes (drop l.change-index l.changes)) ≡ list_any is_line_too_long (texts_of_changes l.changes)
