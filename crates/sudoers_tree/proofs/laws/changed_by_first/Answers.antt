use Rattle.sudoers_tree.proofs.Common.{length, refl, ◌+◌}
use Rattle.sudoers_tree.proofs.ChangedLines.{first_change_splits_changed_lines, no_changes_leave_lines_unchanged}
use Rattle.sudoers_tree.proofs.laws.changed_by_first.Goals as goal

pub returns-clause-none : goal.returns-clause-none
returns-clause-none c = no_changes_leave_lines_unchanged

pub returns-clause-first : goal.returns-clause-first
returns-clause-first c = λ n change changes lines order. first_change_splits_changed_lines n change changes (n + length lines) lines refl order
