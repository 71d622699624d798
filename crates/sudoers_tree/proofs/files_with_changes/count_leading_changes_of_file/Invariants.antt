use Rattle.sudoers_tree.proofs.Common.{drop, leading_change_count_of_file, ◌+◌, ◌≡◌}
use Rattle.sudoers_tree.proofs.files_with_changes.count_leading_changes_of_file.Given as goal

abbrev pub invariant-loop-change : goal.invariant-loop-change
invariant-loop-change l = (l.count ≡ l.change-index) × (l.count + leading_change_count_of_file l.file (drop l.change-index l.changes) ≡ leading_change_count_of_file l.file l.changes)
