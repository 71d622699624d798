use Rattle.std.proofs.Common.{drop}
use Rattle.sudoers_tree.specs.Changed.{AreChangesInOrder}
use Rattle.sudoers_tree.specs.ChangedFiles.{changes_of_file}
use Rattle.cases.proofs.allowed_line_changes.are_changes_of_numbered_file_ascending.Given as goal

-- If those of the changes that are left are in order, those of all are.
abbrev pub invariant-loop-change : goal.invariant-loop-change
invariant-loop-change l =
    AreChangesInOrder l.next (changes_of_file l.wanted (drop l.change-index l.changes)) l.count → AreChangesInOrder 0 (changes_of_file l.wanted l.changes) l.count
