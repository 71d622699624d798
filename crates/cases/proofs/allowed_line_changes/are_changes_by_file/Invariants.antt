use Rattle.std.proofs.Common.{drop}
use Rattle.sudoers_tree.specs.ChangedFiles.{AreFileNumbersOfChangesInOrder}
use Rattle.cases.proofs.allowed_line_changes.are_changes_by_file.Given as goal

-- If the changes that are left go by the files from the one of the last change on, all go by the files.
abbrev pub invariant-loop-change : goal.invariant-loop-change
invariant-loop-change l = AreFileNumbersOfChangesInOrder l.file (drop l.change-index l.changes) l.count → AreFileNumbersOfChangesInOrder 0 l.changes l.count
