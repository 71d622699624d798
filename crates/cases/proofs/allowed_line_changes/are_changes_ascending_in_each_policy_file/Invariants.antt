use Rattle.std.proofs.Common.{ℕ, ◌<◌, length}
use Rattle.sudoers_tree.specs.Changed.{AreChangesInOrder}
use Rattle.sudoers_tree.specs.ChangedFiles.{changes_of_file}
use Rattle.sudoers_tree.specs.Files.{lines_of_numbered_file}
use Rattle.cases.proofs.allowed_line_changes.are_changes_ascending_in_each_policy_file.Given as goal

-- The changes are in order in each file before this one.
abbrev pub invariant-loop-file : goal.invariant-loop-file
invariant-loop-file l = (f : ℕ) → f < l.file → AreChangesInOrder 0 (changes_of_file f l.changes) (length (lines_of_numbered_file l.policy.files f))
