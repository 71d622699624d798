use Rattle.std.proofs.Common.{ℕ, ◌<◌}
use Rattle.sudoers_tree.specs.Files.{lines_of_numbered_file}
use Rattle.sudoers_tree.specs.Policy.{texts_of_lines}
use Rattle.cases.proofs.EndedLines.{AreLinesEndedInLf}
use Rattle.cases.proofs.allowed_line_changes.are_all_policy_lines_ended.Given as goal

-- Each line of each file before this one ends in LF.
abbrev pub invariant-loop-file : goal.invariant-loop-file
invariant-loop-file l = (f : ℕ) → f < l.file → AreLinesEndedInLf (texts_of_lines (lines_of_numbered_file l.policy.files f))
