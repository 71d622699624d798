use Rattle.std.proofs.Common.{drop}
use Rattle.sudoers_tree.specs.Files.{lines_of_numbered_file}
use Rattle.sudoers_tree.specs.Policy.{texts_of_lines}
use Rattle.cases.proofs.EndedLines.{AreLinesEndedInLf}
use Rattle.cases.proofs.allowed_line_changes.are_file_lines_ended.Given as goal

-- If the lines that are left end in LF, all do.
abbrev pub invariant-loop-number : goal.invariant-loop-number
invariant-loop-number l =
    AreLinesEndedInLf (texts_of_lines (drop l.number (lines_of_numbered_file l.policy.files l.file))) → AreLinesEndedInLf (texts_of_lines (lines_of_numbered_file l.policy.files l.file))
