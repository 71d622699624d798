use Rattle.std.proofs.Common.{drop}
use Rattle.std.specs.List.{AllByRecursion}
use Rattle.sudoers_text.specs.Whole.{IsLogicalLine}
use Rattle.sudoers_tree.specs.Changed.{texts_of_changes}
use Rattle.cases.proofs.EndedLines.{AreLinesEndedInLf}
use Rattle.cases.proofs.line_change_reading_and_checks.are_all_texts_of_changes_ended_lines.Given as goal

-- If the changes that are left bring such lines, all do.
abbrev pub invariant-loop-change : goal.invariant-loop-change
invariant-loop-change l =
    (AllByRecursion IsLogicalLine (texts_of_changes (drop l.change-index l.changes)) → AllByRecursion IsLogicalLine (texts_of_changes l.changes))
    × (AreLinesEndedInLf (texts_of_changes (drop l.change-index l.changes)) → AreLinesEndedInLf (texts_of_changes l.changes))
