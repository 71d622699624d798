use Rattle.std.proofs.Common.{◌≡◌, ◌++◌, drop, map}
use Rattle.sudoers_tree.specs.Line.{line_of_row, lines_of_rows}
use Rattle.sudoers_lint.specs.Findings.{findings_of_lines}
use Rattle.sudoers_lint.specs.Views.{findings_of_view}
use Rattle.sudoers_lint.proofs.default_findings.add_findings_of_lines.Given as goal

-- The findings so far, and those of the lines still to come.
abbrev pub invariant-loop-line : goal.invariant-loop-line
invariant-loop-line l =
    findings_of_view l.found.findings.items ++ findings_of_lines l.line (map (line_of_row l.lines.tables.now) (drop l.line l.lines.rows.now))
    ≡ findings_of_view l.initial.found.findings.items ++ findings_of_lines 0 (lines_of_rows l.lines)
