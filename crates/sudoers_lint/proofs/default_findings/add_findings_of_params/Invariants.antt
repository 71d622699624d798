use Rattle.std.proofs.Common.{◌≡◌, ◌++◌, drop, map}
use Rattle.sudoers_line_rows.specs.Tables.{parameter_in_tables}
use Rattle.sudoers_lint.specs.Findings.{findings_of_params}
use Rattle.sudoers_lint.specs.Views.{findings_of_view}
use Rattle.sudoers_lint.proofs.default_findings.add_findings_of_params.Given as goal

-- The findings so far, and those of the parameters still to come.
abbrev pub invariant-loop-row : goal.invariant-loop-row
invariant-loop-row l =
    findings_of_view l.found.findings.items ++ findings_of_params l.line l.left (map (parameter_in_tables l.tables) (drop l.row-index l.row-items))
    ≡ findings_of_view l.initial.found.findings.items ++ findings_of_params l.line l.starts (map (parameter_in_tables l.tables) l.row-items)
