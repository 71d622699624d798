use Rattle.std.proofs.Common.{◌≡◌, ◌++◌, None, drop}
use Rattle.sudoers_compare.specs.FlatSpecs.{placed_rows_of_flat_specs}
use Rattle.sudoers_lint.specs.Findings.{findings_of_rows}
use Rattle.sudoers_lint.specs.Views.{allowed_all_of_view, findings_of_view}
use Rattle.sudoers_lint.proofs.row_findings.list_findings_of_specs.Given as goal

-- What is found so far, and what is found of the rows still to come.
abbrev pub invariant-loop-spec : goal.invariant-loop-spec
invariant-loop-spec l =
    findings_of_view l.walk.found.findings.items ++ findings_of_rows (allowed_all_of_view l.walk.last) (placed_rows_of_flat_specs l.tables (drop l.spec-index l.specs))
    ≡ findings_of_rows None (placed_rows_of_flat_specs l.tables l.specs)
