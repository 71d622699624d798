use Rattle.std.proofs.Common.{drop}
use Rattle.std.specs.List.{flat_map}
use Rattle.sudoers_compare.specs.FlatSpecs.{placed_rows_of_flat_host_group, signed_atoms_in_tables}
use Rattle.sudoers_lint.specs.Walked.{AreRowsVisitedBut}
use Rattle.sudoers_lint.proofs.row_findings.RowWalk.visit_spec.Given as goal

-- The rows so far are visited, and those of the groups still to come are left.
abbrev pub invariant-loop-group : goal.invariant-loop-group
invariant-loop-group l =
    AreRowsVisitedBut l.fn.self l.self (flat_map (placed_rows_of_flat_host_group l.tables l.spec.line (signed_atoms_in_tables l.tables l.spec.users.items)) l.group-items)
    (flat_map (placed_rows_of_flat_host_group l.tables l.spec.line (signed_atoms_in_tables l.tables l.spec.users.items)) (drop l.group-index l.group-items))
