use Rattle.std.proofs.Common.{List, drop}
use Rattle.std.specs.List.{flat_map}
use Rattle.sudoers_match_list.specs.Flat.{SignedAtom}
use Rattle.sudoers_compare.specs.FlatRow.{signed_atoms_of_view}
use Rattle.sudoers_compare.specs.FlatSpecs.{placed_rows_of_flat_command}
use Rattle.sudoers_lint.specs.Walked.{AreFactsOfUsers, AreRowsVisitedBut, IsWalkOnLineForHosts}
use Rattle.sudoers_lint.proofs.row_findings.RowWalk.visit_host_group.Given as goal

-- The rows so far are visited, and those of the commands still to come are left.
abbrev pub invariant-loop-command : goal.invariant-loop-command
invariant-loop-command l =
    (us : List SignedAtom) → AreFactsOfUsers l.users us
    → AreRowsVisitedBut l.fn.self l.self (flat_map (placed_rows_of_flat_command l.tables l.users.line us (signed_atoms_of_view l.hosts)) l.command-items)
    (flat_map (placed_rows_of_flat_command l.tables l.users.line us (signed_atoms_of_view l.hosts)) (drop l.command-index l.command-items))
    × IsWalkOnLineForHosts l.self l.users.line (signed_atoms_of_view l.hosts)
