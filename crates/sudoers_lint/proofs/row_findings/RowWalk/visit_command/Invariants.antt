use Rattle.std.proofs.Common.{List, drop}
use Rattle.sudoers_match_list.specs.Flat.{SignedAtom}
use Rattle.sudoers_compare.specs.FlatRow.{signed_atoms_of_view}
use Rattle.sudoers_lint.specs.Walked.{AreFactsOfUsers, AreRowsVisitedBut, IsWalkOnLineForHosts}
use Rattle.sudoers_lint.proofs.Visits.{rows_of_members}
use Rattle.sudoers_lint.proofs.row_findings.RowWalk.visit_command.Given as goal

-- The rows so far are visited, and those of the members still to come are left.
abbrev pub invariant-loop-row : goal.invariant-loop-row
invariant-loop-row l =
    (us : List SignedAtom) → AreFactsOfUsers l.users us → IsWalkOnLineForHosts l.fn.self l.users.line (signed_atoms_of_view l.hosts)
    → AreRowsVisitedBut l.fn.self l.self (rows_of_members l.tables l.users.line us (signed_atoms_of_view l.hosts) l.command l.row-items)
    (rows_of_members l.tables l.users.line us (signed_atoms_of_view l.hosts) l.command (drop l.row-index l.row-items))
    × IsWalkOnLineForHosts l.self l.users.line (signed_atoms_of_view l.hosts)
