use Rattle.std.proofs.Common.{◌≡◌, ◌++◌, drop, map}
use Rattle.sudoers_compare.specs.FlatRow.{signed_atoms_of_view}
use Rattle.sudoers_compare.specs.FlatSpecs.{placed_row_of_view, row_at_place, row_of_flat_command, signed_atoms_in_tables}
use Rattle.sudoers_compare.proofs.flat_rows.append_rows_of_command.Given as goal

-- The rows so far, and those of the members still to come.
abbrev pub invariant-loop-member : goal.invariant-loop-member
invariant-loop-member l =
    map placed_row_of_view l.out.items ++ map (row_at_place l.line l.command.start)
    (map (row_of_flat_command l.tables (signed_atoms_of_view l.users) (signed_atoms_of_view l.hosts) l.command) (signed_atoms_in_tables l.tables (drop l.member-index l.member-items)))
    ≡ map placed_row_of_view l.initial.out.items ++ map (row_at_place l.line l.command.start)
    (map (row_of_flat_command l.tables (signed_atoms_of_view l.users) (signed_atoms_of_view l.hosts) l.command) (signed_atoms_in_tables l.tables l.member-items))
