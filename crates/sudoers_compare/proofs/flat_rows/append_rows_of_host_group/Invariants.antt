use Rattle.std.proofs.Common.{◌≡◌, ◌++◌, drop, map}
use Rattle.std.specs.List.{flat_map}
use Rattle.sudoers_compare.specs.FlatRow.{signed_atoms_of_view}
use Rattle.sudoers_compare.specs.FlatSpecs.{placed_row_of_view, placed_rows_of_flat_command}
use Rattle.sudoers_compare.proofs.flat_rows.append_rows_of_host_group.Given as goal

-- The rows so far, and those of the commands still to come.
abbrev pub invariant-loop-command : goal.invariant-loop-command
invariant-loop-command l =
    map placed_row_of_view l.out.items
    ++ flat_map (placed_rows_of_flat_command l.users.tables.now l.line (signed_atoms_of_view l.users) (signed_atoms_of_view l.hosts)) (drop l.command-index l.command-items)
    ≡ map placed_row_of_view l.initial.out.items
    ++ flat_map (placed_rows_of_flat_command l.users.tables.now l.line (signed_atoms_of_view l.users) (signed_atoms_of_view l.hosts)) l.command-items
