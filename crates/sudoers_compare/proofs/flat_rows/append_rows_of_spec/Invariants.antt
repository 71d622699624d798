use Rattle.std.proofs.Common.{◌≡◌, ◌++◌, drop, map}
use Rattle.std.specs.List.{flat_map}
use Rattle.sudoers_compare.specs.FlatRow.{signed_atoms_of_view}
use Rattle.sudoers_compare.specs.FlatSpecs.{placed_row_of_view, placed_rows_of_flat_host_group}
use Rattle.sudoers_compare.proofs.flat_rows.append_rows_of_spec.Given as goal

-- The rows so far, and those of the groups still to come.
abbrev pub invariant-loop-group : goal.invariant-loop-group
invariant-loop-group l =
    map placed_row_of_view l.out.items ++ flat_map (placed_rows_of_flat_host_group l.tables l.spec.line (signed_atoms_of_view l.users)) (drop l.group-index l.group-items)
    ≡ map placed_row_of_view l.initial.out.items ++ flat_map (placed_rows_of_flat_host_group l.tables l.spec.line (signed_atoms_of_view l.users)) l.group-items
