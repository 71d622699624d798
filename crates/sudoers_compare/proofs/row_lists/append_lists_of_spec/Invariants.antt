use Rattle.std.proofs.Common.{◌≡◌, ◌++◌, ℕ, drop, map}
use Rattle.std.specs.Prelude.{slice_get}
use Rattle.std.specs.List.{flat_map}
use Rattle.sudoers_compare.specs.FlatSpecs.{placed_rows_of_flat_host_group, signed_atoms_in_tables}
use Rattle.sudoers_compare.specs.RowLists.{NumberedLists, hosts_of_optional_group, lists_of_kept, lists_of_placed_row}
use Rattle.sudoers_compare.proofs.row_lists.append_lists_of_spec.Given as goal

-- The lists so far, and those of the groups still to come.
abbrev pub invariant-loop-group : goal.invariant-loop-group
invariant-loop-group l =
    (all : NumberedLists) → all.users l.number ≡ signed_atoms_in_tables l.tables l.spec.users.items
    → ((group : ℕ) → all.hosts l.number group ≡ hosts_of_optional_group l.tables (slice_get l.spec.groups.items group))
    → map (lists_of_kept all) l.out.items ++ map lists_of_placed_row (flat_map (placed_rows_of_flat_host_group l.tables l.spec.line (signed_atoms_in_tables l.tables l.spec.users.items)) (drop l.group l.spec.groups.items))
    ≡ map (lists_of_kept all) l.initial.out.items ++ map lists_of_placed_row (flat_map (placed_rows_of_flat_host_group l.tables l.spec.line (signed_atoms_in_tables l.tables l.spec.users.items)) l.spec.groups.items)
