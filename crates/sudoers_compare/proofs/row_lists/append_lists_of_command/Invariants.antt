use Rattle.std.proofs.Common.{◌≡◌, ◌++◌, ℕ, List, drop, map}
use Rattle.sudoers_line_rows.specs.declared.rows.Tables.{Tables}
use Rattle.sudoers_match_list.specs.Flat.{SignedAtom}
use Rattle.sudoers_compare.specs.FlatSpecs.{row_at_place, row_of_flat_command, signed_atoms_in_tables}
use Rattle.sudoers_compare.specs.RowLists.{NumberedLists, lists_of_kept, lists_of_placed_row, lists_with_bits}
use Rattle.sudoers_compare.proofs.row_lists.append_lists_of_command.Given as goal

-- The lists so far, and those of the members still to come.
abbrev pub invariant-loop-member : goal.invariant-loop-member
invariant-loop-member l =
    (all : NumberedLists) (t : Tables) (line : ℕ) (users hosts : List SignedAtom) → lists_of_kept all l.lists ≡ lists_with_bits users hosts
    → map (lists_of_kept all) l.out.items ++ map lists_of_placed_row (map (row_at_place line l.command.start) (map (row_of_flat_command t users hosts l.command) (signed_atoms_in_tables t (drop l._member-index l._member-items))))
    ≡ map (lists_of_kept all) l.initial.out.items ++ map lists_of_placed_row (map (row_at_place line l.command.start) (map (row_of_flat_command t users hosts l.command) (signed_atoms_in_tables t l._member-items)))
