use Rattle.std.proofs.Common.{◌≡◌, ◌++◌, ℕ, List, drop, map}
use Rattle.std.specs.List.{flat_map}
use Rattle.sudoers_match_list.specs.Flat.{SignedAtom}
use Rattle.sudoers_compare.specs.FlatSpecs.{placed_rows_of_flat_command}
use Rattle.sudoers_compare.specs.RowLists.{NumberedLists, lists_of_kept, lists_of_placed_row, lists_with_bits}
use Rattle.sudoers_compare.proofs.row_lists.append_lists_of_host_group.Given as goal

-- The lists so far, and those of the commands still to come.
abbrev pub invariant-loop-command : goal.invariant-loop-command
invariant-loop-command l =
    (all : NumberedLists) (line : ℕ) (users hosts : List SignedAtom) → lists_of_kept all l.lists ≡ lists_with_bits users hosts
    → map (lists_of_kept all) l.out.items ++ map lists_of_placed_row (flat_map (placed_rows_of_flat_command l.tables line users hosts) (drop l.command-index l.command-items))
    ≡ map (lists_of_kept all) l.initial.out.items ++ map lists_of_placed_row (flat_map (placed_rows_of_flat_command l.tables line users hosts) l.command-items)
