use Rattle.std.proofs.Common.{◌≡◌, ◌++◌, drop, map}
use Rattle.sudoers_compare.specs.FlatSpecs.{placed_rows_of_flat_specs}
use Rattle.sudoers_compare.specs.RowLists.{lists_of_kept, lists_of_placed_row, numbered_lists_of_specs}
use Rattle.sudoers_compare.proofs.row_lists.list_row_lists.Given as goal

-- The lists so far, and those of the specifications still to come.
abbrev pub invariant-loop-number : goal.invariant-loop-number
invariant-loop-number l =
    map (lists_of_kept (numbered_lists_of_specs l.tables l.specs)) l.lists.items ++ map lists_of_placed_row (placed_rows_of_flat_specs l.tables (drop l.number l.specs))
    ≡ map lists_of_placed_row (placed_rows_of_flat_specs l.tables l.specs)
