use Rattle.std.proofs.Common.{◌≡◌, ◌++◌, [], drop, map}
use Rattle.std.specs.List.{flat_map}
use Rattle.sudoers_compare.specs.FlatSpecs.{placed_row_of_view, placed_rows_of_flat_command}
use Rattle.sudoers_review_users.proofs.user_rows.append_own_rows_of_host_group.Given as goal

-- The rows so far, and those of the commands behind, are all rows.
abbrev pub invariant-loop-command : goal.invariant-loop-command
invariant-loop-command l =
    map placed_row_of_view l.out.items ++ flat_map (placed_rows_of_flat_command l.tables l.line [] []) (drop l.command-index l.command-items)
    ≡ map placed_row_of_view l.initial.out.items ++ flat_map (placed_rows_of_flat_command l.tables l.line [] []) l.command-items
