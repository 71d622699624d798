use Rattle.std.proofs.Common.{◌≡◌, ◌++◌, drop, map}
use Rattle.std.specs.List.{flat_map}
use Rattle.sudoers_compare.specs.FlatSpecs.{placed_row_of_view}
use Rattle.sudoers_review_users.specs.FlatRows.{own_rows_of_flat_host_group}
use Rattle.sudoers_review_users.proofs.user_rows.append_own_rows_of_spec.Given as goal

-- The rows so far, and those of the groups behind, are all rows.
abbrev pub invariant-loop-group : goal.invariant-loop-group
invariant-loop-group l =
    map placed_row_of_view l.out.items ++ flat_map (own_rows_of_flat_host_group l.who l.tables l.spec.line) (drop l.group-index l.group-items)
    ≡ map placed_row_of_view l.initial.out.items ++ flat_map (own_rows_of_flat_host_group l.who l.tables l.spec.line) l.group-items
