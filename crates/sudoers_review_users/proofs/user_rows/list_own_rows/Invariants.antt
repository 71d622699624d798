use Rattle.std.proofs.Common.{◌≡◌, ◌++◌, drop, map}
use Rattle.sudoers_compare.specs.FlatSpecs.{placed_row_of_view}
use Rattle.sudoers_review_users.specs.FlatRows.{own_rows_of_flat_specs}
use Rattle.sudoers_review_users.proofs.user_rows.list_own_rows.Given as goal

-- The rows so far, and those of the specifications behind, are all rows.
abbrev pub invariant-loop-spec : goal.invariant-loop-spec
invariant-loop-spec l = map placed_row_of_view l.rows.items ++ own_rows_of_flat_specs l.who l.tables (drop l.spec-index l.specs) ≡ own_rows_of_flat_specs l.who l.tables l.specs
