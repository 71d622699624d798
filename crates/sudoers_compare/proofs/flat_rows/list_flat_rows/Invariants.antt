use Rattle.std.proofs.Common.{◌≡◌, ◌++◌, drop, map}
use Rattle.sudoers_compare.specs.FlatSpecs.{placed_row_of_view, placed_rows_of_flat_specs}
use Rattle.sudoers_compare.proofs.flat_rows.list_flat_rows.Given as goal

-- The rows so far, and those of the specifications still to come.
abbrev pub invariant-loop-spec : goal.invariant-loop-spec
invariant-loop-spec l = map placed_row_of_view l.rows.items ++ placed_rows_of_flat_specs l.tables (drop l.spec-index l.specs) ≡ placed_rows_of_flat_specs l.tables l.specs
