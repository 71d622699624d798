use Rattle.std.proofs.Common.{◌≡◌, ◌++◌, drop}
use Rattle.sudoers_tree.specs.Line.{line_of_row}
use Rattle.std.specs.Prelude.{map}
use Rattle.sudoers_compare.specs.FlatSpecs.{placed_rows_of_flat_specs, placed_rows_from_line, placed_rows_of_policy}
use Rattle.sudoers_compare.proofs.flattening.flatten_specs.Given as goal

-- The rows so far, and those of the lines still to come.
abbrev pub invariant-loop-line : goal.invariant-loop-line
invariant-loop-line l =
    placed_rows_of_flat_specs l.source.lines.tables.now l.specs.items ++ (placed_rows_from_line l.source.policy.now l.line (map (line_of_row l.source.lines.tables.now) (drop l.line l.source.lines.rows.now)))
    ≡ placed_rows_of_policy l.source.policy.now
