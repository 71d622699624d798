use Rattle.std.proofs.Common.{sym, ◌∙◌}
use Rattle.sudoers_compare.specs.FlatRow.{flat_row_of_view}
use Rattle.sudoers_compare.proofs.SameRows.{alike_rows_are_same, same_rows_are_alike}
use Rattle.sudoers_compare.proofs.same_row.is_same_row.Goals as goal

pub returns : goal.returns
returns c = (
  λ said. alike_rows_are_same (flat_row_of_view c.args.row.now) (flat_row_of_view c.args.other.now) (sym c.has_same_parts.ensures ∙ said),
  λ same. c.has_same_parts.ensures ∙ same_rows_are_alike (flat_row_of_view c.args.row.now) (flat_row_of_view c.args.other.now) same,
)
