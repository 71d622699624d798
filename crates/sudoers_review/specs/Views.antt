-- What the code holds of the rows that are printed.
use Rattle.std.specs.Prelude.{Bool, List, map}
use Rattle.sudoers_compare.specs.FlatSpecs.{PlacedRow, placed_row_of_view}
use Rattle.sudoers_review.specs.declared.changed_rows.MarkedRows.{MarkedRows}
use Rattle.sudoers_review.specs.ChangedText.{rows_with_marks}

abbrev pub marked_rows_of_view : MarkedRows → List (Bool × PlacedRow)
marked_rows_of_view held = rows_with_marks held.marks.now (map placed_row_of_view held.rows.now)
