-- Lines with what they say, and the rows in which they are held.
use Rattle.std.specs.Prelude.{ℕ, List, map}
use Rattle.sudoers_grammar.specs.Node.{Node}
use Rattle.sudoers_line_rows.specs.declared.row_lists.RowsOfTable.{RowsOfTable}
use Rattle.sudoers_line_rows.specs.declared.rows.Tables.{Tables}
use Rattle.sudoers_line_rows.specs.Tables.{node_in_tables, text_in_tables}
use Rattle.sudoers_line_rows.specs.View.{node_of_view}
use Rattle.sudoers_tree.specs.declared.line.LineRow.{LineRow}
use Rattle.sudoers_tree.specs.declared.line.Line.{Line as LineView}

-- a logical line, its line end included, and what it says
pub record Line : Type 0 where
  pub text : List ℕ
  pub node : Node

-- the line that a row holds
abbrev pub line_of_row : Tables → LineRow → Line
line_of_row t row = record { text = text_in_tables t row.text; node = node_in_tables t row.node }

abbrev pub lines_of_rows : RowsOfTable LineRow → List Line
lines_of_rows l = map (line_of_row l.tables.now) l.rows.now

abbrev pub line_of_view : LineView → Line
line_of_view line = record { text = line.text.now; node = node_of_view line.node }
