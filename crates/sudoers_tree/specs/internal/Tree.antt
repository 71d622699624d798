-- A device of the proof, which no public contract cites: lines that are read into tables.
use Rattle.std.specs.Prelude.{◌≡◌, List, ℕ, Result, Ok, Err}
use Rattle.sudoers_grammar.specs.declared.fault.LineFault.{LineFault}
use Rattle.sudoers_line_rows.specs.declared.rows.Tables.{Tables}
use Rattle.sudoers_line_reader.specs.Outcome.{IsLineOutcomeOrNoMemory, outcome_of_line}
use Rattle.sudoers_text.specs.Fault.{lf_count}
use Rattle.sudoers_line_rows.specs.Tables.{RowMeaningLasts, node_in_tables, text_in_tables}
use Rattle.sudoers_tree.specs.declared.line.LineRow.{LineRow}
use Rattle.sudoers_tree.specs.Line.{line_of_row}
use Rattle.sudoers_tree.specs.internal.LineBits.{bits_of_alias_names_in}

-- The row goes on holding its line, however the tables grow, and it holds what the line says. Its bits are those of the names in the
-- line, and its LF are counted.
pub record IsLastingLineRow (t : Tables) (row : LineRow) : Type 0 where
  pub lasts : RowMeaningLasts line_of_row t row
  pub says : outcome_of_line (text_in_tables t row.text) ≡ Ok (node_in_tables t row.node)
  pub bits : row.bits ≡ bits_of_alias_names_in (node_in_tables t row.node)
  pub lfs : row.lfs ≡ lf_count (text_in_tables t row.text)

-- The row holds the line of this text, or the text has this fault.
abbrev pub IsLineReadOutcome : Tables → Result LineRow LineFault → List ℕ → Type 0
IsLineReadOutcome t (Ok row) text = IsLastingLineRow t row × (text_in_tables t row.text ≡ text)
IsLineReadOutcome t (Err fault) text = IsLineOutcomeOrNoMemory (Err fault) (outcome_of_line text)
