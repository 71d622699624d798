-- A device of the proof, which no public contract cites: lines after changes, as stretches of lines and texts between them.
use Rattle.std.specs.Prelude.{◌≡◌, ◌≤◌, ◌+◌, ℕ, List, [], ◌∷◌, ◌++◌, length, map, Option, Some, None}
use Rattle.std.specs.List.{flat_map, All, AllByRecursion}
use Rattle.sudoers_text.specs.Fault.{lf_count, line_limit, text_limit}
use Rattle.sudoers_line_rows.specs.Tables.{text_in_tables}
use Rattle.sudoers_tree.specs.declared.fault.SyntaxFault.{SyntaxFault}
use Rattle.sudoers_tree.specs.declared.line.LineRow.{LineRow}
use Rattle.sudoers_tree.specs.Files.{lines_parsed_until_fault}
use Rattle.sudoers_tree.specs.internal.Tree.{IsLastingLineRow}
use Rattle.sudoers_line_rows.specs.declared.rows.Tables.{Tables}
use Rattle.sudoers_tree.specs.declared.old_and_new_lines.OldOrNewLines.{OldOrNewLines}
use Rattle.sudoers_tree.specs.declared.old_and_new_lines.OldOrNewLines.TheVariants.{Old, New}
use Rattle.sudoers_tree.specs.Line.{Line, line_of_row}
use Rattle.sudoers_tree.specs.Policy.{texts_of_lines}

abbrev pub line_texts_of_piece : Tables → OldOrNewLines → List (List ℕ)
line_texts_of_piece t (Old rows) = texts_of_lines (map (line_of_row t) rows.now)
line_texts_of_piece t (New text) = text.now ∷ []

-- the texts of the lines of all these pieces
abbrev pub line_texts_of_pieces : Tables → List OldOrNewLines → List (List ℕ)
line_texts_of_pieces t pieces = flat_map (line_texts_of_piece t) pieces

-- ---- lines that are kept

-- The line is within the limit.
abbrev pub IsWithinLineLimit : List ℕ → Type 0
IsWithinLineLimit line = length line ≤ line_limit

abbrev pub AreWithinLineLimit : List (List ℕ) → Type 0
AreWithinLineLimit lines = AllByRecursion IsWithinLineLimit lines

-- The row holds its line for good, and the line is within the limit.
pub record IsKeptRow (t : Tables) (row : LineRow) : Type 0 where
  pub stands : IsLastingLineRow t row
  pub short : IsWithinLineLimit (text_in_tables t row.text)

abbrev pub HasKeptRows : Tables → OldOrNewLines → Type 0
HasKeptRows t (Old rows) = All (IsKeptRow t) rows.now
HasKeptRows t (New text) = Unit {0}

-- The rows of all these pieces are kept.
abbrev pub AreKeptPieces : Tables → List OldOrNewLines → Type 0
AreKeptPieces t pieces = AllByRecursion (HasKeptRows t) pieces

-- ---- how many bytes and line ends lines have

abbrev pub byte_count_of_lines : List (List ℕ) → ℕ
byte_count_of_lines [] = 0
byte_count_of_lines (line ∷ lines) = length line + byte_count_of_lines lines

abbrev pub lf_count_of_lines : List (List ℕ) → ℕ
lf_count_of_lines [] = 0
lf_count_of_lines (line ∷ lines) = lf_count line + lf_count_of_lines lines

-- The lines after `size` bytes come to so many, which is within the limit, and each is within its own.
pub record IsSizeWithinLimitsAfter (size all : ℕ) (lines : List (List ℕ)) : Type 0 where
  pub is : all ≡ size + byte_count_of_lines lines
  pub fits : all ≤ text_limit
  pub short : AreWithinLineLimit lines

abbrev pub IsSizeWithinLimits : ℕ → List (List ℕ) → Type 0
IsSizeWithinLimits size lines = IsSizeWithinLimitsAfter 0 size lines

-- ---- reading

-- Lines of these texts are read after the lines `before`, which then are the lines `after`; or the line does not parse.
abbrev pub ContinuesReadingLines : Option SyntaxFault → List Line → List Line → List (List ℕ) → Type 0
ContinuesReadingLines None before after lines =
    (read : List Line)
    × (after ≡ before ++ read)
    × (texts_of_lines read ≡ lines)
    × ((more : List (List ℕ)) → lines_parsed_until_fault before (lines ++ more) ≡ (read ++ (lines_parsed_until_fault after more).0, (lines_parsed_until_fault after more).1))
ContinuesReadingLines (Some fault) before after lines =
    (after ≡ before) × ((more : List (List ℕ)) → lines_parsed_until_fault before (lines ++ more) ≡ ([], Some fault))
