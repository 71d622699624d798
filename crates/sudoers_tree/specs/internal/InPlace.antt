-- A device of the proof, which no public contract cites: a change of one line that is made in its place.
use Rattle.std.specs.Prelude.{◌≡◌, ◌≤◌, ℕ, zero, suc, length, map, nat_eq, Result, Ok, Err, ◌+◌, ◌-◌, ◌==◌, ◌&&◌, ◌<◌, ◌^◌, Bool, true, false, if◌then◌else◌, List, [], ◌∷◌, ◌++◌, drop, nat_le, slice_get, take, Some}
use Rattle.std.specs.List.{list_any}
use Rattle.sudoers_grammar.specs.Node.{Node}
use Rattle.sudoers_grammar.specs.Node as node
use Rattle.sudoers_line_rows.specs.declared.rows.Tables.{Tables}
use Rattle.sudoers_line_rows.specs.Tables.{text_in_tables}
use Rattle.sudoers_text.specs.Fault.{line_limit, text_limit}
use Rattle.sudoers_text.specs.Whole.{IsLogicalLine}
use Rattle.sudoers_tree.specs.ChangedFiles.{files_after_changes}
use Rattle.sudoers_tree.specs.declared.files_and_walk.WalkedFiles.{WalkedFiles}
use Rattle.sudoers_tree.specs.declared.files.ParsedFileRows.{ParsedFileRows}
use Rattle.sudoers_tree.specs.declared.line.LineRow.{LineRow}
use Rattle.sudoers_tree.specs.declared.line_change.LineChange.{LineChange}
use Rattle.sudoers_tree.specs.declared.line_in_place.LineOnWalk.{LineOnWalk}
use Rattle.sudoers_tree.specs.declared.moved_lines.LineMove.{LineMove}
use Rattle.sudoers_tree.specs.declared.place.Place.{Place}
use Rattle.sudoers_tree.specs.declared.place.WalkLineSpot.{WalkLineSpot}
use Rattle.sudoers_tree.specs.Files.{ParsedFile, lines_of_numbered_file}
use Rattle.sudoers_tree.specs.Line.{Line, line_of_row}
use Rattle.sudoers_tree.specs.Load.{policy_or_load_fault}
use Rattle.sudoers_tree.specs.internal.Files.{parsed_file_of_rows}
use Rattle.sudoers_tree.specs.internal.Loading.{policy_of_walked_files}
use Rattle.sudoers_tree.specs.internal.Tree.{IsLastingLineRow}
use Rattle.sudoers_tree.specs.Mapped.{LineToLinesMapping}

-- the list with these items in the place of that with the number n
abbrev pub with_items_in_place : {X : Type 0} → ℕ → List X → List X → List X
with_items_in_place n news xs = take n xs ++ (news ++ drop (suc n) xs)

-- These lines come of the line with the number n of the file f. Each other line stays.
abbrev pub lines_in_place_of_line : ℕ → ℕ → List Line → LineToLinesMapping
lines_in_place_of_line f n news g k line = if (g == f) && (k == n) then news else line ∷ []

-- it is the spot of the line with the number n of the file f
abbrev pub is_spot_of_line : ℕ → ℕ → WalkLineSpot → Bool
is_spot_of_line f n at = (at.file == f) && (at.line == n)

-- The spot with the number p is the only one of the line with the number n of the file f.
pub record IsOnlySpotOfLine (spots : List WalkLineSpot) (f n p : ℕ) : Type 0 where
  pub at : WalkLineSpot
  pub before : list_any (is_spot_of_line f n) (take p spots) ≡ false
  pub there : slice_get spots p ≡ Some at
  pub is : is_spot_of_line f n at ≡ true
  pub after : list_any (is_spot_of_line f n) (drop (suc p) spots) ≡ false

-- The spot with the number p is the first of the line with the number n of the file f.
pub record IsFirstSpotOfLine (spots : List WalkLineSpot) (f n p : ℕ) : Type 0 where
  pub at : WalkLineSpot
  pub before : list_any (is_spot_of_line f n) (take p spots) ≡ false
  pub there : slice_get spots p ≡ Some at
  pub is : is_spot_of_line f n at ≡ true

-- where the line at this spot stands after the lines of the file f, from the one with the number `from` on, moved
abbrev pub moved_spot : ℕ → ℕ → LineMove → WalkLineSpot → WalkLineSpot
moved_spot f from by at =
    if (at.file == f) && nat_le from at.line then record { file = at.file; line = at.line + by.up - by.down; row = at.row + by.more - by.less } else at

-- where a definition at this place stands after the lines of the walk, from the one with the number `from` on, moved
abbrev pub moved_place : ℕ → LineMove → Place → Place
moved_place from by place = if nat_le from place.line then record { line = place.line + by.up - by.down; def = place.def } else place

-- the same of a name with its place
abbrev pub moved_entry : ℕ → LineMove → (List ℕ × Place) → List ℕ × Place
moved_entry from by e = (e.0, moved_place from by e.1)

-- Numbers that can be moved.
abbrev pub IsSpotWithinReach : WalkLineSpot → Type 0
IsSpotWithinReach at = (at.line < 2 ^ 62) × (at.row < 2 ^ 62)

abbrev pub IsPlaceWithinReach : Place → Type 0
IsPlaceWithinReach place = place.line < 2 ^ 63

abbrev pub HasRoomToMove : LineMove → Type 0
HasRoomToMove by = (by.up < 2 ^ 62) × (by.more < 2 ^ 62)

-- ---- files of which one has other lines

-- the files, of which the one with the number f has the lines that come of its lines
abbrev pub files_with_other_lines : ℕ → (List Line → List Line) → List ParsedFile → List ParsedFile
files_with_other_lines f change [] = []
files_with_other_lines zero change (file ∷ files) = record { name = file.name; lines = change file.lines; fault = file.fault } ∷ files
files_with_other_lines (suc f) change (file ∷ files) = file ∷ files_with_other_lines f change files

-- ---- lines that can come, go or stand around the place

-- What is said is no include.
abbrev pub IsNoIncludeNode : Node → Type 0
IsNoIncludeNode (node.Include dir path) = ⊥
IsNoIncludeNode (node.Alias k defs) = Unit {0}
IsNoIncludeNode node.Blank = Unit {0}
IsNoIncludeNode node.Comment = Unit {0}
IsNoIncludeNode (node.Defaults scope params) = Unit {0}
IsNoIncludeNode (node.Spec users groups) = Unit {0}

-- It is no include, and defines no alias.
abbrev pub IsPlainNode : Node → Type 0
IsPlainNode (node.Include dir path) = ⊥
IsPlainNode (node.Alias k defs) = ⊥
IsPlainNode node.Blank = Unit {0}
IsPlainNode node.Comment = Unit {0}
IsPlainNode (node.Defaults scope params) = Unit {0}
IsPlainNode (node.Spec users groups) = Unit {0}

-- The line with the number n of the file f stands at this number of the walk alone, and has this row.
pub record IsLineOnWalk (w : WalkedFiles) (f n : ℕ) (place : LineOnWalk) : Type 0 where
  pub is : slice_get (lines_of_numbered_file (map (parsed_file_of_rows w.tables) w.files.items) f) n ≡ Some (line_of_row w.tables place.row)
  pub stands : IsLastingLineRow w.tables place.row
  pub on : list_any (nat_eq f) w.on.items ≡ true
  pub only : IsOnlySpotOfLine w.spots.items f n place.number

-- The row holds the line of this text, which is within its limit.
pub record IsReadLineRow (t : Tables) (text : List ℕ) (row : LineRow) : Type 0 where
  pub stands : IsLastingLineRow t row
  pub says : text_in_tables t row.text ≡ text
  pub short : length text ≤ line_limit

-- A change is made, or all stays as it was but for tables that grew.
abbrev pub IsChangeInPlace : Bool → List LineChange → WalkedFiles → WalkedFiles → Type 0
IsChangeInPlace true changes old new = policy_or_load_fault (files_after_changes changes (policy_of_walked_files old).files) ≡ Ok (policy_of_walked_files new)
IsChangeInPlace false changes old new = policy_of_walked_files new ≡ policy_of_walked_files old

abbrev pub IsChangeInPlaceUnlessNoMemory : {E : Type 0} → Result Bool E → List LineChange → WalkedFiles → WalkedFiles → Type 0
IsChangeInPlaceUnlessNoMemory (Ok made) changes old new = IsChangeInPlace made changes old new
IsChangeInPlaceUnlessNoMemory (Err error) changes old new = policy_of_walked_files new ≡ policy_of_walked_files old

-- The line of the row is one logical line within the limit, and has so many bytes.
pub record IsShortLineRow (t : Tables) (size : ℕ) (row : LineRow) : Type 0 where
  pub stands : IsLastingLineRow t row
  pub logical : IsLogicalLine (text_in_tables t row.text)
  pub short : length (text_in_tables t row.text) ≤ line_limit
  pub size_is : size ≡ length (text_in_tables t row.text)

-- The file f may have so many bytes more.
abbrev pub HasRoomInFile : List ParsedFileRows → ℕ → ℕ → Type 0
HasRoomInFile files f size = (file : ParsedFileRows) → slice_get files f ≡ Some file → file.bytes + size ≤ text_limit
