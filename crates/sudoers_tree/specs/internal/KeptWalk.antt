-- A device of the proof, which no public contract cites: a walk that stays where lines change in their places.
use Rattle.std.specs.Prelude.{◌≡◌, ℕ, true, List, [], length, slice_get, Some, None}
use Rattle.sudoers_text.specs.Fault.{lf_count}
use Rattle.sudoers_tree.specs.declared.place.WalkLineSpot.{WalkLineSpot}
use Rattle.sudoers_tree.specs.Definition.{definitions_of_lines}
use Rattle.sudoers_tree.specs.Files.{ParsedFile, fault_of_numbered_file, lines_of_numbered_file, name_of_numbered_file}
use Rattle.sudoers_tree.specs.Lead.{lead_of_parsed_line}
use Rattle.sudoers_tree.specs.Line.{Line}
use Rattle.sudoers_tree.specs.Mapped.{file_names}
use Rattle.sudoers_tree.specs.Reading.{first_definition_fault}
use Rattle.sudoers_tree.specs.Walk.{WalkState, is_file_on_walk}

-- In the file `name`, one line leads where the other leads, and has as many line ends.
pub record HasSameLeadAndLineEnds (name : List ℕ) (old new : Line) : Type 0 where
  pub lead : lead_of_parsed_line name new.node ≡ lead_of_parsed_line name old.node
  pub lfs : lf_count new.text ≡ lf_count old.text

-- The line at this spot of the files `others` is the one with the number i of these lines. It stands beside the line `old`.
pub record StaysAtSpotOfWalk (files others : List ParsedFile) (lines : List Line) (i : ℕ) (at : WalkLineSpot) (old : Line) : Type 0 where
  pub new : Line
  pub on_walk : slice_get lines i ≡ Some new
  pub in_file : slice_get (lines_of_numbered_file others at.file) at.line ≡ Some new
  pub beside : HasSameLeadAndLineEnds (name_of_numbered_file files at.file) old new

-- The files `others` are `files` with lines changed in their places. These lines stand at the spots of the walk w, each beside the line of
-- w there. No name that they define has a fault.
pub record KeepsWalkSpots (files others : List ParsedFile) (w : WalkState) (lines : List Line) : Type 0 where
  pub names : file_names others ≡ file_names files
  pub counts : (f : ℕ) → is_file_on_walk w f ≡ true → length (lines_of_numbered_file others f) ≡ length (lines_of_numbered_file files f)
  pub parse : (f : ℕ) → is_file_on_walk w f ≡ true → fault_of_numbered_file others f ≡ None
  pub paired : length lines ≡ length w.spots
  pub stay : (i : ℕ) (at : WalkLineSpot) (old : Line) → slice_get w.spots i ≡ Some at → slice_get w.lines i ≡ Some old
      → StaysAtSpotOfWalk files others lines i at old
  pub sound : first_definition_fault [] (definitions_of_lines lines) ≡ None

-- the walk w with these lines at its spots
abbrev pub walk_with_lines_replaced : List Line → WalkState → WalkState
walk_with_lines_replaced lines w = record { lines = lines; spots = w.spots; on = w.on }
