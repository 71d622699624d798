-- Where the bytes of a walk stand in files.
use Rattle.std.specs.Prelude.{ℕ, ◌+◌, List, take, slice_get, Option}
use Rattle.std.specs.Option.{option_map}
use Rattle.sudoers_text.specs.Fault.{lf_count}
use Rattle.sudoers_tree.specs.Line.{Line}
use Rattle.sudoers_tree.specs.Physical.{column_behind}
use Rattle.sudoers_tree.specs.Walk.{WalkState, spot_of_walk_line}
use Rattle.sudoers_tree.specs.declared.place.WalkLineSpot.{WalkLineSpot}
use Rattle.sudoers_check.specs.declared.walk_cursor.BytePlace.{BytePlace}

-- the text of the line with this number of the walk, if it has one
abbrev pub text_of_walk_line : WalkState → ℕ → Option (List ℕ)
text_of_walk_line w number = option_map (λ (line : Line). line.text) (slice_get w.lines number)

-- the place of the byte `start`, from 0, of a line that stands here and has this text
abbrev pub byte_place_in_line : WalkLineSpot → List ℕ → ℕ → BytePlace
byte_place_in_line at text start = record { file = at.file; row = at.row + lf_count (take start text); column = column_behind (take start text) }

-- the place of the byte `start`, from 0, of the line with this number of the walk, if it has one
abbrev pub byte_place_on_walk : WalkState → ℕ → ℕ → Option BytePlace
byte_place_on_walk w number start = option_map (λ (text : List ℕ). byte_place_in_line (spot_of_walk_line w number) text start) (text_of_walk_line w number)
