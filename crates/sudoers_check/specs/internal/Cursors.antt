-- What a cursor of a walk keeps.
use Rattle.std.specs.Prelude.{◌≡◌, ℕ, List, Some}
use Rattle.sudoers_tree.specs.Walk.{WalkState, spot_of_walk_line}
use Rattle.sudoers_tree.specs.declared.place.WalkLineSpot.{WalkLineSpot}
use Rattle.sudoers_check.specs.Places.{text_of_walk_line}

-- the line with this number of the walk has this text and stands here
pub record IsTextOfWalkLineAtSpot (w : WalkState) (number : ℕ) (text : List ℕ) (at : WalkLineSpot) : Type 0 where
  pub text_is : text_of_walk_line w number ≡ Some text
  pub spot_is : at ≡ spot_of_walk_line w number
