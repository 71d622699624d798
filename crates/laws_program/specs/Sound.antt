-- What the laws ask of the lines of a policy. The lines of the walk over files that are loaded are such lines.
use Rattle.std.specs.Prelude.{◌≡◌, false, List}
use Rattle.sudoers_text.specs.Line.{join}
use Rattle.sudoers_grammar.specs.Piece.{has_byte}
use Rattle.sudoers_tree.specs.Line.{Line}
use Rattle.sudoers_tree.specs.Policy.{AreValidWalkLines, texts_of_lines}

-- The lines are those of a walk, and no line holds NUL.
pub record AreWalkLinesWithoutNul (lines : List Line) : Type 0 where
  pub clean : has_byte 0 (join (texts_of_lines lines)) ≡ false
  pub walk : AreValidWalkLines lines
