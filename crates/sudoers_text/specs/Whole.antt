-- Whether bytes are one logical line, limits aside.
use Rattle.std.specs.Prelude.{◌≡◌, ℕ, Bool, not, ◌&&◌, ◌==◌, List, [], ◌∷◌, length, slice_get, Some}
use Rattle.std.specs.List.{list_any}
use Rattle.sudoers_text.specs.Unit.{is_empty}
use Rattle.sudoers_text.specs.Line.{AreLinesOfText, IsUnfinishedLine}
use Rattle.sudoers_text.specs.Cut.{first_line_size, is_unfinished_line}

-- The text is one logical line with which nothing is wrong, limits aside.
pub record IsLogicalLine (text : List ℕ) : Type 0 where
  pub cuts : AreLinesOfText text (text ∷ [])
  pub clean : (at : ℕ) → slice_get text at ≡ Some 0 → ⊥
  pub closed : IsUnfinishedLine text → ⊥

-- The same as a function that computes. Of its own it defines nothing: that it tells whether the text is one logical
-- line is a law (`whole_line_is`).
unfoldable pub is_logical_line : List ℕ → Bool
is_logical_line text =
    not (is_empty text) && (first_line_size text == length text)
    && not (list_any (λ b. b == 0) text) && not (is_unfinished_line text)
