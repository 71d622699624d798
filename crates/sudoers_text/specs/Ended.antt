-- Lines that end in LF.
use Rattle.std.specs.Prelude.{ℕ, Bool, false, not, ◌||◌, ◌==◌, List, [], ◌∷◌}

-- the last byte is LF
abbrev pub ends_in_lf : List ℕ → Bool
ends_in_lf [] = false
ends_in_lf (b ∷ []) = b == 10
ends_in_lf (b ∷ c ∷ bytes) = ends_in_lf (c ∷ bytes)

-- some line without LF stands before another
abbrev pub has_inner_line_without_lf : List (List ℕ) → Bool
has_inner_line_without_lf [] = false
has_inner_line_without_lf (line ∷ []) = false
has_inner_line_without_lf (line ∷ next ∷ lines) = not (ends_in_lf line) || has_inner_line_without_lf (next ∷ lines)
