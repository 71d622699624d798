-- Physical lines: a text cut behind each LF.
use Rattle.std.specs.Prelude.{ℕ, ◌==◌, if◌then◌else◌, List, [], ◌∷◌}

-- a byte that ends no line, before the lines that follow it
abbrev pub byte_joined_to_first_line : ℕ → List (List ℕ) → List (List ℕ)
byte_joined_to_first_line byte [] = (byte ∷ []) ∷ []
byte_joined_to_first_line byte (line ∷ lines) = (byte ∷ line) ∷ lines

-- the text cut behind each LF; the last piece may lack it
abbrev pub physical_lines : List ℕ → List (List ℕ)
physical_lines [] = []
physical_lines (b ∷ bytes) = if b == 10 then (b ∷ []) ∷ physical_lines bytes else byte_joined_to_first_line b (physical_lines bytes)
