-- Numbers under names.
use Rattle.std.specs.Prelude.{ℕ, List, [], ◌∷◌, if◌then◌else◌}
use Rattle.std.specs.Str.{bytes_eq}

-- the numbers under this name
abbrev pub numbers_of_name : List ℕ → List (List ℕ × List ℕ) → List ℕ
numbers_of_name name [] = []
numbers_of_name name (e ∷ es) = if bytes_eq name e.0 then e.1 else numbers_of_name name es
