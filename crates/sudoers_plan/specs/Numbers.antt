-- Numbers of items.
use Rattle.std.specs.Prelude.{ℕ, ◌+◌, Bool, List, [], ◌∷◌, if◌then◌else◌}

-- the numbers, counted from n on, of the items that pass a test
abbrev pub numbers_of_passing : {X : Type 0} → (X → Bool) → ℕ → List X → List ℕ
numbers_of_passing test n [] = []
numbers_of_passing test n (x ∷ xs) = if test x then n ∷ numbers_of_passing test (n + 1) xs else numbers_of_passing test (n + 1) xs
