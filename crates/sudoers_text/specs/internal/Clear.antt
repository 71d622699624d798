-- A device of the proof, which no public contract cites: where no backslash stands.
use Rattle.std.specs.Prelude.{◌≡◌, ◌≤◌, ◌<◌, ℕ, List, slice_index_or}

-- From this place on, before that one, there is none.
abbrev pub HasNoBackslashFromTo : List ℕ → ℕ → ℕ → Type 0
HasNoBackslashFromTo text from to = (k : ℕ) → from ≤ k → k < to → slice_index_or text k 0 ≡ 92 → ⊥
