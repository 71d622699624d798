-- Devices of the proof, which no public contract cites: what a text keeps while others are appended to it.
use Rattle.std.specs.Prelude.{◌≡◌, ℕ, List, ◌++◌}

-- The text begins with this.
unfoldable pub IsFront : List ℕ → List ℕ → Type 0
IsFront front text = (more : List ℕ) × (text ≡ front ++ more)
