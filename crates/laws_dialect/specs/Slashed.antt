-- What may change at all in a line that is respelled.
use Rattle.std.specs.Prelude.{ℕ, List, [], ◌∷◌}

-- The other bytes are the bytes, but for some `=` and some `:`. Before such an `=` stands a backslash, or a blank and a backslash. A blank
-- stands in place of such a `:`.
pub data IsSlashed : List ℕ → List ℕ → Type 0 where
  nothing_left : IsSlashed [] []
  same_byte : {b : ℕ} {bytes others : List ℕ} → IsSlashed bytes others → IsSlashed (b ∷ bytes) (b ∷ others)
  equals_with_backslash : {bytes others : List ℕ} → IsSlashed bytes others → IsSlashed (61 ∷ bytes) (92 ∷ 61 ∷ others)
  equals_with_blank_and_backslash : {bytes others : List ℕ} → IsSlashed bytes others → IsSlashed (61 ∷ bytes) (32 ∷ 92 ∷ 61 ∷ others)
  colon_to_blank : {bytes others : List ℕ} → IsSlashed bytes others → IsSlashed (58 ∷ bytes) (32 ∷ others)
