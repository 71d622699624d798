-- The last byte of a text.
use Rattle.std.proofs.Common.{◌≡◌, ℕ, zero, suc, ◌-◌, List, [], ◌∷◌, length, refl, ap, ◌∙◌, arith}
use Rattle.std.specs.Prelude.{◌==◌, slice_get, Some}
use Rattle.sudoers_grammar.specs.Piece.{has_last_byte}

byte_before_end_tells_last_byte_test : (a : ℕ) (text : List ℕ) (n b : ℕ) → suc n ≡ length text → Some b ≡ slice_get text n → (b == a) ≡ has_last_byte a text
byte_before_end_tells_last_byte_test a [] n b l h = absurd (omega arith)
byte_before_end_tells_last_byte_test a (x ∷ []) zero b l h = let e : b ≡ x = cc in ap (λ (z : ℕ). z == a) e
byte_before_end_tells_last_byte_test a (x ∷ []) (suc n) b l h = absurd (omega arith)
byte_before_end_tells_last_byte_test a (x ∷ y ∷ text) zero b l h = absurd (omega arith)
byte_before_end_tells_last_byte_test a (x ∷ y ∷ text) (suc n) b l h = byte_before_end_tells_last_byte_test a (y ∷ text) n b (omega arith) h

pub last_byte_tells_last_byte_test : (a : ℕ) (text : List ℕ) (b : ℕ) → Some b ≡ slice_get text (length text - 1) → (b == a) ≡ has_last_byte a text
last_byte_tells_last_byte_test a [] b h = cc
last_byte_tells_last_byte_test a (x ∷ text) b h = byte_before_end_tells_last_byte_test a (x ∷ text) (length text) b refl (h ∙ ap (slice_get (x ∷ text)) (let e : length (x ∷ text) - 1 ≡ length text = omega arith in e))
