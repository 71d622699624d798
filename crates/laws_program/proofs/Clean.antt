-- Texts without NUL.
use Rattle.laws_program.proofs.Common.{◌≡◌, ℕ, zero, suc, false, List, [], ◌∷◌, ◌++◌, Some, refl, arith, ◌==◌, AllByRecursion, join, has_byte}
use Rattle.std.proofs.Common.{slice_get}
use Rattle.std.proofs.lemmas.Bool.{or_parts, or_from}
use Rattle.std.proofs.lemmas.Bool.Decides.{nat_tests}

-- no byte of the text is NUL
abbrev pub HasNoNulByte : List ℕ → Type 0
HasNoNulByte text = (at : ℕ) → slice_get text at ≡ Some 0 → ⊥

byte_unlike_nul_is_not_zero : (b : ℕ) → (Some b ≡ Some 0 → ⊥) → (b == 0) ≡ false
byte_unlike_nul_is_not_zero zero h = absurd (h refl)
byte_unlike_nul_is_not_zero (suc b) h = grind (arith, nat_tests)

pub text_without_nul_passes_byte_test : (text : List ℕ) → HasNoNulByte text → has_byte 0 text ≡ false
text_without_nul_passes_byte_test [] none = refl
text_without_nul_passes_byte_test (b ∷ text) none = or_from (b == 0) (has_byte 0 text) (byte_unlike_nul_is_not_zero b (none zero)) (text_without_nul_passes_byte_test text (λ at. none (suc at)))

pub byte_test_implies_no_nul : (text : List ℕ) → has_byte 0 text ≡ false → HasNoNulByte text
byte_test_implies_no_nul [] clean at e = cc
byte_test_implies_no_nul (b ∷ text) clean zero e = nothing b (or_parts (b == 0) (has_byte 0 text) clean).0 e
  where
    nothing : (b : ℕ) → (b == 0) ≡ false → Some b ≡ Some 0 → ⊥
    nothing zero h e = cc
    nothing (suc b) h e = cc
byte_test_implies_no_nul (b ∷ text) clean (suc at) e = byte_test_implies_no_nul text (or_parts (b == 0) (has_byte 0 text) clean).1 at e

parts_of_clean_text_have_no_nul : (xs ys : List ℕ) → has_byte 0 (xs ++ ys) ≡ false → (has_byte 0 xs ≡ false) × (has_byte 0 ys ≡ false)
parts_of_clean_text_have_no_nul [] ys h = (refl, h)
parts_of_clean_text_have_no_nul (x ∷ xs) ys h =
    let parts = or_parts (x == 0) (has_byte 0 (xs ++ ys)) h in
    let later = parts_of_clean_text_have_no_nul xs ys parts.1 in
    (or_from (x == 0) (has_byte 0 xs) parts.0 later.0, later.1)

joined_texts_without_nul_have_no_nul : (xs ys : List ℕ) → has_byte 0 xs ≡ false → has_byte 0 ys ≡ false → has_byte 0 (xs ++ ys) ≡ false
joined_texts_without_nul_have_no_nul [] ys h k = k
joined_texts_without_nul_have_no_nul (x ∷ xs) ys h k =
    let parts = or_parts (x == 0) (has_byte 0 xs) h in
    or_from (x == 0) (has_byte 0 (xs ++ ys)) parts.0 (joined_texts_without_nul_have_no_nul xs ys parts.1 k)

-- Texts are without NUL where what they join to is.
pub texts_of_clean_join_have_no_nul : (texts : List (List ℕ)) → has_byte 0 (join texts) ≡ false → AllByRecursion (λ (text : List ℕ). has_byte 0 text ≡ false) texts
texts_of_clean_join_have_no_nul [] h = tt
texts_of_clean_join_have_no_nul (text ∷ texts) h = let parts = parts_of_clean_text_have_no_nul text (join texts) h in (parts.0, texts_of_clean_join_have_no_nul texts parts.1)

pub join_of_clean_texts_has_no_nul : (texts : List (List ℕ)) → AllByRecursion HasNoNulByte texts → has_byte 0 (join texts) ≡ false
join_of_clean_texts_has_no_nul [] all = refl
join_of_clean_texts_has_no_nul (text ∷ texts) all = joined_texts_without_nul_have_no_nul text (join texts) (text_without_nul_passes_byte_test text all.0) (join_of_clean_texts_has_no_nul texts all.1)
