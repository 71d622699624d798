-- Lists of bytes, by the byte at a place.
use Rattle.std.proofs.Common.{◌≡◌, ◌≢◌, ℕ, zero, suc, ◌+◌, ◌<◌, ◌≤◌, List, [], ◌∷◌, ◌++◌, length, take, refl, sym, ap, ◌∙◌, arith, Some}
use Rattle.std.specs.Prelude.{slice_get}
use Rattle.sudoers_text.proofs.First.{HasNoNul, HasNoNulBelow}

pub byte_within_left_part_is_its_byte : (xs ys : List ℕ) (k : ℕ) → k < length xs → slice_get (xs ++ ys) k ≡ slice_get xs k
byte_within_left_part_is_its_byte [] ys k l = absurd (omega arith)
byte_within_left_part_is_its_byte (x ∷ xs) ys zero l = refl
byte_within_left_part_is_its_byte (x ∷ xs) ys (suc k) l = byte_within_left_part_is_its_byte xs ys k (omega arith)

pub byte_past_left_part_is_right_byte : (xs ys : List ℕ) (n k : ℕ) → n ≡ length xs + k → slice_get (xs ++ ys) n ≡ slice_get ys k
byte_past_left_part_is_right_byte [] ys n k e = let same : n ≡ k = omega arith in ap (λ (i : ℕ). slice_get ys i) same
byte_past_left_part_is_right_byte (x ∷ xs) ys zero k e = absurd (omega arith)
byte_past_left_part_is_right_byte (x ∷ xs) ys (suc n) k e = byte_past_left_part_is_right_byte xs ys n k (omega arith)

pub byte_of_prefix_is_byte_of_list : (m : ℕ) (xs : List ℕ) (k : ℕ) → k < m → slice_get (take m xs) k ≡ slice_get xs k
byte_of_prefix_is_byte_of_list zero xs k l = absurd (omega arith)
byte_of_prefix_is_byte_of_list (suc m) [] k l = refl
byte_of_prefix_is_byte_of_list (suc m) (x ∷ xs) zero l = refl
byte_of_prefix_is_byte_of_list (suc m) (x ∷ xs) (suc k) l = byte_of_prefix_is_byte_of_list m xs k (omega arith)

pub prefix_size_is_at_most_count : (m : ℕ) (xs : List ℕ) → length (take m xs) ≤ m
prefix_size_is_at_most_count zero xs = omega arith
prefix_size_is_at_most_count (suc m) [] = omega arith
prefix_size_is_at_most_count (suc m) (x ∷ xs) = omega (arith, prefix_size_is_at_most_count m xs)

pub nonempty_prefix_has_positive_count : (m : ℕ) (xs : List ℕ) → 0 < length (take m xs) → 0 < m
nonempty_prefix_has_positive_count zero xs h = absurd (omega arith)
nonempty_prefix_has_positive_count (suc m) xs h = omega arith

-- no NUL in a text, and none below a place of the next
pub nul_free_text_extends_nul_free_prefix : (xs ys : List ℕ) (n : ℕ) → HasNoNul xs → HasNoNulBelow ys n → (k : ℕ) → k < length xs + n → slice_get (xs ++ ys) k ≢ Some 0
nul_free_text_extends_nul_free_prefix [] ys n none below k l = below k (omega arith)
nul_free_text_extends_nul_free_prefix (x ∷ xs) ys n none below zero l = none zero
nul_free_text_extends_nul_free_prefix (x ∷ xs) ys n none below (suc k) l = nul_free_text_extends_nul_free_prefix xs ys n (λ j. none (suc j)) below k (omega arith)

pub nul_free_texts_join_nul_free : (xs ys : List ℕ) → HasNoNul xs → HasNoNul ys → (k : ℕ) → slice_get (xs ++ ys) k ≢ Some 0
nul_free_texts_join_nul_free [] ys none other k = other k
nul_free_texts_join_nul_free (x ∷ xs) ys none other zero = none zero
nul_free_texts_join_nul_free (x ∷ xs) ys none other (suc k) = nul_free_texts_join_nul_free xs ys (λ j. none (suc j)) other k

pub longer_text_keeps_no_nul_below : (xs ys : List ℕ) (n : ℕ) → n ≤ length xs → HasNoNulBelow xs n → HasNoNulBelow (xs ++ ys) n
longer_text_keeps_no_nul_below xs ys n inside below k l here = below k l (sym (byte_within_left_part_is_its_byte xs ys k (omega arith)) ∙ here)
