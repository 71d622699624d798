-- Bits of numbers, and of items in words of 64.
use Rattle.std.proofs.Common.{◌≡◌, ◌≢◌, ℕ, zero, suc, ◌+◌, ◌*◌, ◌/◌, ◌%◌, ◌<◌, List, [], ◌∷◌, add-one, bit_and, bit_or, get_or, arith, sym, ap, subst, ◌∙◌, ◌⊎◌, inl, inr}
use Rattle.std.specs.Prelude.{◌^◌}
use Rattle.std.specs.Int.{bit_at}
use Rattle.std.proofs.lemmas.Bool.{cases_lt}
use Rattle.std.proofs.lemmas.Nat.{shl-shr, shr_split}
use Rattle.std.proofs.lemmas.Nat.Bits.{bit_at_and, bit_at_or, bit_at-lt, bit_at-suc, bit_at_lowest, bit_at-zero, bit_at_cat_low}

pub set_bit_stays_set_by_or : (n m i : ℕ) → bit_at n i ≡ 1 → bit_at (bit_or n m) i ≡ 1
set_bit_stays_set_by_or n m i h = omega (arith, bit_at_or n m i, bit_at-lt m i, h)

or_has_bit_of_second : (n m i : ℕ) → bit_at m i ≡ 1 → bit_at (bit_or n m) i ≡ 1
or_has_bit_of_second n m i h = omega (arith, bit_at_or n m i, bit_at-lt n i, h)

bit_set_in_both_is_set_in_and : (n m i : ℕ) → bit_at n i ≡ 1 → bit_at m i ≡ 1 → bit_at (bit_and n m) i ≡ 1
bit_set_in_both_is_set_in_and n m i h k = omega (arith, bit_at_and n m i, h, k)

-- ---- a word of 64 bits that moves on by one, with a first bit

abbrev pub moved_word : ℕ → ℕ → ℕ → ℕ
moved_word word first taking = bit_and (bit_or (word * 2 % 18446744073709551616) first) taking

doubled_word_has_bit_one_further : (n i : ℕ) → i + 1 < 64 → bit_at n i ≡ 1 → bit_at (n * 2 % 18446744073709551616) (i + 1) ≡ 1
doubled_word_has_bit_one_further n i h is =
    let twice = n * 2 in
    sym (bit_at_cat_low (twice / 2 ^ 64) 64 (twice % 2 ^ 64) (i + 1) h)
    ∙ ap (λ m. bit_at m (i + 1)) (shr_split twice 64)
    ∙ ap (bit_at twice) (add-one i)
    ∙ bit_at-suc twice i
    ∙ ap (λ m. bit_at m i) (shl-shr n 1)
    ∙ is

moved_word_has_bit_one_further : (word first taking i : ℕ) → i + 1 < 64 → bit_at word i ≡ 1 → bit_at taking (i + 1) ≡ 1 → bit_at (moved_word word first taking) (i + 1) ≡ 1
moved_word_has_bit_one_further word first taking i h is taken =
    bit_set_in_both_is_set_in_and _ _ (i + 1) (set_bit_stays_set_by_or (word * 2 % 18446744073709551616) first (i + 1) (doubled_word_has_bit_one_further word i h is)) taken

pub moved_word_has_first_bit : (word first taking : ℕ) → bit_at first 0 ≡ 1 → bit_at taking 0 ≡ 1 → bit_at (moved_word word first taking) 0 ≡ 1
moved_word_has_first_bit word first taking is taken =
    bit_set_in_both_is_set_in_and _ _ 0 (or_has_bit_of_second (word * 2 % 18446744073709551616) first 0 is) taken

last_bit_of_word_is_first_of_shifted : (n : ℕ) → bit_at n 63 ≡ 1 → bit_at (n / 9223372036854775808) 0 ≡ 1
last_bit_of_word_is_first_of_shifted n is = bit_at_lowest (n / 9223372036854775808) ∙ is

-- ---- four words of items that move on

abbrev pub moved_words : ℕ → (ℕ → ℕ) → (ℕ → ℕ) → List ℕ
moved_words first word taking =
    moved_word (word 0) first (taking 0) ∷ moved_word (word 1) (word 0 / 9223372036854775808) (taking 1)
    ∷ moved_word (word 2) (word 1 / 9223372036854775808) (taking 2) ∷ moved_word (word 3) (word 2 / 9223372036854775808) (taking 3) ∷ []

property_of_four_numbers : (P : ℕ → Type 0) → P 0 → P 1 → P 2 → P 3 → (n : ℕ) → n < 4 → P n
property_of_four_numbers P a b c d zero h = a
property_of_four_numbers P a b c d (suc zero) h = b
property_of_four_numbers P a b c d (suc (suc zero)) h = c
property_of_four_numbers P a b c d (suc (suc (suc zero))) h = d
property_of_four_numbers P a b c d (suc (suc (suc (suc n)))) h = absurd (omega arith)

moved_words_have_bit_one_further : (first : ℕ) (word taking : ℕ → ℕ) (i n : ℕ) → n < 4 → i + 1 < 64 → bit_at (word n) i ≡ 1 → bit_at (taking n) (i + 1) ≡ 1 → bit_at (get_or (moved_words first word taking) n 0) (i + 1) ≡ 1
moved_words_have_bit_one_further first word taking i n within h =
    property_of_four_numbers (λ n. bit_at (word n) i ≡ 1 → bit_at (taking n) (i + 1) ≡ 1 → bit_at (get_or (moved_words first word taking) n 0) (i + 1) ≡ 1)
    (moved_word_has_bit_one_further (word 0) first (taking 0) i h) (moved_word_has_bit_one_further (word 1) _ (taking 1) i h)
    (moved_word_has_bit_one_further (word 2) _ (taking 2) i h) (moved_word_has_bit_one_further (word 3) _ (taking 3) i h) n within

moved_words_have_last_bit_in_next : (first : ℕ) (word taking : ℕ → ℕ) (n : ℕ) → n + 1 < 4 → bit_at (word n) 63 ≡ 1 → bit_at (taking (n + 1)) 0 ≡ 1 → bit_at (get_or (moved_words first word taking) (n + 1) 0) 0 ≡ 1
moved_words_have_last_bit_in_next first word taking n within =
    property_of_four_numbers (λ n. n + 1 < 4 → bit_at (word n) 63 ≡ 1 → bit_at (taking (n + 1)) 0 ≡ 1 → bit_at (get_or (moved_words first word taking) (n + 1) 0) 0 ≡ 1)
    (λ h is taken. moved_word_has_first_bit (word 1) _ (taking 1) (last_bit_of_word_is_first_of_shifted (word 0) is) taken)
    (λ h is taken. moved_word_has_first_bit (word 2) _ (taking 2) (last_bit_of_word_is_first_of_shifted (word 1) is) taken)
    (λ h is taken. moved_word_has_first_bit (word 3) _ (taking 3) (last_bit_of_word_is_first_of_shifted (word 2) is) taken)
    (λ h is taken. absurd (omega arith)) n (omega arith) within

-- the item behind one of them is one of those to which they move on
pub moved_words_have_item_behind : (first : ℕ) (word taking : ℕ → ℕ) (i : ℕ) → i + 1 < 256 → bit_at (word (i / 64)) (i % 64) ≡ 1 → bit_at (taking ((i + 1) / 64)) ((i + 1) % 64) ≡ 1
    → bit_at (get_or (moved_words first word taking) ((i + 1) / 64) 0) ((i + 1) % 64) ≡ 1
moved_words_have_item_behind first word taking i within is taken =
    let Goal : ℕ → ℕ → Type 0 = λ n m. bit_at (taking n) m ≡ 1 → bit_at (get_or (moved_words first word taking) n 0) m ≡ 1 in
    let inside : i % 64 + 1 < 64 → Goal ((i + 1) / 64) ((i + 1) % 64) = λ h.
    let same : i / 64 ≡ (i + 1) / 64 = omega arith in let next : i % 64 + 1 ≡ (i + 1) % 64 = omega arith in
    subst (λ n. Goal n ((i + 1) % 64)) same (subst (Goal (i / 64)) next (moved_words_have_bit_one_further first word taking (i % 64) (i / 64) (omega arith) h is)) in
    let across : i % 64 ≡ 63 → Goal ((i + 1) / 64) ((i + 1) % 64) = λ h.
    let next : i / 64 + 1 ≡ (i + 1) / 64 = omega arith in let first : 0 ≡ (i + 1) % 64 = omega arith in
    subst (λ n. Goal n ((i + 1) % 64)) next (subst (Goal (i / 64 + 1)) first (moved_words_have_last_bit_in_next _ word taking (i / 64) (omega arith) (subst (λ m. bit_at (word (i / 64)) m ≡ 1) h is))) in
    elim (cases_lt (i % 64 + 1) 64) [ inl h ↦ inside h taken | inr h ↦ across (omega arith) taken ]

-- ---- items of one of two sets

abbrev pub joined_words : (ℕ → ℕ) → (ℕ → ℕ) → List ℕ
joined_words word other = bit_or (word 0) (other 0) ∷ bit_or (word 1) (other 1) ∷ bit_or (word 2) (other 2) ∷ bit_or (word 3) (other 3) ∷ []

or_has_bit_of_either : (n m i : ℕ) → (bit_at n i ≡ 1) ⊎ (bit_at m i ≡ 1) → bit_at (bit_or n m) i ≡ 1
or_has_bit_of_either n m i (inl h) = set_bit_stays_set_by_or n m i h
or_has_bit_of_either n m i (inr h) = or_has_bit_of_second n m i h

pub joined_words_have_bits_of_both : (word other : ℕ → ℕ) (n i : ℕ) → n < 4 → (bit_at (word n) i ≡ 1) ⊎ (bit_at (other n) i ≡ 1) → bit_at (get_or (joined_words word other) n 0) i ≡ 1
joined_words_have_bits_of_both word other n i within =
    property_of_four_numbers (λ n. (bit_at (word n) i ≡ 1) ⊎ (bit_at (other n) i ≡ 1) → bit_at (get_or (joined_words word other) n 0) i ≡ 1)
    (or_has_bit_of_either (word 0) (other 0) i) (or_has_bit_of_either (word 1) (other 1) i) (or_has_bit_of_either (word 2) (other 2) i) (or_has_bit_of_either (word 3) (other 3) i) n within

-- ---- sets that have an item in common

number_with_bit_is_not_zero : (n i : ℕ) → bit_at n i ≡ 1 → n ≢ 0
number_with_bit_is_not_zero n i is e = let f : bit_at 0 i ≡ 1 = ap (λ m. bit_at m i) (sym e) ∙ is in omega (arith, bit_at-zero i, f)

pub words_with_common_bit_meet : (word other : ℕ → ℕ) (n i : ℕ) → n < 4 → bit_at (word n) i ≡ 1 → bit_at (other n) i ≡ 1
    → bit_or (bit_or (bit_or (bit_and (word 0) (other 0)) (bit_and (word 1) (other 1))) (bit_and (word 2) (other 2))) (bit_and (word 3) (other 3)) ≢ 0
words_with_common_bit_meet word other n i within is also =
    let both = λ (k : ℕ) (a : bit_at (word k) i ≡ 1) (b : bit_at (other k) i ≡ 1). bit_set_in_both_is_set_in_and (word k) (other k) i a b in
    property_of_four_numbers (λ k. bit_at (word k) i ≡ 1 → bit_at (other k) i ≡ 1
    → bit_or (bit_or (bit_or (bit_and (word 0) (other 0)) (bit_and (word 1) (other 1))) (bit_and (word 2) (other 2))) (bit_and (word 3) (other 3)) ≢ 0)
    (λ a b. number_with_bit_is_not_zero _ i (set_bit_stays_set_by_or _ _ i (set_bit_stays_set_by_or _ _ i (set_bit_stays_set_by_or (bit_and (word 0) (other 0)) (bit_and (word 1) (other 1)) i (both 0 a b)))))
    (λ a b. number_with_bit_is_not_zero _ i (set_bit_stays_set_by_or _ _ i (set_bit_stays_set_by_or _ _ i (or_has_bit_of_second (bit_and (word 0) (other 0)) (bit_and (word 1) (other 1)) i (both 1 a b)))))
    (λ a b. number_with_bit_is_not_zero _ i (set_bit_stays_set_by_or _ _ i (or_has_bit_of_second _ (bit_and (word 2) (other 2)) i (both 2 a b))))
    (λ a b. number_with_bit_is_not_zero _ i (or_has_bit_of_second _ (bit_and (word 3) (other 3)) i (both 3 a b)))
    n within is also
