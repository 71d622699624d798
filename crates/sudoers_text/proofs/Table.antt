-- A table held against a test of bytes, at each of the 256 bytes, by computing.
use Rattle.std.proofs.Common.{◌≡◌, ℕ, zero, suc, ◌<◌, Bool, true, false, ◌&&◌, refl, arith, inl, inr}
use Rattle.std.specs.Bool.{beq}
use Rattle.std.proofs.lemmas.Bool.{cases_eq}

-- the two tests agree on the bytes below this one
unfoldable pub do_tests_agree_below : (ℕ → Bool) → (ℕ → Bool) → ℕ → Bool
do_tests_agree_below f g zero = true
do_tests_agree_below f g (suc n) = beq (f n) (g n) && do_tests_agree_below f g n

agreement_below_next_is_agreement_at_byte_and_below : (x y rest : Bool) → (beq x y && rest) ≡ true → (x ≡ y) × (rest ≡ true)
agreement_below_next_is_agreement_at_byte_and_below true true rest h = (refl, h)
agreement_below_next_is_agreement_at_byte_and_below true false rest h = cc
agreement_below_next_is_agreement_at_byte_and_below false true rest h = cc
agreement_below_next_is_agreement_at_byte_and_below false false rest h = (refl, h)

agreeing_tests_are_equal_below : (f g : ℕ → Bool) (n : ℕ) → do_tests_agree_below f g n ≡ true → (b : ℕ) → b < n → f b ≡ g b
unfolding do_tests_agree_below
agreeing_tests_are_equal_below f g zero h b lt = absurd (omega arith)
agreeing_tests_are_equal_below f g (suc n) h b lt =
    let both = agreement_below_next_is_agreement_at_byte_and_below (f n) (g n) (do_tests_agree_below f g n) h in
    elim (cases_eq b n) [ inl same ↦ rw same both.0 | inr other ↦ agreeing_tests_are_equal_below f g n both.1 b (omega arith) ]

pub agreeing_tests_are_equal_at_byte : (f g : ℕ → Bool) (b : ℕ) → b < 256 → do_tests_agree_below f g 256 ≡ true → f b ≡ g b
agreeing_tests_are_equal_at_byte f g b lt h = agreeing_tests_are_equal_below f g 256 h b lt
