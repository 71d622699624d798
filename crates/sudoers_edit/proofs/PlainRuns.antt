-- Runs of plain bytes.
use Rattle.std.proofs.Common.{◌≡◌, ℕ, suc, ◌<◌, Bool, true, false, List, [], ◌∷◌, ◌++◌, length, refl, sym, ap, ◌∙◌, arith}
use Rattle.std.specs.Prelude.{◌==◌, if◌then◌else◌}
use Rattle.sudoers_text.specs.declared.part.ByteRunKind.TheVariants as rule
use Rattle.sudoers_text.specs.Unit.{is_blank, unit_after_backslash}
use Rattle.sudoers_text.specs.Part.{is_word_byte, leading_run_size, reach_of_units, reach_past_first_byte, first_nonzero_number, run_unit_size, pair_size_of_unit, continuation_size_of_unit}
use Rattle.sudoers_text.proofs.Ahead.{bytes_told_apart_by_test_are_unequal}
use Rattle.sudoers_edit.specs.internal.Plain.{is_plain_byte, ArePlainBytes}

plain_byte_is_no_backslash : (b : ℕ) → is_plain_byte b ≡ true → (b == 92) ≡ false
plain_byte_is_no_backslash b h = bytes_told_apart_by_test_are_unequal is_plain_byte 92 b h refl

reach_by_tests : (w s : Bool) (n : ℕ) (go : ℕ → ℕ) → s ≡ false
    → reach_past_first_byte (first_nonzero_number (if w then 1 else 0) (if s then n else 0)) go ≡ (if w then suc (go 0) else 0)
reach_by_tests true s n go e = refl
reach_by_tests false false n go e = refl
reach_by_tests false true n go e = absurd (cc)

-- how far a run goes by whether its first byte is in it
pub run_past_plain_byte : (b : ℕ) (xs : List ℕ) → is_plain_byte b ≡ true → leading_run_size rule.Word (b ∷ xs) ≡ (if is_word_byte b then suc (leading_run_size rule.Word xs) else 0)
unfolding leading_run_size
run_past_plain_byte b xs h =
    reach_by_tests (is_word_byte b) (b == 92) (pair_size_of_unit (unit_after_backslash xs)) (λ k. reach_of_units (run_unit_size rule.Word) k xs) (plain_byte_is_no_backslash b h)

pub gap_past_plain_byte : (b : ℕ) (xs : List ℕ) → is_plain_byte b ≡ true → leading_run_size rule.Gap (b ∷ xs) ≡ (if is_blank b then suc (leading_run_size rule.Gap xs) else 0)
unfolding leading_run_size
gap_past_plain_byte b xs h =
    reach_by_tests (is_blank b) (b == 92) (continuation_size_of_unit (unit_after_backslash xs)) (λ k. reach_of_units (run_unit_size rule.Gap) k xs) (plain_byte_is_no_backslash b h)

pub runs_of_plain_bytes_are_equal_before_ends : (q s t : List ℕ) → ArePlainBytes q → leading_run_size rule.Word s ≡ 0 → leading_run_size rule.Word t ≡ 0
    → leading_run_size rule.Word (q ++ s) ≡ leading_run_size rule.Word (q ++ t)
runs_of_plain_bytes_are_equal_before_ends [] s t plain e f = e ∙ sym f
runs_of_plain_bytes_are_equal_before_ends (b ∷ q) s t plain e f =
    let later = runs_of_plain_bytes_are_equal_before_ends q s t plain.1 e f in
    run_past_plain_byte b (q ++ s) plain.0
    ∙ ap (λ (n : ℕ). if is_word_byte b then suc n else 0) later
    ∙ sym (run_past_plain_byte b (q ++ t) plain.0)

pub gaps_that_end_in_plain_bytes_are_equal : (q s t : List ℕ) → ArePlainBytes q → leading_run_size rule.Gap (q ++ s) < length q
    → leading_run_size rule.Gap (q ++ t) ≡ leading_run_size rule.Gap (q ++ s)
gaps_that_end_in_plain_bytes_are_equal [] s t plain inside = absurd (omega (arith, inside))
gaps_that_end_in_plain_bytes_are_equal (b ∷ q) s t plain inside =
    gap_past_plain_byte b (q ++ t) plain.0 ∙ by_test (is_blank b) refl (λ less. gaps_that_end_in_plain_bytes_are_equal q s t plain.1 less) ∙ sym (gap_past_plain_byte b (q ++ s) plain.0)
  where
    by_test : (w : Bool) → is_blank b ≡ w → (leading_run_size rule.Gap (q ++ s) < length q → leading_run_size rule.Gap (q ++ t) ≡ leading_run_size rule.Gap (q ++ s))
        → (if w then suc (leading_run_size rule.Gap (q ++ t)) else 0) ≡ (if w then suc (leading_run_size rule.Gap (q ++ s)) else 0)
    by_test false e later = refl
    by_test true e later =
        let here : leading_run_size rule.Gap (b ∷ (q ++ s)) ≡ suc (leading_run_size rule.Gap (q ++ s)) =
        gap_past_plain_byte b (q ++ s) plain.0 ∙ ap (λ (w : Bool). if w then suc (leading_run_size rule.Gap (q ++ s)) else 0) e in
        ap (λ (n : ℕ). suc n) (later (omega (arith, inside, here)))
