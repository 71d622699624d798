-- Plain bytes and a LF are one logical line.
use Rattle.std.proofs.Common.{◌≡◌, ℕ, zero, suc, ◌+◌, ◌-◌, ◌<◌, Bool, true, false, ◌||◌, List, [], ◌∷◌, ◌++◌, length, drop, get_or, refl, sym, subst, arith, append-nil, Some, slice_get}
use Rattle.std.specs.Prelude.{◌==◌, slice_range}
use Rattle.std.proofs.lemmas.List.{length-append, take_all, drop_all}
use Rattle.sudoers_text.specs.Line.{IsLogicalLineBefore, IsUnfinishedLine}
use Rattle.sudoers_text.specs.Whole.{IsLogicalLine}
use Rattle.sudoers_text.proofs.Ahead.{bytes_told_apart_by_test_are_unequal}
use Rattle.sudoers_text.proofs.FirstLf.{first_lf_without_backslash_ends_line}
use Rattle.sudoers_edit.specs.internal.Plain.{is_plain_byte, ArePlainBytes}

byte_of_plain_bytes_is_plain : (x ys : List ℕ) (i : ℕ) → ArePlainBytes x → i < length x → is_plain_byte (get_or (x ++ ys) i 0) ≡ true
byte_of_plain_bytes_is_plain [] ys i plain inside = absurd (omega (arith, inside))
byte_of_plain_bytes_is_plain (b ∷ x) ys zero plain inside = plain.0
byte_of_plain_bytes_is_plain (b ∷ x) ys (suc i) plain inside = byte_of_plain_bytes_is_plain x ys i plain.1 (omega (arith, inside))

byte_behind_plain_bytes : (x ys : List ℕ) (b : ℕ) → get_or (x ++ b ∷ ys) (length x) 0 ≡ b
byte_behind_plain_bytes [] ys b = refl
byte_behind_plain_bytes (c ∷ x) ys b = byte_behind_plain_bytes x ys b

plain_byte_is_no_lf_or_backslash : (b : ℕ) → is_plain_byte b ≡ true → (b == 10 || b == 92) ≡ true → ⊥
plain_byte_is_no_lf_or_backslash b h is =
    let lf : (b == 10) ≡ false = bytes_told_apart_by_test_are_unequal is_plain_byte 10 b h refl in
    let slash : (b == 92) ≡ false = bytes_told_apart_by_test_are_unequal is_plain_byte 92 b h refl in
    by_tests (b == 10) (b == 92) lf slash is
  where
    by_tests : (s t : Bool) → s ≡ false → t ≡ false → (s || t) ≡ true → ⊥
    by_tests true t e f g = cc
    by_tests false true e f g = cc
    by_tests false false e f g = cc

plain_bytes_and_lf_have_no_nul : (x : List ℕ) (at : ℕ) → ArePlainBytes x → slice_get (x ++ 10 ∷ []) at ≡ Some 0 → ⊥
plain_bytes_and_lf_have_no_nul [] zero plain here = cc
plain_bytes_and_lf_have_no_nul [] (suc at) plain here = cc
plain_bytes_and_lf_have_no_nul (b ∷ x) zero plain here =
    let nul : b ≡ 0 = cc in
    let bad : false ≡ true = subst (λ (n : ℕ). is_plain_byte n ≡ true) nul plain.0 in
    cc
plain_bytes_and_lf_have_no_nul (b ∷ x) (suc at) plain here = plain_bytes_and_lf_have_no_nul x at plain.1 here

pub plain_bytes_and_lf_are_logical_line : (x : List ℕ) → ArePlainBytes x → IsLogicalLine (x ++ 10 ∷ [])
plain_bytes_and_lf_are_logical_line x plain =
    let text : List ℕ = x ++ 10 ∷ [] in
    let stop : ℕ = 0 + length x + 1 in
    let size : length text ≡ length x + 1 = omega (arith, length-append x (10 ∷ [])) in
    let closed = first_lf_without_backslash_ends_line text text 0 (length x) refl (omega (arith, size))
    (λ i below is. plain_byte_is_no_lf_or_backslash (get_or text i 0) (byte_of_plain_bytes_is_plain x (10 ∷ []) i plain below) is) (byte_behind_plain_bytes x [] 10) in
    let whole : slice_range text 0 stop ≡ text = take_all (stop - 0) text (omega (arith, size)) in
    let rest : drop stop text ≡ [] = drop_all stop text (omega (arith, size)) in
    record {
      cuts = record {
        joined = append-nil text;
        each = (subst (λ (t : List ℕ). IsLogicalLineBefore text t) rest (subst (λ (t : List ℕ). IsLogicalLineBefore t (drop stop text)) whole closed.line), tt);
      };
      clean = λ at here. plain_bytes_and_lf_have_no_nul x at plain here;
      closed = λ unfinished. closed.closed (subst (λ (t : List ℕ). IsUnfinishedLine t) (sym whole) unfinished);
    }
