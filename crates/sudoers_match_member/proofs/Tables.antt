-- Tables of bytes, while they are made byte by byte.
use Rattle.std.proofs.Common.{◌≡◌, ◌<◌, ◌≤◌, ◌+◌, ℕ, Bool, true, false, ◌||◌, ◌&&◌, List, length, get_or, slice_set, arith, refl, sym, ap, ◌∙◌, inl, inr}
use Rattle.std.proofs.lemmas.Bool.{cases_eq, false≢true}
use Rattle.std.proofs.lemmas.List.{get_or-set_same, get_or-set_other}

-- The new table is right below this byte, and from it on it is the old one.
pub record IsDoneBelow (old now : List Bool) (wanted : ℕ → Bool) (byte : ℕ) : Type 0 where
  pub done : (b : ℕ) → b < byte → get_or now b false ≡ wanted b
  pub rest : (b : ℕ) → byte ≤ b → get_or now b false ≡ get_or old b false

pub done_below_next : (old now : List Bool) (wanted : ℕ → Bool) (byte : ℕ) (value : Bool) → byte < length now → IsDoneBelow old now wanted byte → value ≡ wanted byte → IsDoneBelow old (slice_set now byte value) wanted (byte + 1)
done_below_next old now wanted byte value within so_far is = record {
  done = λ b h. elim (cases_eq b byte) [
    | inl same ↦ ap (λ n. get_or (slice_set now byte value) n false) same ∙ get_or-set_same now byte value false within ∙ is ∙ ap wanted (sym same)
    | inr other ↦ get_or-set_other now byte b value false other ∙ so_far.done b (omega (arith, h, other))
  ];
  rest = λ b h. get_or-set_other now byte b value false (λ e. omega (arith, e, h)) ∙ so_far.rest b (omega (arith, h));
}

pub done_below_next_without_change : (old now : List Bool) (wanted : ℕ → Bool) (byte : ℕ) → IsDoneBelow old now wanted byte → get_or old byte false ≡ wanted byte → IsDoneBelow old now wanted (byte + 1)
done_below_next_without_change old now wanted byte so_far is = record {
  done = λ b h. elim (cases_eq b byte) [
    | inl same ↦ ap (λ n. get_or now n false) same ∙ so_far.rest byte (omega arith) ∙ is ∙ ap wanted (sym same)
    | inr other ↦ so_far.done b (omega (arith, h, other))
  ];
  rest = λ b h. so_far.rest b (omega (arith, h));
}

pub or_with_true_second_is_true : (p q : Bool) → q ≡ true → true ≡ (p || q)
or_with_true_second_is_true true q e = refl
or_with_true_second_is_true false q e = sym e

pub or_with_false_second_is_first : (p q : Bool) → q ≡ false → p ≡ (p || q)
or_with_false_second_is_first true q e = refl
or_with_false_second_is_first false q e = sym e

pub and_with_true_first_is_second : (p q : Bool) → p ≡ true → q ≡ (p && q)
and_with_true_first_is_second true q e = refl
and_with_true_first_is_second false q e = absurd (false≢true e)

pub and_with_false_first_is_false : (p q : Bool) → p ≡ false → false ≡ (p && q)
and_with_false_first_is_false true q e = absurd (false≢true (sym e))
and_with_false_first_is_false false q e = refl
