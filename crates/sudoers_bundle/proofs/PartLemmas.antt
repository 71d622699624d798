-- The bytes before a byte, and those after it.
use Rattle.std.proofs.Common.{◌≡◌, ◌∙◌, ℕ, zero, suc, ◌+◌, ◌-◌, ◌<◌, true, false, ◌==◌, List, [], ◌∷◌, ◌++◌, length, take, drop, slice_index, Option, Some, None, refl, sym, ap, arith, inl, inr}
use Rattle.std.proofs.lemmas.Bool.{cases_Bool, eqb-true, or_parts, eq-eqb}
use Rattle.std.proofs.lemmas.List.{take_rest}
use Rattle.std.specs.List.{list_any}
use Rattle.std.specs.Option.{option_map}
use Rattle.memchr.specs.Find.{NoneBefore, Nowhere, Passes, is_byte}
use Rattle.sudoers_bundle.specs.Bundle.{parts_split_at_byte}

abbrev PartsAroundByte : Type 0
PartsAroundByte = List ℕ × List ℕ

-- A SEARCH

split_is_at_first_such_byte : (b : ℕ) (text : List ℕ) (n : ℕ) → n < length text → (slice_index text n == b) ≡ true
    → ((k : ℕ) → k < n → (slice_index text k == b) ≡ true → ⊥) → parts_split_at_byte b text ≡ Some (take n text, drop (suc n) text)
split_is_at_first_such_byte b [] n within is none = absurd (omega arith)
split_is_at_first_such_byte b (c ∷ text) zero within is none = rw is refl
split_is_at_first_such_byte b (c ∷ text) (suc n) within is none =
    elim (cases_Bool (c == b)) [
      | inl t ↦ absurd (none 0 (omega arith) t)
      | inr f ↦ rw f (ap (option_map (λ (parts : PartsAroundByte). (c ∷ parts.0, parts.1))) (split_is_at_first_such_byte b text n (omega arith) is (λ k m e. none (suc k) (omega arith) e)))
    ]

split_is_none_without_byte : (b : ℕ) (text : List ℕ) → ((k : ℕ) → k < length text → (slice_index text k == b) ≡ true → ⊥) → parts_split_at_byte b text ≡ None
split_is_none_without_byte b [] none = refl
split_is_none_without_byte b (c ∷ text) none =
    elim (cases_Bool (c == b)) [
      | inl t ↦ absurd (none 0 (omega arith) t)
      | inr f ↦ rw f (ap (option_map (λ (parts : PartsAroundByte). (c ∷ parts.0, parts.1))) (split_is_none_without_byte b text (λ k m e. none (suc k) (omega arith) e)))
    ]

-- by what a search gives
pub split_at_found_byte_is_parts : (b : ℕ) (text : List ℕ) (n : ℕ) → NoneBefore (Passes (is_byte b) text) 0 (length text) n × Passes (is_byte b) text n
    → Some (take n text, take (length text - (n + 1)) (drop (n + 1) text)) ≡ parts_split_at_byte b text
split_at_found_byte_is_parts b text n h =
    let one : n + 1 ≡ suc n = omega arith in
    ap (λ (rest : List ℕ). Some (take n text, rest)) (take_rest text (n + 1) ∙ ap (λ k. drop k text) one)
    ∙ sym (split_is_at_first_such_byte b text n h.0.high h.1 (λ k m e. h.0.before k (omega arith) m e))

pub split_is_none_if_search_misses : (b : ℕ) (text : List ℕ) → Nowhere (Passes (is_byte b) text) 0 (length text) → None ≡ parts_split_at_byte b text
split_is_none_if_search_misses b text h = sym (split_is_none_without_byte b text (λ k m e. h k (omega arith) m e))

-- WHAT IS CUT

-- a text with its parts
pub record IsTextCutAtByte (b : ℕ) (text : List ℕ) (parts : PartsAroundByte) : Type 0 where
  pub whole : text ≡ parts.0 ++ b ∷ parts.1
  pub lacks : list_any (λ c. c == b) parts.0 ≡ false

pub split_result_is_cut_at_byte : (b : ℕ) (text : List ℕ) (parts : PartsAroundByte) → parts_split_at_byte b text ≡ Some parts → IsTextCutAtByte b text parts
split_result_is_cut_at_byte b [] parts is = absurd (cc)
split_result_is_cut_at_byte b (c ∷ text) parts is =
    elim (cases_Bool (c == b)) [
      | inl t ↦
          let same : Some ([], text) ≡ Some parts = rw t at is in
          let whole : ([], text) ≡ parts = cc in
          let first : c ≡ b = eqb-true c b t in
          record {
            whole = ap (λ k. k ∷ text) first ∙ ap (λ (p : PartsAroundByte). p.0 ++ b ∷ p.1) whole;
            lacks = ap (λ (p : PartsAroundByte). list_any (λ k. k == b) p.0) (sym whole);
          }
      | inr f ↦
          let told : option_map (λ (p : PartsAroundByte). (c ∷ p.0, p.1)) (parts_split_at_byte b text) ≡ Some parts = rw f at is in
          by f (split_result_is_cut_at_byte b text) (parts_split_at_byte b text) refl told
    ]
  where
    by : (c == b) ≡ false → ((p : PartsAroundByte) → parts_split_at_byte b text ≡ Some p → IsTextCutAtByte b text p) → (o : Option PartsAroundByte) → parts_split_at_byte b text ≡ o → option_map (λ (p : PartsAroundByte). (c ∷ p.0, p.1)) o ≡ Some parts → IsTextCutAtByte b (c ∷ text) parts
    by f again None found told = absurd (cc)
    by f again (Some p) found told =
        let whole : (c ∷ p.0, p.1) ≡ parts = cc in
        let rest : IsTextCutAtByte b text p = again p found in
        record {
          whole = ap (λ (t : List ℕ). c ∷ t) rest.whole ∙ ap (λ (p : PartsAroundByte). p.0 ++ b ∷ p.1) whole;
          lacks = ap (λ (p : PartsAroundByte). list_any (λ k. k == b) p.0) (sym whole) ∙ rw (f, rest.lacks) refl;
        }

-- a text that is made of parts is cut into them
pub text_of_parts_is_cut_into_them : (b : ℕ) (front rest : List ℕ) → list_any (λ c. c == b) front ≡ false → parts_split_at_byte b (front ++ b ∷ rest) ≡ Some (front, rest)
text_of_parts_is_cut_into_them b [] rest lacks = rw (eq-eqb b b refl) refl
text_of_parts_is_cut_into_them b (c ∷ front) rest lacks =
    let both = or_parts (c == b) (list_any (λ k. k == b) front) lacks in
    rw both.0 (ap (option_map (λ (parts : PartsAroundByte). (c ∷ parts.0, parts.1))) (text_of_parts_is_cut_into_them b front rest both.1))

-- a byte that a text lacks, its parts lack
pub rest_of_text_lacks_missing_byte : (b : ℕ) (front rest : List ℕ) → list_any (λ c. c == b) (front ++ rest) ≡ false → list_any (λ c. c == b) rest ≡ false
rest_of_text_lacks_missing_byte b [] rest lacks = lacks
rest_of_text_lacks_missing_byte b (c ∷ front) rest lacks = rest_of_text_lacks_missing_byte b front rest (or_parts (c == b) (list_any (λ k. k == b) (front ++ rest)) lacks).1

pub appended_texts_lack_missing_byte : (b : ℕ) (front rest : List ℕ) → list_any (λ c. c == b) front ≡ false → list_any (λ c. c == b) rest ≡ false → list_any (λ c. c == b) (front ++ rest) ≡ false
appended_texts_lack_missing_byte b [] rest first then = then
appended_texts_lack_missing_byte b (c ∷ front) rest first then =
    let both = or_parts (c == b) (list_any (λ k. k == b) front) first in
    rw both.0 (appended_texts_lack_missing_byte b front rest both.1 then)
