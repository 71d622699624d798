-- Texts in which each backslash is that of a pair or of a continuation: what tokens are made of.
use Rattle.laws_print.proofs.Common.{◌≡◌, ℕ, zero, suc, ◌+◌, ◌≤◌, Bool, true, false, ◌&&◌, ◌||◌, not, List, [], ◌∷◌, ◌++◌, length, take, drop, refl}
use Rattle.laws_print.proofs.Common.{sym, ap, subst, ◌∙◌, arith, ◌⊎◌, inl, inr, ◌==◌, if◌then◌else◌, length-append, and_parts, or_parts, eqb-true}
use Rattle.laws_print.proofs.Common.{LineUnit, Continuation, Pair, Byte, bytes_of_unit, begins_lf, begins_line_end, is_path_byte, size_of_one_matching_byte, first_nonzero_number}
use Rattle.laws_print.proofs.Common.{backslash_unit_size_by, pair_size_of_unit, reach_past_first_byte, reach_of_units, run_unit_size}
use Rattle.sudoers_text.specs.declared.part.ByteRunKind.TheVariants as rule
use Rattle.sudoers_text.specs.Unit.{unit_after_backslash}
use Rattle.sudoers_text.specs.Part.{is_quoted_byte, is_quoted_byte_but_separator, pair_or_continuation_size_of_unit}
use Rattle.laws_print.proofs.Words.{IsNoLineEndByte, passing_byte_differs_from_failing_byte}

-- a byte that is in no line end, and no backslash
abbrev pub is_tidy_byte : ℕ → Bool
is_tidy_byte b = not (b == 10 || b == 13 || b == 92)

pub data IsTidyText : List ℕ → Type 0 where
  done : IsTidyText []
  byte : {b : ℕ} {rest : List ℕ} → is_tidy_byte b ≡ true → IsTidyText rest → IsTidyText (b ∷ rest)
  pair : {c : ℕ} {rest : List ℕ} → IsNoLineEndByte c → IsTidyText rest → IsTidyText (92 ∷ c ∷ rest)
  by_lf : {rest : List ℕ} → IsTidyText rest → IsTidyText (92 ∷ 10 ∷ rest)
  by_crlf : {rest : List ℕ} → IsTidyText rest → IsTidyText (92 ∷ 13 ∷ 10 ∷ rest)

pub appended_tidy_texts_are_tidy : (x y : List ℕ) → IsTidyText x → IsTidyText y → IsTidyText (x ++ y)
appended_tidy_texts_are_tidy x y done ty = ty
appended_tidy_texts_are_tidy x y (byte {rest = rest} h t) ty = byte h (appended_tidy_texts_are_tidy rest y t ty)
appended_tidy_texts_are_tidy x y (pair {rest = rest} h t) ty = pair h (appended_tidy_texts_are_tidy rest y t ty)
appended_tidy_texts_are_tidy x y (by_lf {rest = rest} t) ty = by_lf (appended_tidy_texts_are_tidy rest y t ty)
appended_tidy_texts_are_tidy x y (by_crlf {rest = rest} t) ty = by_crlf (appended_tidy_texts_are_tidy rest y t ty)

-- ---- units

-- the bytes begin with so many that are tidy
pub record HasTidyFrontOfSize (bytes : List ℕ) (n : ℕ) : Type 0 where
  pub front : List ℕ
  pub rest : List ℕ
  pub whole : bytes ≡ front ++ rest
  pub long : length front ≡ n
  pub tidy : IsTidyText front

-- What begins the bytes by this measure is tidy.
abbrev pub MeasuresTidyFront : (List ℕ → ℕ) → Type 0
MeasuresTidyFront unit = (b : ℕ) (rest : List ℕ) (k : ℕ) → unit (b ∷ rest) ≡ suc k → HasTidyFrontOfSize (b ∷ rest) (suc k)

matching_byte_size_measures_tidy_front : (test : ℕ → Bool) → ((b : ℕ) → test b ≡ true → is_tidy_byte b ≡ true) → MeasuresTidyFront (size_of_one_matching_byte test)
matching_byte_size_measures_tidy_front test tidy b rest k e = by_test (test b) refl e
  where
    by_test : (t : Bool) → test b ≡ t → (if t then 1 else 0) ≡ suc k → HasTidyFrontOfSize (b ∷ rest) (suc k)
    by_test true h e = record { front = b ∷ []; rest = rest; whole = refl; long = e; tidy = byte (tidy b h) done }
    by_test false h e = absurd (omega (arith, e))

pub first_nonzero_size_measures_tidy_front : (f g : List ℕ → ℕ) → MeasuresTidyFront f → MeasuresTidyFront g → MeasuresTidyFront (λ bytes. first_nonzero_number (f bytes) (g bytes))
first_nonzero_size_measures_tidy_front f g is are b rest k e = by_first (f (b ∷ rest)) refl e
  where
    by_first : (n : ℕ) → f (b ∷ rest) ≡ n → first_nonzero_number n (g (b ∷ rest)) ≡ suc k → HasTidyFrontOfSize (b ∷ rest) (suc k)
    by_first zero h e = are b rest k e
    by_first (suc n) h e = is b rest k (h ∙ e)

-- a measure of what a backslash begins
pub record IsBackslashUnitMeasure (size : LineUnit → ℕ) : Type 0 where
  pub pairs : (c : ℕ) → size (Pair c) ≡ (if c == 13 then 0 else 2)
  pub lines : (crlf : Bool) → (size (Continuation crlf) ≡ 0) ⊎ (size (Continuation crlf) ≡ length (bytes_of_unit (Continuation crlf)))
  pub bytes : size (Byte 92) ≡ 0

pair_size_is_backslash_unit_measure : IsBackslashUnitMeasure pair_size_of_unit
pair_size_is_backslash_unit_measure = record { pairs = λ c. refl; lines = λ crlf. inl refl; bytes = refl }

escape_size_is_backslash_unit_measure : IsBackslashUnitMeasure pair_or_continuation_size_of_unit
escape_size_is_backslash_unit_measure = record { pairs = λ c. refl; lines = λ crlf. inr refl; bytes = refl }

measured_pair_is_tidy_front : (size : LineUnit → ℕ) → IsBackslashUnitMeasure size → (c : ℕ) (more : List ℕ) (k : ℕ) → begins_line_end (c ∷ more) ≡ false → size (Pair c) ≡ suc k → HasTidyFrontOfSize (92 ∷ c ∷ more) (suc k)
measured_pair_is_tidy_front size is c more k none e = by_cr (c == 13) refl (sym (is.pairs c) ∙ e)
  where
    by_cr : (t : Bool) → (c == 13) ≡ t → (if t then 0 else 2) ≡ suc k → HasTidyFrontOfSize (92 ∷ c ∷ more) (suc k)
    by_cr true h e = absurd (omega (arith, e))
    by_cr false h e = record {
      front = 92 ∷ c ∷ [];
      rest = more;
      whole = refl;
      long = e;
      tidy = pair (record { lf = (or_parts (c == 10) (c == 13 && begins_lf more) none).0; cr = h }) done;
    }

measured_continuation_has_its_length : (size : LineUnit → ℕ) → IsBackslashUnitMeasure size → (crlf : Bool) (k : ℕ) → size (Continuation crlf) ≡ suc k → length (bytes_of_unit (Continuation crlf)) ≡ suc k
measured_continuation_has_its_length size is crlf k e =
    elim (is.lines crlf) [
      | inl w ↦ absurd (omega (arith, w, e))
      | inr w ↦ sym w ∙ e
    ]

measured_continuation_is_tidy_front : (size : LineUnit → ℕ) → IsBackslashUnitMeasure size → (c : ℕ) (more : List ℕ) (k : ℕ) → begins_line_end (c ∷ more) ≡ true → size (Continuation (c == 13)) ≡ suc k → HasTidyFrontOfSize (92 ∷ c ∷ more) (suc k)
measured_continuation_is_tidy_front size is c more k ends e = by_lf_first (c == 10) refl ends
  where
    long : length (bytes_of_unit (Continuation (c == 13))) ≡ suc k
    long = measured_continuation_has_its_length size is (c == 13) k e

    by_more : (more : List ℕ) → (c == 13) ≡ true → begins_lf more ≡ true → HasTidyFrontOfSize (92 ∷ c ∷ more) (suc k)
    by_more [] h lf = absurd (cc)
    by_more (d ∷ more) h lf = record {
      front = 92 ∷ 13 ∷ 10 ∷ [];
      rest = more;
      whole = ap (λ (x : ℕ). 92 ∷ x ∷ d ∷ more) (eqb-true c 13 h) ∙ ap (λ (x : ℕ). 92 ∷ 13 ∷ x ∷ more) (eqb-true d 10 lf);
      long = ap (λ (t : Bool). length (bytes_of_unit (Continuation t))) (sym h) ∙ measured_continuation_has_its_length size is (c == 13) k e;
      tidy = by_crlf done;
    }

    by_lf_first : (t : Bool) → (c == 10) ≡ t → (t || (c == 13 && begins_lf more)) ≡ true → HasTidyFrontOfSize (92 ∷ c ∷ more) (suc k)
    by_lf_first true h ends = record {
      front = 92 ∷ 10 ∷ [];
      rest = more;
      whole = ap (λ (x : ℕ). 92 ∷ x ∷ more) (eqb-true c 10 h);
      long = ap (λ (x : ℕ). length (bytes_of_unit (Continuation (x == 13)))) (sym (eqb-true c 10 h)) ∙ measured_continuation_has_its_length size is (c == 13) k e;
      tidy = by_lf done;
    }
    by_lf_first false h ends = let parts = and_parts (c == 13) (begins_lf more) ends in by_more more parts.0 parts.1

backslash_unit_size_measures_tidy_front : (size : LineUnit → ℕ) → IsBackslashUnitMeasure size → MeasuresTidyFront (backslash_unit_size_by size)
backslash_unit_size_measures_tidy_front size is b rest k e = by_backslash_first (b == 92) refl rest e
  where
    by_end : (c : ℕ) (more : List ℕ) (t : Bool) → begins_line_end (c ∷ more) ≡ t → size (if t then Continuation (c == 13) else Pair c) ≡ suc k → HasTidyFrontOfSize (92 ∷ c ∷ more) (suc k)
    by_end c more true h e = measured_continuation_is_tidy_front size is c more k h e
    by_end c more false h e = measured_pair_is_tidy_front size is c more k h e

    by_rest : (rest : List ℕ) → size (unit_after_backslash rest) ≡ suc k → HasTidyFrontOfSize (92 ∷ rest) (suc k)
    by_rest [] e = absurd (omega (arith, is.bytes, e))
    by_rest (c ∷ more) e = by_end c more (begins_line_end (c ∷ more)) refl e

    by_backslash_first : (t : Bool) → (b == 92) ≡ t → (rest : List ℕ) → (if t then size (unit_after_backslash rest) else 0) ≡ suc k → HasTidyFrontOfSize (b ∷ rest) (suc k)
    by_backslash_first true h rest e = subst (λ (x : ℕ). HasTidyFrontOfSize (x ∷ rest) (suc k)) (sym (eqb-true b 92 h)) (by_rest rest e)
    by_backslash_first false h rest e = absurd (omega (arith, e))

-- ---- runs

take_past_first_text_takes_second : (x y : List ℕ) (m : ℕ) → take (length x + m) (x ++ y) ≡ x ++ take m y
take_past_first_text_takes_second [] y m = let same : 0 + m ≡ m = omega arith in ap (λ (n : ℕ). take n y) same
take_past_first_text_takes_second (a ∷ x) y m = let same : length (a ∷ x) + m ≡ suc (length x + m) = omega arith in ap (λ (n : ℕ). take n (a ∷ (x ++ y))) same ∙ ap (λ (t : List ℕ). a ∷ t) (take_past_first_text_takes_second x y m)

reach_passes_first_text : (unit : List ℕ → ℕ) (x y : List ℕ) → reach_of_units unit (length x) (x ++ y) ≡ length x + reach_of_units unit 0 y
reach_passes_first_text unit [] y = omega arith
reach_passes_first_text unit (a ∷ x) y = let more = reach_passes_first_text unit x y in omega (arith, more)

-- What is reached is tidy.
pub reached_text_is_tidy : (unit : List ℕ → ℕ) → MeasuresTidyFront unit → (fuel : ℕ) (text : List ℕ) → length text ≤ fuel → IsTidyText (take (reach_of_units unit 0 text) text)
reached_text_is_tidy unit is fuel [] fits = done
reached_text_is_tidy unit is zero (b ∷ rest) fits = absurd (omega arith)
reached_text_is_tidy unit is (suc fuel) (b ∷ rest) fits = by_unit (unit (b ∷ rest)) refl (λ text h. reached_text_is_tidy unit is fuel text h)
  where
    by_front : (k : ℕ) (front more : List ℕ) → b ∷ rest ≡ front ++ more → length front ≡ suc k → IsTidyText front → ((text : List ℕ) → length text ≤ fuel → IsTidyText (take (reach_of_units unit 0 text) text)) → IsTidyText (take (suc (reach_of_units unit k rest)) (b ∷ rest))
    by_front k [] more whole long tidy later = absurd (omega (arith, long))
    by_front k (c ∷ x) more whole long tidy later =
        let tail : rest ≡ x ++ more = ap (drop 1) whole in
        let size : length x ≡ k = omega (arith, long) in
        let reached : reach_of_units unit k rest ≡ length x + reach_of_units unit 0 more = ap (λ (n : ℕ). reach_of_units unit n rest) (sym size) ∙ ap (reach_of_units unit (length x)) tail ∙ reach_passes_first_text unit x more in
        let short : length more ≤ fuel = omega (arith, ap length tail, length-append x more) in
        let all : suc (reach_of_units unit k rest) ≡ length (c ∷ x) + reach_of_units unit 0 more = omega (arith, reached) in
        subst IsTidyText (sym (ap (λ (n : ℕ). take n (b ∷ rest)) all ∙ ap (take (length (c ∷ x) + reach_of_units unit 0 more)) whole ∙ take_past_first_text_takes_second (c ∷ x) more (reach_of_units unit 0 more)))
        (appended_tidy_texts_are_tidy (c ∷ x) (take (reach_of_units unit 0 more) more) tidy (later more short))

    by_unit : (n : ℕ) → unit (b ∷ rest) ≡ n → ((text : List ℕ) → length text ≤ fuel → IsTidyText (take (reach_of_units unit 0 text) text)) → IsTidyText (take (reach_past_first_byte (unit (b ∷ rest)) (λ k. reach_of_units unit k rest)) (b ∷ rest))
    by_unit zero e later = subst (λ (n : ℕ). IsTidyText (take (reach_past_first_byte n (λ k. reach_of_units unit k rest)) (b ∷ rest))) (sym e) done
    by_unit (suc k) e later =
        let there = is b rest k e in
        subst (λ (n : ℕ). IsTidyText (take (reach_past_first_byte n (λ k. reach_of_units unit k rest)) (b ∷ rest))) (sym e) (by_front k there.front there.rest there.whole there.long there.tidy later)

-- ---- the rules

pub byte_passing_test_is_tidy : (test : ℕ → Bool) → test 10 ≡ false → test 13 ≡ false → test 92 ≡ false → (b : ℕ) → test b ≡ true → is_tidy_byte b ≡ true
byte_passing_test_is_tidy test lf cr backslash b h =
    rw (passing_byte_differs_from_failing_byte test 10 b h lf, passing_byte_differs_from_failing_byte test 13 b h cr, passing_byte_differs_from_failing_byte test 92 b h backslash) refl

pub path_unit_size_measures_tidy_front : MeasuresTidyFront (run_unit_size rule.Path)
path_unit_size_measures_tidy_front = first_nonzero_size_measures_tidy_front (size_of_one_matching_byte is_path_byte) (backslash_unit_size_by pair_size_of_unit) (matching_byte_size_measures_tidy_front is_path_byte (byte_passing_test_is_tidy is_path_byte refl refl refl)) (backslash_unit_size_measures_tidy_front pair_size_of_unit pair_size_is_backslash_unit_measure)

pub quote_unit_size_measures_tidy_front : MeasuresTidyFront (run_unit_size rule.Quote)
quote_unit_size_measures_tidy_front = first_nonzero_size_measures_tidy_front (size_of_one_matching_byte is_quoted_byte) (backslash_unit_size_by pair_or_continuation_size_of_unit) (matching_byte_size_measures_tidy_front is_quoted_byte (byte_passing_test_is_tidy is_quoted_byte refl refl refl)) (backslash_unit_size_measures_tidy_front pair_or_continuation_size_of_unit escape_size_is_backslash_unit_measure)

pub clean_unit_size_measures_tidy_front : MeasuresTidyFront (run_unit_size rule.Clean)
clean_unit_size_measures_tidy_front = first_nonzero_size_measures_tidy_front (size_of_one_matching_byte is_quoted_byte_but_separator) (backslash_unit_size_by pair_or_continuation_size_of_unit) (matching_byte_size_measures_tidy_front is_quoted_byte_but_separator (byte_passing_test_is_tidy is_quoted_byte_but_separator refl refl refl)) (backslash_unit_size_measures_tidy_front pair_or_continuation_size_of_unit escape_size_is_backslash_unit_measure)
