-- The sizes that are computed are those of the longest pieces.
use Rattle.std.proofs.Common.{◌≡◌, ◌⊎◌, inl, inr, ℕ, zero, suc, ◌+◌, ◌≤◌, ◌<◌, Bool, true, false, ◌&&◌, List, [], ◌∷◌, ◌++◌, length, take, drop, refl, sym, ap, subst, ◌∙◌, arith}
use Rattle.std.specs.Prelude.{◌==◌, nat_lt}
use Rattle.std.proofs.lemmas.List.{length-append, length-take-le, take_at, drop_at, take-append-drop, append_assoc}
use Rattle.std.proofs.lemmas.Bool.{eqb-true}
use Rattle.std.proofs.lemmas.Bool.Decides.{eqb_tells, nat_tests}
use Rattle.sudoers_text.specs.declared.part.ByteRunKind.{ByteRunKind}
use Rattle.sudoers_text.specs.declared.part.ByteRunKind.TheVariants as rule
use Rattle.sudoers_text.specs.Part.{run_unit_size, reach_past_first_byte, reach_of_units, leading_run_size, is_entire_run, is_nonempty_run, has_given_first_byte, quotes_and_run_between_size, argument_unit_size}
use Rattle.sudoers_text.proofs.Units.{true_conjunction_has_two_true_parts}
use Rattle.sudoers_text.proofs.Reach.{leading_run_size_is_within_bytes, quoted_run_size_is_within_bytes}
use Rattle.sudoers_text.proofs.Steady.{IsSteadyUnitSize, AreExclusiveUnitSizes, run_unit_size_is_steady, first_nonzero_of_steady_sizes_is_steady, reach_through_run_adds_rest_reach, entire_run_is_within_longer_reach, reach_of_own_prefix_is_same}

-- The first n bytes are the longest piece by this test with which the bytes begin; 0: none is.
pub record IsLongestPieceSize (is : List ℕ → Bool) (bytes : List ℕ) (n : ℕ) : Type 0 where
  pub inside : n ≤ length bytes
  pub sound : 0 < n → is (take n bytes) ≡ true
  pub most : (m : ℕ) → m ≤ length bytes → is (take m bytes) ≡ true → (0 < m) × (m ≤ n)

pub test_failing_all_prefixes_has_zero_size : (is : List ℕ → Bool) (bytes : List ℕ) → ((m : ℕ) → m ≤ length bytes → is (take m bytes) ≡ true → ⊥) → IsLongestPieceSize is bytes 0
test_failing_all_prefixes_has_zero_size is bytes none = record { inside = omega arith; sound = λ some. absurd (omega arith); most = λ m inside h. absurd (none m inside h) }

pub equal_tests_have_same_longest_piece_size : (is other : List ℕ → Bool) (bytes : List ℕ) (n : ℕ) → ((m : ℕ) → is (take m bytes) ≡ other (take m bytes)) → IsLongestPieceSize other bytes n → IsLongestPieceSize is bytes n
equal_tests_have_same_longest_piece_size is other bytes n same size = record {
  inside = size.inside;
  sound = λ some. same n ∙ size.sound some;
  most = λ m inside h. size.most m inside (sym (same m) ∙ h);
}

pub positive_by_test_is_positive : (n : ℕ) → nat_lt 0 n ≡ true → 0 < n
positive_by_test_is_positive zero h = absurd (cc)
positive_by_test_is_positive (suc n) h = omega arith

pub positive_number_passes_positive_test : (n : ℕ) → 0 < n → nat_lt 0 n ≡ true
positive_number_passes_positive_test zero h = absurd (omega arith)
positive_number_passes_positive_test (suc n) h = grind (arith, nat_tests)

pub equal_numbers_pass_equality_test : (n m : ℕ) → n ≡ m → (n == m) ≡ true
equal_numbers_pass_equality_test n m e = grind (arith, nat_tests)

pub two_true_values_are_true_together : (a b : Bool) → a ≡ true → b ≡ true → (a && b) ≡ true
two_true_values_are_true_together a b e f = rw e f

-- ---- runs

entire_run_reaches_text_end : (r : ByteRunKind) (text : List ℕ) → is_entire_run r text ≡ true → reach_of_units (run_unit_size r) 0 text ≡ length text
unfolding leading_run_size
entire_run_reaches_text_end r text h = eqb-true (reach_of_units (run_unit_size r) 0 text) (length text) h

pub leading_run_size_is_longest_nonempty_run : (r : ByteRunKind) (bytes : List ℕ) → IsLongestPieceSize (is_nonempty_run r) bytes (leading_run_size r bytes)
unfolding leading_run_size
leading_run_size_is_longest_nonempty_run r bytes =
    let n = reach_of_units (run_unit_size r) 0 bytes in
    let within : n ≤ length bytes = leading_run_size_is_within_bytes r bytes in
    let size : length (take n bytes) ≡ n = length-take-le n bytes within in
    record {
      inside = within;
      sound = λ some.
          two_true_values_are_true_together (nat_lt 0 (length (take n bytes))) (is_entire_run r (take n bytes)) (positive_number_passes_positive_test (length (take n bytes)) (omega (arith, size)))
          (equal_numbers_pass_equality_test (reach_of_units (run_unit_size r) 0 (take n bytes)) (length (take n bytes)) (reach_of_own_prefix_is_same (run_unit_size r) (run_unit_size_is_steady r) 0 bytes (omega arith) ∙ sym size));
      most = λ m inside h.
          let parts = true_conjunction_has_two_true_parts (nat_lt 0 (length (take m bytes))) (is_entire_run r (take m bytes)) h in
          let len : length (take m bytes) ≡ m = length-take-le m bytes inside in
          let more = entire_run_is_within_longer_reach (run_unit_size r) (run_unit_size_is_steady r) (take m bytes) (drop m bytes) (entire_run_reaches_text_end r (take m bytes) parts.1) in
          let all : reach_of_units (run_unit_size r) 0 (take m bytes ++ drop m bytes) ≡ n = ap (reach_of_units (run_unit_size r) 0) (take-append-drop m bytes) in
          (omega (arith, positive_by_test_is_positive (length (take m bytes)) parts.0, len), omega (arith, more, len, all));
    }

-- ---- quoted parts

-- the bytes begin with quotes and a run between them
pub record BeginsWithQuotedRun (r : ByteRunKind) (bytes : List ℕ) : Type 0 where
  pub inner : List ℕ
  pub more : List ℕ
  pub parts : bytes ≡ 34 ∷ (inner ++ 34 ∷ more)
  pub run : reach_of_units (run_unit_size r) 0 inner ≡ length inner
  pub size : quotes_and_run_between_size r bytes ≡ length inner + 2

-- no unit of the rule begins with `"`
abbrev pub BeginsNoUnitWithQuoteSign : ByteRunKind → Type 0
BeginsNoUnitWithQuoteSign r = (bytes : List ℕ) → run_unit_size r (34 ∷ bytes) ≡ 0

quote_after_leading_run_is_quoted_run : (r : ByteRunKind) (rest : List ℕ) (n : ℕ) → n ≡ leading_run_size r rest → (after : List ℕ) → drop n rest ≡ after → has_given_first_byte 34 after ≡ true → quotes_and_run_between_size r (34 ∷ rest) ≡ n + 2 → BeginsWithQuotedRun r (34 ∷ rest)
unfolding leading_run_size
quote_after_leading_run_is_quoted_run r rest n is [] e h size = absurd (cc)
quote_after_leading_run_is_quoted_run r rest n is (c ∷ more) e h size =
    let quote : c ≡ 34 = eqb-true c 34 h in
    let within : n ≤ length rest = omega (arith, is, leading_run_size_is_within_bytes r rest) in
    let len : length (take n rest) ≡ n = length-take-le n rest within in
    let parts : rest ≡ take n rest ++ 34 ∷ more =
    sym (take-append-drop n rest) ∙ ap (λ (t : List ℕ). take n rest ++ t) (e ∙ ap (λ (d : ℕ). d ∷ more) quote) in
    record {
      inner = take n rest;
      more = more;
      parts = ap (λ (t : List ℕ). 34 ∷ t) parts;
      run = ap (λ (k : ℕ). reach_of_units (run_unit_size r) 0 (take k rest)) is ∙ reach_of_own_prefix_is_same (run_unit_size r) (run_unit_size_is_steady r) 0 rest (omega arith) ∙ sym is ∙ sym len;
      size = size ∙ ap (λ (k : ℕ). k + 2) (sym len);
    }

-- The bytes begin with quotes and a run between them, or with none.
pub bytes_begin_with_quoted_run_or_none : (r : ByteRunKind) (bytes : List ℕ) → (quotes_and_run_between_size r bytes ≡ 0) ⊎ BeginsWithQuotedRun r bytes
unfolding quotes_and_run_between_size
bytes_begin_with_quoted_run_or_none r [] = inl refl
bytes_begin_with_quoted_run_or_none r (b ∷ rest) =
    elim (eqb_tells b 34) [
      | inl w ↦ subst (λ (c : ℕ). (quotes_and_run_between_size r (c ∷ rest) ≡ 0) ⊎ BeginsWithQuotedRun r (c ∷ rest)) (sym w.1) (by_end (has_given_first_byte 34 (drop (leading_run_size r rest) rest)) refl)
      | inr w ↦ let other : (b == 34) ≡ false = w.0 in inl (rw other refl)
    ]
  where
    by_end : (t : Bool) → has_given_first_byte 34 (drop (leading_run_size r rest) rest) ≡ t → (quotes_and_run_between_size r (34 ∷ rest) ≡ 0) ⊎ BeginsWithQuotedRun r (34 ∷ rest)
    by_end true e = inr (quote_after_leading_run_is_quoted_run r rest (leading_run_size r rest) refl (drop (leading_run_size r rest) rest) refl e (rw e refl))
    by_end false e = inl (rw e refl)

-- Quotes with a run between them are told as such.
pub quoted_run_is_two_longer_than_inner : (r : ByteRunKind) → BeginsNoUnitWithQuoteSign r → (inner more : List ℕ) → reach_of_units (run_unit_size r) 0 inner ≡ length inner → quotes_and_run_between_size r (34 ∷ (inner ++ 34 ∷ more)) ≡ length inner + 2
unfolding quotes_and_run_between_size leading_run_size
quoted_run_is_two_longer_than_inner r outside inner more run =
    let size : reach_of_units (run_unit_size r) 0 (inner ++ 34 ∷ more) ≡ length inner =
    reach_through_run_adds_rest_reach (run_unit_size r) (run_unit_size_is_steady r) inner (34 ∷ more) 0 (omega arith) run ∙ none (run_unit_size r (34 ∷ more)) (outside more) in
    rw size (rw (drop_at inner (34 ∷ more) (length inner) refl) refl)
  where
    none : (n : ℕ) → n ≡ 0 → length inner + reach_past_first_byte n (λ k. reach_of_units (run_unit_size r) k more) ≡ length inner
    none zero e = omega arith
    none (suc n) e = absurd (omega arith)

quoted_run_size_keeps_with_more_bytes : (r : ByteRunKind) → BeginsNoUnitWithQuoteSign r → (p q : List ℕ) → 0 < quotes_and_run_between_size r p → quotes_and_run_between_size r (p ++ q) ≡ quotes_and_run_between_size r p
quoted_run_size_keeps_with_more_bytes r outside p q some =
    elim (bytes_begin_with_quoted_run_or_none r p) [
      | inl none ↦ absurd (omega arith)
      | inr x ↦
          ap (λ (t : List ℕ). quotes_and_run_between_size r (t ++ q)) x.parts
          ∙ ap (λ (t : List ℕ). quotes_and_run_between_size r (34 ∷ t)) (append_assoc x.inner (34 ∷ x.more) q)
          ∙ quoted_run_is_two_longer_than_inner r outside x.inner (x.more ++ q) x.run ∙ sym x.size
    ]

empty_bytes_have_no_quoted_run : (r : ByteRunKind) → quotes_and_run_between_size r [] ≡ 0
unfolding quotes_and_run_between_size
empty_bytes_have_no_quoted_run r = refl

quoted_run_prefix_is_its_bytes : (inner more : List ℕ) → take (length inner + 2) (34 ∷ (inner ++ 34 ∷ more)) ≡ 34 ∷ (inner ++ 34 ∷ [])
quoted_run_prefix_is_its_bytes inner more =
    let whole : 34 ∷ (inner ++ 34 ∷ more) ≡ (34 ∷ (inner ++ 34 ∷ [])) ++ more = ap (λ (t : List ℕ). 34 ∷ t) (sym (append_assoc inner (34 ∷ []) more)) in
    ap (take (length inner + 2)) whole
    ∙ take_at (34 ∷ (inner ++ 34 ∷ [])) more (length inner + 2) (omega (arith, length-append inner (34 ∷ [])))

quoted_run_size_keeps_in_own_prefix : (r : ByteRunKind) → BeginsNoUnitWithQuoteSign r → (bytes : List ℕ) → quotes_and_run_between_size r (take (quotes_and_run_between_size r bytes) bytes) ≡ quotes_and_run_between_size r bytes
quoted_run_size_keeps_in_own_prefix r outside bytes =
    elim (bytes_begin_with_quoted_run_or_none r bytes) [
      | inl none ↦ ap (λ (n : ℕ). quotes_and_run_between_size r (take n bytes)) none ∙ empty_bytes_have_no_quoted_run r ∙ sym none
      | inr x ↦
          ap (λ (n : ℕ). quotes_and_run_between_size r (take n bytes)) x.size
          ∙ ap (λ (t : List ℕ). quotes_and_run_between_size r (take (length x.inner + 2) t)) x.parts
          ∙ ap (λ (t : List ℕ). quotes_and_run_between_size r t) (quoted_run_prefix_is_its_bytes x.inner x.more)
          ∙ quoted_run_is_two_longer_than_inner r outside x.inner [] x.run ∙ sym x.size
    ]

quoted_run_size_is_steady : (r : ByteRunKind) → BeginsNoUnitWithQuoteSign r → IsSteadyUnitSize (quotes_and_run_between_size r)
quoted_run_size_is_steady r outside = record { within = quoted_run_size_is_within_bytes r; stable = quoted_run_size_keeps_with_more_bytes r outside; own = quoted_run_size_keeps_in_own_prefix r outside }

-- ---- arguments

path_unit_and_quoted_run_are_exclusive : AreExclusiveUnitSizes (run_unit_size rule.Path) (quotes_and_run_between_size rule.Clean)
path_unit_and_quoted_run_are_exclusive p q some =
    elim (bytes_begin_with_quoted_run_or_none rule.Clean p) [
      | inl none ↦ absurd (omega arith)
      | inr x ↦ ap (λ (t : List ℕ). run_unit_size rule.Path (t ++ q)) x.parts
    ]

pub argument_unit_size_is_steady : IsSteadyUnitSize argument_unit_size
argument_unit_size_is_steady = first_nonzero_of_steady_sizes_is_steady (run_unit_size rule.Path) (quotes_and_run_between_size rule.Clean) (run_unit_size_is_steady rule.Path) (quoted_run_size_is_steady rule.Clean (λ bytes. refl)) path_unit_and_quoted_run_are_exclusive
