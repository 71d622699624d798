-- What runs and quoted parts end with: no line end.
use Rattle.sudoers_edit.proofs.Common.{Bool, Continuation, List, Pair, [], and_parts, ap, argument_unit_size, argument_units_size, arith, backslash_unit_size_by, begins_lf, begins_line_end, drop, ends_in_lf}
use Rattle.sudoers_edit.proofs.Common.{eqb-true, false, first_nonzero_number, has_given_first_byte, if◌then◌else◌, inl, inr, is_byte_of_include_path, is_byte_of_parameter_name, is_digest_byte, is_digit, is_path_byte}
use Rattle.sudoers_edit.proofs.Common.{is_value_byte, is_word_byte, leading_run_size, leb_tells, length, length-drop, pair_size_of_unit, quotes_and_run_between_size, reach_of_units, reach_past_first_byte, refl, run_unit_size}
use Rattle.sudoers_edit.proofs.Common.{size_of_one_matching_byte, subst, suc, sym, true, unit_after_backslash, zero, ℕ, ◌&&◌, ◌+◌, ◌<◌, ◌||◌, ◌∙◌, ◌∷◌, ◌≡◌, ◌≤◌, ◌⊎◌}
use Rattle.std.specs.Prelude.{◌==◌}
use Rattle.sudoers_text.specs.declared.part.ByteRunKind.{ByteRunKind}
use Rattle.sudoers_text.specs.declared.part.ByteRunKind.TheVariants as rule
use Rattle.sudoers_edit.proofs.OwnedBytes.{line_has_rest_below_its_length}

-- ---- units

abbrev AreEqualNumbers : ℕ → ℕ → Type 0
AreEqualNumbers m n = m ≡ n

-- the units stand in the bytes, and none that is all of them ends in LF
pub record HasUnitsWithoutFinalLf (unit : List ℕ → ℕ) : Type 0 where
  pub within : (bytes : List ℕ) → unit bytes ≤ length bytes
  pub ends : (bytes : List ℕ) → unit bytes ≡ length bytes → 0 < length bytes → ends_in_lf bytes ≡ false

-- no LF
byte_passing_test_is_not_lf : (test : ℕ → Bool) (b : ℕ) → test 10 ≡ false → test b ≡ true → (b == 10) ≡ false
byte_passing_test_is_not_lf test b no_lf passes = by (b == 10) refl
  where
    by : (t : Bool) → (b == 10) ≡ t → t ≡ false
    by true is = let same : b ≡ 10 = eqb-true b 10 is in let both : true ≡ false = sym passes ∙ ap test same ∙ no_lf in absurd (cc)
    by false is = refl

matching_byte_has_no_final_lf : (test : ℕ → Bool) → test 10 ≡ false → HasUnitsWithoutFinalLf (size_of_one_matching_byte test)
matching_byte_has_no_final_lf test no_lf = record { within = within; ends = ends }
  where
    one : (b : Bool) → (if b then 1 else 0) ≤ 1
    one true = omega arith
    one false = omega arith

    within : (bytes : List ℕ) → size_of_one_matching_byte test bytes ≤ length bytes
    within [] = omega arith
    within (b ∷ rest) = omega (arith, one (test b))

    of_one : (b : ℕ) (t : Bool) → test b ≡ t → AreEqualNumbers (if t then 1 else 0) 1 → (b == 10) ≡ false
    of_one b true is same = byte_passing_test_is_not_lf test b no_lf is
    of_one b false is same = absurd (omega (arith, same))

    ends : (bytes : List ℕ) → size_of_one_matching_byte test bytes ≡ length bytes → 0 < length bytes → ends_in_lf bytes ≡ false
    ends [] same some = absurd (omega (arith, some))
    ends (b ∷ []) same some = of_one b (test b) refl same
    ends (b ∷ c ∷ rest) same some = absurd (omega (arith, same, one (test b)))

-- a pair is none, or two bytes, of which the second is no LF
abbrev IsPairSize : ℕ → List ℕ → Type 0
IsPairSize n rest = (n ≡ 0) ⊎ ((n ≡ 2) × (0 < length rest) × ((c : ℕ) → rest ≡ c ∷ [] → (c == 10) ≡ false))

disjunction_false_implies_first_false : (x y : Bool) → (x || y) ≡ false → x ≡ false
disjunction_false_implies_first_false true y h = absurd (cc)
disjunction_false_implies_first_false false y h = refl

size_of_backslash_pair_is_pair_size : (rest : List ℕ) → IsPairSize (pair_size_of_unit (unit_after_backslash rest)) rest
size_of_backslash_pair_is_pair_size [] = inl refl
size_of_backslash_pair_is_pair_size (b ∷ rest) = by (begins_line_end (b ∷ rest)) refl
  where
    plain : begins_line_end (b ∷ rest) ≡ false → (c : ℕ) → b ∷ rest ≡ c ∷ [] → (c == 10) ≡ false
    plain is c same = let one : b ≡ c = cc in subst (λ x. (x == 10) ≡ false) one (disjunction_false_implies_first_false (b == 10) (b == 13 && begins_lf rest) is)

    of_pair : begins_line_end (b ∷ rest) ≡ false → (u : Bool) → IsPairSize (if u then 0 else 2) (b ∷ rest)
    of_pair is true = inl refl
    of_pair is false = inr (refl, omega arith, plain is)

    by : (t : Bool) → begins_line_end (b ∷ rest) ≡ t → IsPairSize (pair_size_of_unit (if t then Continuation (b == 13) else Pair b)) (b ∷ rest)
    by true is = inl refl
    by false is = of_pair is (b == 13)

-- a byte that passes, or a pair
word_unit_has_no_final_lf : (test : ℕ → Bool) → test 10 ≡ false → HasUnitsWithoutFinalLf (λ bytes. first_nonzero_number (size_of_one_matching_byte test bytes) (backslash_unit_size_by pair_size_of_unit bytes))
word_unit_has_no_final_lf test no_lf = record { within = λ bytes. (both bytes).0; ends = λ bytes same some. (both bytes).1 same some }
  where
    all : (b : ℕ) (rest : List ℕ) (t u : Bool) → test b ≡ t → IsPairSize (pair_size_of_unit (unit_after_backslash rest)) rest
        → (first_nonzero_number (if t then 1 else 0) (if u then pair_size_of_unit (unit_after_backslash rest) else 0) ≤ length (b ∷ rest))
        × (first_nonzero_number (if t then 1 else 0) (if u then pair_size_of_unit (unit_after_backslash rest) else 0) ≡ length (b ∷ rest) → ends_in_lf (b ∷ rest) ≡ false)
    all b [] true u is pair = (omega arith, λ same. byte_passing_test_is_not_lf test b no_lf is)
    all b (c ∷ rest) true u is pair = (omega arith, λ same. absurd (omega (arith, same)))
    all b rest false false is pair = (omega arith, λ same. absurd (omega (arith, same)))
    all b rest false true is (inl none) = (omega (arith, none), λ same. absurd (omega (arith, same, none)))
    all b [] false true is (inr two) = absurd (omega (arith, two.1))
    all b (c ∷ []) false true is (inr two) = (omega (arith, two.0), λ same. two.2 c refl)
    all b (c ∷ d ∷ rest) false true is (inr two) = (omega (arith, two.0), λ same. absurd (omega (arith, same, two.0)))

    both : (bytes : List ℕ) → (first_nonzero_number (size_of_one_matching_byte test bytes) (backslash_unit_size_by pair_size_of_unit bytes) ≤ length bytes)
        × (first_nonzero_number (size_of_one_matching_byte test bytes) (backslash_unit_size_by pair_size_of_unit bytes) ≡ length bytes → 0 < length bytes → ends_in_lf bytes ≡ false)
    both [] = (omega arith, λ same some. absurd (omega (arith, some)))
    both (b ∷ rest) = let a = all b rest (test b) (b == 92) refl (size_of_backslash_pair_is_pair_size rest) in (a.0, λ same some. a.1 same)

-- the rules of which words are made
pub data IsPlainRunKind : ByteRunKind → Type 0 where
  digits : IsPlainRunKind rule.Digits
  name : IsPlainRunKind rule.Name
  digest : IsPlainRunKind rule.Digest
  word : IsPlainRunKind rule.Word
  include : IsPlainRunKind rule.IncludePath
  path : IsPlainRunKind rule.Path
  value : IsPlainRunKind rule.Value

plain_run_unit_has_no_final_lf : (r : ByteRunKind) → IsPlainRunKind r → HasUnitsWithoutFinalLf (run_unit_size r)
plain_run_unit_has_no_final_lf r digits = matching_byte_has_no_final_lf is_digit refl
plain_run_unit_has_no_final_lf r name = matching_byte_has_no_final_lf is_byte_of_parameter_name refl
plain_run_unit_has_no_final_lf r digest = matching_byte_has_no_final_lf is_digest_byte refl
plain_run_unit_has_no_final_lf r word = word_unit_has_no_final_lf is_word_byte refl
plain_run_unit_has_no_final_lf r include = word_unit_has_no_final_lf is_byte_of_include_path refl
plain_run_unit_has_no_final_lf r path = word_unit_has_no_final_lf is_path_byte refl
plain_run_unit_has_no_final_lf r value = word_unit_has_no_final_lf is_value_byte refl

-- ---- runs

units_reaching_all_have_no_final_lf : (unit : List ℕ → ℕ) → HasUnitsWithoutFinalLf unit → (k : ℕ) (bytes : List ℕ) → k < length bytes → reach_of_units unit k bytes ≡ length bytes
    → ends_in_lf bytes ≡ false
units_reaching_all_have_no_final_lf unit e k [] less all = absurd (omega (arith, less))
units_reaching_all_have_no_final_lf unit e (suc k) (b ∷ []) less all = absurd (omega (arith, less))
units_reaching_all_have_no_final_lf unit e (suc k) (b ∷ c ∷ rest) less all = units_reaching_all_have_no_final_lf unit e k (c ∷ rest) (omega (arith, less)) (omega (arith, all))
units_reaching_all_have_no_final_lf unit e zero (b ∷ []) less all = by (unit (b ∷ [])) refl all
  where
    by : (n : ℕ) → unit (b ∷ []) ≡ n → reach_past_first_byte n (λ k. reach_of_units unit k []) ≡ 1 → ends_in_lf (b ∷ []) ≡ false
    by zero is same = absurd (omega (arith, same))
    by (suc n) is same = e.ends (b ∷ []) (omega (arith, is, e.within (b ∷ []))) (omega arith)
units_reaching_all_have_no_final_lf unit e zero (b ∷ c ∷ rest) less all =
    by (unit (b ∷ c ∷ rest)) refl all (λ k small same. units_reaching_all_have_no_final_lf unit e k (c ∷ rest) small same)
  where
    by : (n : ℕ) → unit (b ∷ c ∷ rest) ≡ n → reach_past_first_byte n (λ k. reach_of_units unit k (c ∷ rest)) ≡ length (b ∷ c ∷ rest)
        → ((k : ℕ) → k < length (c ∷ rest) → reach_of_units unit k (c ∷ rest) ≡ length (c ∷ rest) → ends_in_lf (c ∷ rest) ≡ false)
        → ends_in_lf (b ∷ c ∷ rest) ≡ false
    by zero is same later = absurd (omega (arith, same))
    by (suc n) is same later = elim (leb_tells (length (c ∷ rest)) n) [
      | inl whole ↦ e.ends (b ∷ c ∷ rest) (omega (arith, is, whole.1, e.within (b ∷ c ∷ rest))) (omega arith)
      | inr part ↦ later n part.1 (omega (arith, same))
    ]

pub run_of_all_bytes_has_no_final_lf : (r : ByteRunKind) → IsPlainRunKind r → (bytes : List ℕ) → leading_run_size r bytes ≡ length bytes → 0 < length bytes → ends_in_lf bytes ≡ false
unfolding leading_run_size
run_of_all_bytes_has_no_final_lf r plain bytes all some = units_reaching_all_have_no_final_lf (run_unit_size r) (plain_run_unit_has_no_final_lf r plain) 0 bytes some all

-- ---- quoted parts

byte_at_number_implies_number_below_length : (n : ℕ) (xs : List ℕ) → has_given_first_byte 34 (drop n xs) ≡ true → n < length xs
byte_at_number_implies_number_below_length n xs h = by (drop n xs) refl h
  where
    by : (ys : List ℕ) → drop n xs ≡ ys → has_given_first_byte 34 ys ≡ true → n < length xs
    by [] is e = absurd (cc)
    by (y ∷ ys) is e = omega (arith, length-drop n xs, ap length is)

bytes_with_final_quote_have_no_final_lf : (n : ℕ) (xs : List ℕ) → has_given_first_byte 34 (drop n xs) ≡ true → n + 1 ≡ length xs → ends_in_lf xs ≡ false
bytes_with_final_quote_have_no_final_lf n xs quote last =
    let t = line_has_rest_below_its_length n xs (omega (arith, last)) in
    t.same ∙ by t.first t.rest (omega (arith, length-drop n xs, ap length t.is, last)) (sym (ap (has_given_first_byte 34) t.is) ∙ quote)
  where
    by : (b : ℕ) (rest : List ℕ) → length (b ∷ rest) ≡ 1 → has_given_first_byte 34 (b ∷ rest) ≡ true → ends_in_lf (b ∷ rest) ≡ false
    by b (c ∷ rest) one is = absurd (omega (arith, one))
    by b [] one is = let same : b ≡ 34 = eqb-true b 34 is in subst (λ x. (x == 10) ≡ false) (sym same) refl

pub quoted_run_has_no_final_lf : (r : ByteRunKind) → HasUnitsWithoutFinalLf (quotes_and_run_between_size r)
unfolding quotes_and_run_between_size
quoted_run_has_no_final_lf r = record { within = λ bytes. (both bytes).0; ends = λ bytes. (both bytes).1 }
  where
    both : (bytes : List ℕ)
        → (quotes_and_run_between_size r bytes ≤ length bytes) × (quotes_and_run_between_size r bytes ≡ length bytes → 0 < length bytes → ends_in_lf bytes ≡ false)
    both [] = (omega arith, λ same some. absurd (omega (arith, some)))
    both (b ∷ rest) = by (b == 34 && has_given_first_byte 34 (drop (leading_run_size r rest) rest)) refl
      where
        close : (b == 34 && has_given_first_byte 34 (drop (leading_run_size r rest) rest)) ≡ true → has_given_first_byte 34 (drop (leading_run_size r rest) rest) ≡ true
        close h = (and_parts (b == 34) (has_given_first_byte 34 (drop (leading_run_size r rest) rest)) h).1

        longer : (xs : List ℕ) → 0 < length xs → ends_in_lf xs ≡ false → ends_in_lf (b ∷ xs) ≡ false
        longer [] some h = absurd (omega (arith, some))
        longer (x ∷ xs) some h = h

        by : (t : Bool) → (b == 34 && has_given_first_byte 34 (drop (leading_run_size r rest) rest)) ≡ t
            → ((if t then leading_run_size r rest + 2 else 0) ≤ length (b ∷ rest))
            × ((if t then leading_run_size r rest + 2 else 0) ≡ length (b ∷ rest) → 0 < length (b ∷ rest) → ends_in_lf (b ∷ rest) ≡ false)
        by true is = (
          omega (arith, byte_at_number_implies_number_below_length (leading_run_size r rest) rest (close is)),
          λ same some.
              longer rest (omega (arith, byte_at_number_implies_number_below_length (leading_run_size r rest) rest (close is)))
              (bytes_with_final_quote_have_no_final_lf (leading_run_size r rest) rest (close is) (omega (arith, same))),
        )
        by false is = (omega arith, λ same some. absurd (omega (arith, same)))

-- units of arguments
argument_unit_has_no_final_lf : HasUnitsWithoutFinalLf argument_unit_size
argument_unit_has_no_final_lf = record { within = λ bytes. (both bytes).0; ends = λ bytes. (both bytes).1 }
  where
    by : (bytes : List ℕ) (n : ℕ) → run_unit_size rule.Path bytes ≡ n
        → (first_nonzero_number n (quotes_and_run_between_size rule.Clean bytes) ≤ length bytes)
        × (first_nonzero_number n (quotes_and_run_between_size rule.Clean bytes) ≡ length bytes → 0 < length bytes → ends_in_lf bytes ≡ false)
    by bytes zero is = ((quoted_run_has_no_final_lf rule.Clean).within bytes, (quoted_run_has_no_final_lf rule.Clean).ends bytes)
    by bytes (suc n) is = (
      omega (arith, is, (plain_run_unit_has_no_final_lf rule.Path path).within bytes),
      λ same some. (plain_run_unit_has_no_final_lf rule.Path path).ends bytes (is ∙ same) some,
    )

    both : (bytes : List ℕ)
        → (argument_unit_size bytes ≤ length bytes) × (argument_unit_size bytes ≡ length bytes → 0 < length bytes → ends_in_lf bytes ≡ false)
    both bytes = by bytes (run_unit_size rule.Path bytes) refl

pub all_argument_units_have_no_final_lf : (bytes : List ℕ) → argument_units_size bytes ≡ length bytes → 0 < length bytes → ends_in_lf bytes ≡ false
unfolding argument_units_size
all_argument_units_have_no_final_lf bytes all some = units_reaching_all_have_no_final_lf argument_unit_size argument_unit_has_no_final_lf 0 bytes some all
