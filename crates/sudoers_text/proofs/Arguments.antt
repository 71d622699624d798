-- The argument that is found is the longest.
use Rattle.std.proofs.Common.{◌≡◌, ◌⊎◌, inl, inr, ℕ, zero, suc, ◌+◌, ◌-◌, ◌≤◌, ◌<◌, Bool, true, false, ◌&&◌, ◌||◌, not, List, [], ◌∷◌, ◌++◌, length, take, drop, refl, sym, ap, subst, ◌∙◌, arith}
use Rattle.std.specs.Prelude.{◌==◌, if◌then◌else◌, nat_lt}
use Rattle.std.proofs.lemmas.List.{length-drop, length-take-le, take-append-drop, drop_all}
use Rattle.std.proofs.lemmas.Bool.{eqb-true}
use Rattle.std.proofs.lemmas.Bool.Decides.{nat_tests}
use Rattle.sudoers_text.specs.declared.part.ByteRunKind.TheVariants as rule
use Rattle.sudoers_text.specs.Part.{run_unit_size, reach_of_units, leading_run_size, quotes_and_run_between_size, closed_quote_size, argument_unit_size, argument_units_size, is_whole_argument, has_given_first_byte, quoted_front_to_inner_separator_size}
use Rattle.sudoers_text.specs.Piece.{is_argument_of_size}
use Rattle.sudoers_text.specs.Found.{argument_size}
use Rattle.sudoers_text.proofs.Units.{true_conjunction_has_two_true_parts}
use Rattle.sudoers_text.proofs.Reach.{choice_of_bounded_sizes_is_within_bound, reach_of_units_is_within_bytes, leading_run_size_is_within_bytes, argument_units_size_is_within_bytes, reach_without_first_unit_is_zero}
use Rattle.sudoers_text.proofs.Steady.{run_unit_size_is_steady, reach_through_run_adds_rest_reach, entire_run_is_within_longer_reach, reach_of_own_prefix_is_same, prefix_and_next_bytes_are_longer_prefix}
use Rattle.sudoers_text.proofs.Sizes.{bytes_begin_with_quoted_run_or_none, argument_unit_size_is_steady, positive_by_test_is_positive, positive_number_passes_positive_test, equal_numbers_pass_equality_test, two_true_values_are_true_together}

-- a quoted part with a `,`, `:` or `=` in it begins the bytes
record BeginsWithQuoteBeforeSeparator (bytes : List ℕ) : Type 0 where
  rest : List ℕ
  parts : bytes ≡ 34 ∷ rest
  unclosed : quotes_and_run_between_size rule.Clean (34 ∷ rest) ≡ 0
  size : quoted_front_to_inner_separator_size bytes ≡ leading_run_size rule.Clean rest + 1

positive_quote_size_implies_broken_quote : (rest : List ℕ) (n m : ℕ) → quotes_and_run_between_size rule.Clean (34 ∷ rest) ≡ n → closed_quote_size (34 ∷ rest) ≡ m → 0 < quoted_front_to_inner_separator_size (34 ∷ rest) → BeginsWithQuoteBeforeSeparator (34 ∷ rest)
unfolding quoted_front_to_inner_separator_size
positive_quote_size_implies_broken_quote rest zero zero e f some = absurd (let none : quoted_front_to_inner_separator_size (34 ∷ rest) ≡ 0 = rw e (rw f refl) in omega (arith, none, some))
positive_quote_size_implies_broken_quote rest zero (suc m) e f some =
    let apart : (suc m == 0) ≡ false = grind (arith, nat_tests) in
    record { rest = rest; parts = refl; unclosed = e; size = rw e (rw f (rw apart refl)) }
positive_quote_size_implies_broken_quote rest (suc n) m e f some =
    let apart : (suc n == 0) ≡ false = grind (arith, nat_tests) in
    absurd (let none : quoted_front_to_inner_separator_size (34 ∷ rest) ≡ 0 = rw e (rw apart refl) in omega (arith, none, some))

unclosed_start_has_no_quote_before_separator : (b : ℕ) (rest : List ℕ) → closed_quote_size (b ∷ rest) ≡ 0 → quoted_front_to_inner_separator_size (b ∷ rest) ≡ 0
unfolding quoted_front_to_inner_separator_size
unclosed_start_has_no_quote_before_separator b rest none = by_test (quotes_and_run_between_size rule.Clean (b ∷ rest) == 0)
  where
    by_test : (t : Bool) → (if t && not (closed_quote_size (b ∷ rest) == 0) then leading_run_size rule.Clean rest + 1 else 0) ≡ 0
    by_test true = rw none refl
    by_test false = refl

empty_bytes_have_no_quote_before_separator : quoted_front_to_inner_separator_size [] ≡ 0
unfolding quoted_front_to_inner_separator_size
empty_bytes_have_no_quote_before_separator = refl

positive_broken_quote_size_implies_one : (bytes : List ℕ) → 0 < quoted_front_to_inner_separator_size bytes → BeginsWithQuoteBeforeSeparator bytes
positive_broken_quote_size_implies_one [] some = absurd (omega (arith, empty_bytes_have_no_quote_before_separator, some))
positive_broken_quote_size_implies_one (b ∷ rest) some =
    elim (bytes_begin_with_quoted_run_or_none rule.Quote (b ∷ rest)) [
      | inl none ↦ absurd (omega (arith, unclosed_start_has_no_quote_before_separator b rest none, some))
      | inr x ↦
          let inner = x.inner ++ 34 ∷ x.more in
          subst (λ (t : List ℕ). 0 < quoted_front_to_inner_separator_size t → BeginsWithQuoteBeforeSeparator t) (sym x.parts)
          (λ more. positive_quote_size_implies_broken_quote inner (quotes_and_run_between_size rule.Clean (34 ∷ inner)) (closed_quote_size (34 ∷ inner)) refl refl more) some
    ]

quote_before_separator_is_within_bytes : (bytes : List ℕ) → quoted_front_to_inner_separator_size bytes ≤ length bytes
unfolding quoted_front_to_inner_separator_size
quote_before_separator_is_within_bytes [] = omega arith
quote_before_separator_is_within_bytes (b ∷ rest) =
    choice_of_bounded_sizes_is_within_bound (quotes_and_run_between_size rule.Clean (b ∷ rest) == 0 && not (closed_quote_size (b ∷ rest) == 0)) (leading_run_size rule.Clean rest + 1) 0 (length (b ∷ rest))
    (omega (arith, leading_run_size_is_within_bytes rule.Clean rest)) (omega arith)

-- no unit of an argument begins with a quoted part that is not closed without a `,`, `:` or `=`
broken_quote_begins_no_argument_unit : (rest : List ℕ) → quotes_and_run_between_size rule.Clean (34 ∷ rest) ≡ 0 → reach_of_units argument_unit_size 0 (34 ∷ rest) ≡ 0
broken_quote_begins_no_argument_unit rest none = reach_without_first_unit_is_zero argument_unit_size (34 ∷ rest) none

-- a clean run that is not closed
unclosed_clean_run_is_no_quoted_run : (rest : List ℕ) → quotes_and_run_between_size rule.Clean (34 ∷ take (leading_run_size rule.Clean rest) rest) ≡ 0
unfolding quotes_and_run_between_size leading_run_size
unclosed_clean_run_is_no_quoted_run rest =
    let n = reach_of_units (run_unit_size rule.Clean) 0 rest in
    let run : reach_of_units (run_unit_size rule.Clean) 0 (take n rest) ≡ n = reach_of_own_prefix_is_same (run_unit_size rule.Clean) (run_unit_size_is_steady rule.Clean) 0 rest (omega arith) in
    let size : length (take n rest) ≡ n = length-take-le n rest (reach_of_units_is_within_bytes (run_unit_size rule.Clean) (run_unit_size_is_steady rule.Clean).within 0 rest (omega arith)) in
    rw run (rw (drop_all n (take n rest) (omega (arith, size))) refl)

broken_quote_keeps_argument_units_size : (bytes : List ℕ) → 0 < quoted_front_to_inner_separator_size (drop (argument_units_size bytes) bytes) → argument_units_size (take (argument_units_size bytes + quoted_front_to_inner_separator_size (drop (argument_units_size bytes) bytes)) bytes) ≡ argument_units_size bytes
unfolding argument_units_size
broken_quote_keeps_argument_units_size bytes some =
    let w = reach_of_units argument_unit_size 0 bytes in
    let k = quoted_front_to_inner_separator_size (drop w bytes) in
    let x = positive_broken_quote_size_implies_one (drop w bytes) some in
    let within : w ≤ length bytes = argument_units_size_is_within_bytes bytes in
    let size : length (take w bytes) ≡ w = length-take-le w bytes within in
    let run : reach_of_units argument_unit_size 0 (take w bytes) ≡ length (take w bytes) = reach_of_own_prefix_is_same argument_unit_size argument_unit_size_is_steady 0 bytes (omega arith) ∙ sym size in
    let behind : take k (drop w bytes) ≡ 34 ∷ take (leading_run_size rule.Clean x.rest) x.rest =
    ap (λ (t : List ℕ). take k t) x.parts ∙ ap (λ (n : ℕ). take n (34 ∷ x.rest)) (x.size ∙ one_more (leading_run_size rule.Clean x.rest)) in
    let less : w + k - w ≡ k = omega arith in
    let parts : take (w + k) bytes ≡ take w bytes ++ (34 ∷ take (leading_run_size rule.Clean x.rest) x.rest) =
    sym (prefix_and_next_bytes_are_longer_prefix w (w + k) bytes (omega arith)) ∙ ap (λ (n : ℕ). take w bytes ++ take n (drop w bytes)) less ∙ ap (λ (t : List ℕ). take w bytes ++ t) behind in
    ap (reach_of_units argument_unit_size 0) parts
    ∙ reach_through_run_adds_rest_reach argument_unit_size argument_unit_size_is_steady (take w bytes) (34 ∷ take (leading_run_size rule.Clean x.rest) x.rest) 0 (omega arith) run
    ∙ omega (arith, size, broken_quote_begins_no_argument_unit (take (leading_run_size rule.Clean x.rest) x.rest) (unclosed_clean_run_is_no_quoted_run x.rest))
  where
    one_more : (n : ℕ) → n + 1 ≡ suc n
    one_more n = omega arith

disjunction_of_true_left_part_is_true : (a b : Bool) → a ≡ true → (a || b) ≡ true
disjunction_of_true_left_part_is_true true b e = refl
disjunction_of_true_left_part_is_true false b e = absurd (cc)

disjunction_of_true_right_part_is_true : (a b : Bool) → b ≡ true → (a || b) ≡ true
disjunction_of_true_right_part_is_true true b e = refl
disjunction_of_true_right_part_is_true false b e = e

true_disjunction_has_one_true_part : (a b : Bool) → (a || b) ≡ true → (a ≡ true) ⊎ (b ≡ true)
true_disjunction_has_one_true_part true b e = inl refl
true_disjunction_has_one_true_part false b e = inr e

-- how many bytes the longest argument has that begins the bytes
pub record IsArgumentSizeLongest (bytes : List ℕ) : Type 0 where
  pub inside : argument_size bytes ≤ length bytes
  pub sound : 0 < argument_size bytes → is_argument_of_size bytes (argument_size bytes) ≡ true
  pub most : (m : ℕ) → m ≤ length bytes → is_argument_of_size bytes m ≡ true → m ≤ argument_size bytes

argument_units_size_keeps_in_own_prefix : (bytes : List ℕ) → argument_units_size (take (argument_units_size bytes) bytes) ≡ argument_units_size bytes
unfolding argument_units_size
argument_units_size_keeps_in_own_prefix bytes = reach_of_own_prefix_is_same argument_unit_size argument_unit_size_is_steady 0 bytes (omega arith)

front_without_quote_is_none : (rest : List ℕ) → has_given_first_byte 34 rest ≡ false → quoted_front_to_inner_separator_size rest ≡ 0
unfolding quoted_front_to_inner_separator_size quotes_and_run_between_size
front_without_quote_is_none [] h = refl
front_without_quote_is_none (b ∷ rest) h = rw h refl

-- an argument of units alone
pub record IsUnbrokenArgument (bytes : List ℕ) : Type 0 where
  pub size : argument_size bytes ≡ argument_units_size bytes
  pub whole : is_whole_argument (take (argument_units_size bytes) bytes) ≡ true

pub units_before_no_quote_are_unbroken : (bytes : List ℕ) → has_given_first_byte 34 (drop (argument_units_size bytes) bytes) ≡ false → IsUnbrokenArgument bytes
unfolding argument_size
units_before_no_quote_are_unbroken bytes h =
    let n = argument_units_size bytes in
    record {
      size = omega (arith, front_without_quote_is_none (drop n bytes) h);
      whole = equal_numbers_pass_equality_test (argument_units_size (take n bytes)) (length (take n bytes)) (argument_units_size_keeps_in_own_prefix bytes ∙ sym (length-take-le n bytes (argument_units_size_is_within_bytes bytes)));
    }

units_with_broken_quote_are_argument : (bytes : List ℕ) (k : ℕ) → quoted_front_to_inner_separator_size (drop (argument_units_size bytes) bytes) ≡ k → is_argument_of_size bytes (argument_units_size bytes + k) ≡ true
units_with_broken_quote_are_argument bytes zero e =
    let n : argument_units_size bytes + 0 ≡ argument_units_size bytes = omega arith in
    let is : argument_units_size (take (argument_units_size bytes) bytes) ≡ argument_units_size bytes = argument_units_size_keeps_in_own_prefix bytes in
    ap (is_argument_of_size bytes) n ∙ disjunction_of_true_left_part_is_true (argument_units_size (take (argument_units_size bytes) bytes) == argument_units_size bytes)
    (nat_lt 0 (quoted_front_to_inner_separator_size (drop (argument_units_size (take (argument_units_size bytes) bytes)) bytes)) && (argument_units_size (take (argument_units_size bytes) bytes) + quoted_front_to_inner_separator_size (drop (argument_units_size (take (argument_units_size bytes) bytes)) bytes) == argument_units_size bytes))
    (equal_numbers_pass_equality_test (argument_units_size (take (argument_units_size bytes) bytes)) (argument_units_size bytes) is)
units_with_broken_quote_are_argument bytes (suc k) e =
    let w = argument_units_size bytes in
    let is : argument_units_size (take (w + suc k) bytes) ≡ w =
    ap (λ (n : ℕ). argument_units_size (take (w + n) bytes)) (sym e) ∙ broken_quote_keeps_argument_units_size bytes (omega (arith, e)) in
    disjunction_of_true_right_part_is_true (argument_units_size (take (w + suc k) bytes) == w + suc k)
    (nat_lt 0 (quoted_front_to_inner_separator_size (drop (argument_units_size (take (w + suc k) bytes)) bytes)) && (argument_units_size (take (w + suc k) bytes) + quoted_front_to_inner_separator_size (drop (argument_units_size (take (w + suc k) bytes)) bytes) == w + suc k))
    (rw is (rw e (two_true_values_are_true_together (nat_lt 0 (suc k)) (w + suc k == w + suc k) (positive_number_passes_positive_test (suc k) (omega arith)) (equal_numbers_pass_equality_test (w + suc k) (w + suc k) refl))))

-- Units that end before a broken quoted part are all that begin the bytes.
units_ending_before_broken_quote_are_all : (bytes : List ℕ) (m : ℕ) → m ≤ length bytes → 0 < quoted_front_to_inner_separator_size (drop (argument_units_size (take m bytes)) bytes) → argument_units_size (take m bytes) ≡ argument_units_size bytes
unfolding argument_units_size
units_ending_before_broken_quote_are_all bytes m inside some =
    let v = reach_of_units argument_unit_size 0 (take m bytes) in
    let len : length (take m bytes) ≡ m = length-take-le m bytes inside in
    let within : v ≤ m = omega (arith, argument_units_size_is_within_bytes (take m bytes), len) in
    let front : take v (take m bytes) ≡ take v bytes = take_front v m bytes within in
    let size : length (take v bytes) ≡ v = length-take-le v bytes (omega arith) in
    let run : reach_of_units argument_unit_size 0 (take v bytes) ≡ length (take v bytes) =
    ap (reach_of_units argument_unit_size 0) (sym front) ∙ reach_of_own_prefix_is_same argument_unit_size argument_unit_size_is_steady 0 (take m bytes) (omega arith) ∙ sym size in
    let x = positive_broken_quote_size_implies_one (drop v bytes) some in
    let none : reach_of_units argument_unit_size 0 (drop v bytes) ≡ 0 = ap (reach_of_units argument_unit_size 0) x.parts ∙ broken_quote_begins_no_argument_unit x.rest x.unclosed in
    let all : reach_of_units argument_unit_size 0 bytes ≡ v =
    ap (reach_of_units argument_unit_size 0) (sym (take-append-drop v bytes))
    ∙ reach_through_run_adds_rest_reach argument_unit_size argument_unit_size_is_steady (take v bytes) (drop v bytes) 0 (omega arith) run
    ∙ omega (arith, size, none) in
    sym all
  where
    take_front : (v m : ℕ) (bytes : List ℕ) → v ≤ m → take v (take m bytes) ≡ take v bytes
    take_front zero m bytes h = refl
    take_front (suc v) zero bytes h = absurd (omega arith)
    take_front (suc v) (suc m) [] h = refl
    take_front (suc v) (suc m) (b ∷ bytes) h = ap (λ (t : List ℕ). b ∷ t) (take_front v m bytes (omega arith))

argument_units_size_is_largest : (bytes : List ℕ) (m : ℕ) → m ≤ length bytes → argument_units_size (take m bytes) ≡ m → m ≤ argument_units_size bytes
unfolding argument_units_size
argument_units_size_is_largest bytes m inside is =
    let len : length (take m bytes) ≡ m = length-take-le m bytes inside in
    let more = entire_run_is_within_longer_reach argument_unit_size argument_unit_size_is_steady (take m bytes) (drop m bytes) (is ∙ sym len) in
    let all : reach_of_units argument_unit_size 0 (take m bytes ++ drop m bytes) ≡ reach_of_units argument_unit_size 0 bytes = ap (reach_of_units argument_unit_size 0) (take-append-drop m bytes) in
    omega (arith, more, len, all)

argument_is_within_units_and_quote : (bytes : List ℕ) (m : ℕ) → m ≤ length bytes → is_argument_of_size bytes m ≡ true → m ≤ argument_units_size bytes + quoted_front_to_inner_separator_size (drop (argument_units_size bytes) bytes)
argument_is_within_units_and_quote bytes m inside h =
    let v = argument_units_size (take m bytes) in
    let k = quoted_front_to_inner_separator_size (drop v bytes) in
    elim (true_disjunction_has_one_true_part (v == m) (nat_lt 0 k && (v + k == m)) h) [
      | inl e ↦ let is : v ≡ m = eqb-true v m e in omega (arith, argument_units_size_is_largest bytes m inside is)
      | inr e ↦
          let parts = true_conjunction_has_two_true_parts (nat_lt 0 k) (v + k == m) e in
          let size : v + k ≡ m = eqb-true (v + k) m parts.1 in
          let same : v ≡ argument_units_size bytes = units_ending_before_broken_quote_are_all bytes m inside (positive_by_test_is_positive k parts.0) in
          let there : k ≡ quoted_front_to_inner_separator_size (drop (argument_units_size bytes) bytes) = ap (λ (n : ℕ). quoted_front_to_inner_separator_size (drop n bytes)) same in
          omega (arith, size, same, there)
    ]

pub argument_size_is_that_of_longest_argument : (bytes : List ℕ) → IsArgumentSizeLongest bytes
unfolding argument_size
argument_size_is_that_of_longest_argument bytes = record {
  inside = omega (arith, argument_units_size_is_within_bytes bytes, quote_before_separator_is_within_bytes (drop (argument_units_size bytes) bytes), length-drop (argument_units_size bytes) bytes);
  sound = λ some. units_with_broken_quote_are_argument bytes (quoted_front_to_inner_separator_size (drop (argument_units_size bytes) bytes)) refl;
  most = λ m below h. argument_is_within_units_and_quote bytes m below h;
}
