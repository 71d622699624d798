-- The number of a header.
use Rattle.std.proofs.Common.{◌≡◌, ◌∙◌, ℕ, ◌^◌, ◌<◌, ◌≤◌, true, false, not, ◌==◌, ◌||◌, List, [], ◌∷◌, length, Some, None, refl, sym, ap, subst, arith, inl, inr}
use Rattle.std.proofs.Common.{rules}
use Rattle.std.proofs.lemmas.Bool.{and_parts, cases_Bool, leb-true, le-ltb, ltb-false, ne_eqb, not-false, or_parts}
use Rattle.std.proofs.lemmas.Fmt.{digits_decimal, digits_value-decimal, length-decimal-le}
use Rattle.std.proofs.lemmas.Slice.Eq.{bytes_eq-Decides}
use Rattle.std.proofs.lemmas.Str.Parse.{IsNumeralModel, numerals_by_fold}
use Rattle.std.specs.Char.{is_ascii_digit}
use Rattle.std.specs.Fmt.{decimal}
use Rattle.std.specs.List.{list_any}
use Rattle.std.specs.Prelude.{nat_le, nat_lt}
use Rattle.std.specs.Str.{all_ascii_digits, bytes_eq}
use Rattle.sudoers_bundle.specs.Bundle.{number_of_short_decimal, value_with_more_digits}

digit_value_is_numeral_model : IsNumeralModel (λ ds. all_ascii_digits ds ≡ true) (value_with_more_digits 0)
digit_value_is_numeral_model = numerals_by_fold _ (search rules) value_with_more_digits (search rules)

-- DIGITS

digits_lack_byte_below_digits : (b : ℕ) (ds : List ℕ) → b < 48 → all_ascii_digits ds ≡ true → list_any (λ c. c == b) ds ≡ false
digits_lack_byte_below_digits b [] low all = refl
digits_lack_byte_below_digits b (d ∷ ds) low all =
    let p = and_parts (is_ascii_digit d) (all_ascii_digits ds) all in
    let q = and_parts (nat_le 48 d) (nat_le d 57) p.0 in
    let least : 48 ≤ d = leb-true 48 d q.0 in
    let other : (d == b) ≡ false = ne_eqb d b (λ e. omega (arith, e)) in
    rw other (digits_lack_byte_below_digits b ds low p.1)

-- a decimal has no byte below its digits, as no space and no LF
pub decimal_lacks_byte_below_digits : (b n : ℕ) → b < 48 → n < 2 ^ 64 → list_any (λ c. c == b) (decimal n) ≡ false
decimal_lacks_byte_below_digits b n low small = digits_lack_byte_below_digits b (decimal n) low (digits_decimal digit_value_is_numeral_model n small)

-- a digit is at most nine
first_digit_is_at_most_nine : (d : ℕ) (ds : List ℕ) → all_ascii_digits (d ∷ ds) ≡ true → (d ≤ 57) × (all_ascii_digits ds ≡ true)
first_digit_is_at_most_nine d ds all =
    let p = and_parts (is_ascii_digit d) (all_ascii_digits ds) all in
    let q = and_parts (nat_le 48 d) (nat_le d 57) p.0 in
    (leb-true d 57 q.1, p.1)

-- seven digits at most
value_of_seven_digits_is_below_limit : (ds : List ℕ) → all_ascii_digits ds ≡ true → length ds ≤ 7 → value_with_more_digits 0 ds < 10 ^ 7
value_of_seven_digits_is_below_limit [] all few = omega arith
value_of_seven_digits_is_below_limit (a ∷ []) all few = let p = first_digit_is_at_most_nine a [] all in omega (arith, p.0)
value_of_seven_digits_is_below_limit (a ∷ b ∷ []) all few = let p = first_digit_is_at_most_nine a (b ∷ []) all in let q = first_digit_is_at_most_nine b [] p.1 in omega (arith, p.0, q.0)
value_of_seven_digits_is_below_limit (a ∷ b ∷ c ∷ []) all few =
    let p = first_digit_is_at_most_nine a (b ∷ c ∷ []) all in let q = first_digit_is_at_most_nine b (c ∷ []) p.1 in let r = first_digit_is_at_most_nine c [] q.1 in omega (arith, p.0, q.0, r.0)
value_of_seven_digits_is_below_limit (a ∷ b ∷ c ∷ d ∷ []) all few =
    let p = first_digit_is_at_most_nine a (b ∷ c ∷ d ∷ []) all in let q = first_digit_is_at_most_nine b (c ∷ d ∷ []) p.1 in let r = first_digit_is_at_most_nine c (d ∷ []) q.1 in let s = first_digit_is_at_most_nine d [] r.1 in
    omega (arith, p.0, q.0, r.0, s.0)
value_of_seven_digits_is_below_limit (a ∷ b ∷ c ∷ d ∷ e ∷ []) all few =
    let p = first_digit_is_at_most_nine a (b ∷ c ∷ d ∷ e ∷ []) all in let q = first_digit_is_at_most_nine b (c ∷ d ∷ e ∷ []) p.1 in let r = first_digit_is_at_most_nine c (d ∷ e ∷ []) q.1 in let s = first_digit_is_at_most_nine d (e ∷ []) r.1 in
    let t = first_digit_is_at_most_nine e [] s.1 in
    omega (arith, p.0, q.0, r.0, s.0, t.0)
value_of_seven_digits_is_below_limit (a ∷ b ∷ c ∷ d ∷ e ∷ f ∷ []) all few =
    let p = first_digit_is_at_most_nine a (b ∷ c ∷ d ∷ e ∷ f ∷ []) all in let q = first_digit_is_at_most_nine b (c ∷ d ∷ e ∷ f ∷ []) p.1 in let r = first_digit_is_at_most_nine c (d ∷ e ∷ f ∷ []) q.1 in
    let s = first_digit_is_at_most_nine d (e ∷ f ∷ []) r.1 in let t = first_digit_is_at_most_nine e (f ∷ []) s.1 in let u = first_digit_is_at_most_nine f [] t.1 in
    omega (arith, p.0, q.0, r.0, s.0, t.0, u.0)
value_of_seven_digits_is_below_limit (a ∷ b ∷ c ∷ d ∷ e ∷ f ∷ g ∷ []) all few =
    let p = first_digit_is_at_most_nine a (b ∷ c ∷ d ∷ e ∷ f ∷ g ∷ []) all in let q = first_digit_is_at_most_nine b (c ∷ d ∷ e ∷ f ∷ g ∷ []) p.1 in let r = first_digit_is_at_most_nine c (d ∷ e ∷ f ∷ g ∷ []) q.1 in
    let s = first_digit_is_at_most_nine d (e ∷ f ∷ g ∷ []) r.1 in let t = first_digit_is_at_most_nine e (f ∷ g ∷ []) s.1 in let u = first_digit_is_at_most_nine f (g ∷ []) t.1 in let v = first_digit_is_at_most_nine g [] u.1 in
    omega (arith, p.0, q.0, r.0, s.0, t.0, u.0, v.0)
value_of_seven_digits_is_below_limit (a ∷ b ∷ c ∷ d ∷ e ∷ f ∷ g ∷ h ∷ ds) all few = absurd (omega (arith, few))

-- READING

-- what a word that is a number tells
pub record IsNumberOfShortDecimal (word : List ℕ) (n : ℕ) : Type 0 where
  pub spelled : decimal n ≡ word
  pub value : value_with_more_digits 0 word ≡ n
  pub few : length word ≤ 7

pub short_decimal_result_is_its_number : (word : List ℕ) (n : ℕ) → number_of_short_decimal word ≡ Some n → IsNumberOfShortDecimal word n
short_decimal_result_is_its_number word n is =
    elim (cases_Bool (nat_lt 7 (length word) || not (bytes_eq (decimal (value_with_more_digits 0 word)) word))) [
      | inl t ↦ let no : None ≡ Some n = rw t at is in absurd (cc)
      | inr f ↦
          let same : Some (value_with_more_digits 0 word) ≡ Some n = rw f at is in
          let value : value_with_more_digits 0 word ≡ n = cc in
          let both = or_parts (nat_lt 7 (length word)) (not (bytes_eq (decimal (value_with_more_digits 0 word)) word)) f in
          let equal : decimal (value_with_more_digits 0 word) ≡ word = (bytes_eq-Decides (decimal (value_with_more_digits 0 word)) word).0 (not-false (bytes_eq (decimal (value_with_more_digits 0 word)) word) both.1) in
          record { spelled = ap decimal (sym value) ∙ equal; value = value; few = ltb-false 7 (length word) both.0 }
    ]

-- the decimal of a number of at most seven digits is read
pub short_decimal_of_number_is_read_back : (n : ℕ) → n < 10 ^ 7 → number_of_short_decimal (decimal n) ≡ Some n
short_decimal_of_number_is_read_back n short =
    let small : n < 2 ^ 64 = omega (arith, short) in
    let value : value_with_more_digits 0 (decimal n) ≡ n = digits_value-decimal digit_value_is_numeral_model n small in
    let few : nat_lt 7 (length (decimal n)) ≡ false = le-ltb 7 (length (decimal n)) (length-decimal-le 7 n (omega arith) short small) in
    let again : bytes_eq (decimal (value_with_more_digits 0 (decimal n))) (decimal n) ≡ true =
    (bytes_eq-Decides (decimal (value_with_more_digits 0 (decimal n))) (decimal n)).1 (ap decimal value) in
    rw (few, again) (ap Some value)

-- a number that was read has at most seven digits
pub number_of_short_decimal_is_below_limit : (word : List ℕ) (n : ℕ) → IsNumberOfShortDecimal word n → n < 2 ^ 64 → n < 10 ^ 7
number_of_short_decimal_is_below_limit word n is small =
    let all : all_ascii_digits word ≡ true = subst (λ (ds : List ℕ). all_ascii_digits ds ≡ true) is.spelled (digits_decimal digit_value_is_numeral_model n small) in
    omega (arith, value_of_seven_digits_is_below_limit word all is.few, is.value)
