-- The numbers of a script.
use Rattle.std.proofs.Common.{◌≡◌, ℕ, ◌+◌, ◌*◌, ◌/◌, ◌%◌, ◌^◌, ◌<◌, ◌≤◌, true, false, ◌==◌, ◌||◌, List, [], ◌∷◌, ◌++◌, ◌-◌, Option, Some, None, refl, sym, ap, ◌∙◌, arith, inl, inr}
use Rattle.std.specs.Prelude.{nat_lt, nat_le, option_and_then}
use Rattle.std.specs.List.{list_any}
use Rattle.std.specs.Str.{all_ascii_digits}
use Rattle.std.specs.Char.{is_ascii_digit}
use Rattle.std.specs.Fmt.{decimal}
use Rattle.std.proofs.lemmas.Bool.{cases_Bool, or_parts, ltb-false, le-ltb, eqb-false, ne_eqb, le-leb, and_parts, and_from, leb-true}
use Rattle.std.proofs.lemmas.Fmt.{decimal_by_steps, decimal-digits_value, digits_decimal}
use Rattle.std.proofs.lemmas.Str.Parse.{IsNumeralModel, numerals_by_fold}
use Rattle.std.proofs.Common.{rules}
use Rattle.sudoers_edit_script.specs.Script.{one_based_decimal}
use Rattle.sudoers_edit_script.specs.ScriptReading.{place_number_from_digits, place_below_number, place_of_word}

-- the number that digits write behind those of this one
abbrev value_of_digits_after_number : ℕ → List ℕ → ℕ
value_of_digits_after_number n [] = n
value_of_digits_after_number n (c ∷ cs) = value_of_digits_after_number (10 * n + (c - 48)) cs

-- it is the value that std's lemmas on decimals ask for
digit_value_is_numeral_model : IsNumeralModel (λ ds. all_ascii_digits ds ≡ true) (value_of_digits_after_number 0)
digit_value_is_numeral_model = numerals_by_fold _ (search rules) value_of_digits_after_number (search rules)

-- one digit more
accepted_digit_extends_place_number : (n b : ℕ) (bs : List ℕ) → 48 ≤ b → b ≤ 57 → 0 < n * 10 + (b - 48) → n * 10 + (b - 48) ≤ 4294967296 → place_number_from_digits n (b ∷ bs) ≡ place_number_from_digits (n * 10 + (b - 48)) bs
accepted_digit_extends_place_number n b bs low high some fits =
    let l : nat_lt b 48 ≡ false = le-ltb b 48 low in
    let h : nat_lt 57 b ≡ false = le-ltb 57 b high in
    let s : (n * 10 + (b - 48) == 0) ≡ false = ne_eqb _ _ (λ e. omega arith) in
    let f : nat_lt 4294967296 (n * 10 + (b - 48)) ≡ false = le-ltb 4294967296 (n * 10 + (b - 48)) fits in
    rw (l, h, s, f) refl

-- what a digit tells that is read
record IsDigitOfReadNumber (n b : ℕ) (bs : List ℕ) (v : ℕ) : Type 0 where
  low : 48 ≤ b
  high : b ≤ 57
  some : 0 < n * 10 + (b - 48)
  fits : n * 10 + (b - 48) ≤ 4294967296
  more : place_number_from_digits (n * 10 + (b - 48)) bs ≡ Some v

-- a digit behind which a number is read passes the three tests
leading_digit_of_read_number_is_accepted : (n b : ℕ) (bs : List ℕ) (v : ℕ) → place_number_from_digits n (b ∷ bs) ≡ Some v → IsDigitOfReadNumber n b bs v
leading_digit_of_read_number_is_accepted n b bs v e =
    elim (cases_Bool (nat_lt b 48 || nat_lt 57 b)) [
      | inl t ↦ let no : None ≡ Some v = rw t at e in cc
      | inr f ↦ let e2 = rw f at e in
          elim (cases_Bool ((n * 10 + (b - 48) == 0) || nat_lt 4294967296 (n * 10 + (b - 48)))) [
            | inl t ↦ let no : None ≡ Some v = rw t at e2 in cc
            | inr g ↦
                let digit = or_parts (nat_lt b 48) (nat_lt 57 b) f in
                let size = or_parts (n * 10 + (b - 48) == 0) (nat_lt 4294967296 (n * 10 + (b - 48))) g in
                let some : n * 10 + (b - 48) ≡ 0 → ⊥ = eqb-false _ _ size.0 in
                record {
                  low = ltb-false b 48 digit.0;
                  high = ltb-false 57 b digit.1;
                  some = omega (arith, some);
                  fits = ltb-false 4294967296 (n * 10 + (b - 48)) size.1;
                  more = rw g at e2;
                }
          ]
    ]

-- a byte from `0` to `9` is a digit
byte_between_zero_and_nine_is_digit : (b : ℕ) → 48 ≤ b → b ≤ 57 → is_ascii_digit b ≡ true
byte_between_zero_and_nine_is_digit b low high = and_from (nat_le 48 b) (nat_le b 57) (le-leb 48 b low) (le-leb b 57 high)

-- what is read is all digits, has their value, and fits
read_number_is_digits_of_its_value : (w : List ℕ) (n v : ℕ) → place_number_from_digits n w ≡ Some v → n ≤ 4294967296 → (all_ascii_digits w ≡ true) × (value_of_digits_after_number n w ≡ v) × (v ≤ 4294967296)
read_number_is_digits_of_its_value [] n v e fits = let same : n ≡ v = cc in (refl, same, omega (arith, same))
read_number_is_digits_of_its_value (b ∷ bs) n v e fits =
    let r = leading_digit_of_read_number_is_accepted n b bs v e in
    let rest = read_number_is_digits_of_its_value bs (n * 10 + (b - 48)) v r.more r.fits in
    let turned : 10 * n + (b - 48) ≡ n * 10 + (b - 48) = omega arith in (
      and_from (is_ascii_digit b) (all_ascii_digits bs) (byte_between_zero_and_nine_is_digit b r.low r.high) rest.0,
      ap (λ (m : ℕ). value_of_digits_after_number m bs) turned ∙ rest.1,
      rest.2,
    )

-- a number that is read is spelled so
read_positive_number_is_its_decimal : (w : List ℕ) (v : ℕ) → place_number_from_digits 0 w ≡ Some v → 0 < v → (decimal v ≡ w) × (v ≤ 4294967296)
read_positive_number_is_its_decimal [] v e some = let same : 0 ≡ v = cc in absurd (omega (arith, same))
read_positive_number_is_its_decimal (b ∷ bs) v e some =
    let r = leading_digit_of_read_number_is_accepted 0 b bs v e in
    let all = read_number_is_digits_of_its_value (b ∷ bs) 0 v e (omega arith) in
    let fits : v < 2 ^ 64 = omega (arith, all.2) in
    let wide : value_of_digits_after_number 0 (b ∷ bs) < 2 ^ 64 = rw all.1 fits in
    let nonzero : b ≡ 48 → ⊥ = λ z. omega (arith, r.some, z) in (
      ap decimal (sym all.1) ∙ decimal-digits_value digit_value_is_numeral_model (b ∷ bs) all.0 (omega arith) (λ z. absurd (nonzero z)) wide,
      all.2,
    )

-- the same of a place, which is one below
read_place_below_number_is_its_decimal : (w : List ℕ) (at : ℕ) (o : Option ℕ) → place_number_from_digits 0 w ≡ o → option_and_then place_below_number o ≡ Some at → (w ≡ one_based_decimal at) × (at + 1 ≤ 2 ^ 32)
read_place_below_number_is_its_decimal w at None e h = cc
read_place_below_number_is_its_decimal w at (Some v) e h =
    elim (cases_Bool (v == 0)) [
      | inl t ↦ let no : None ≡ Some at = rw t at h in cc
      | inr f ↦
          let same : Some (v - 1) ≡ Some at = rw f at h in
          let one_less : v - 1 ≡ at = cc in
          let some : v ≡ 0 → ⊥ = eqb-false v 0 f in
          let next : at + 1 ≡ v = omega (arith, some, one_less) in
          let r = read_positive_number_is_its_decimal w v e (omega (arith, some)) in
          (sym r.0 ∙ ap decimal (sym next), omega (arith, r.1, next))
    ]

-- a word that stands for a place is its number
pub word_of_place_is_its_decimal : (w : List ℕ) (at : ℕ) → place_of_word w ≡ Some at → (w ≡ one_based_decimal at) × (at + 1 ≤ 2 ^ 32)
word_of_place_is_its_decimal w at h = read_place_below_number_is_its_decimal w at (place_number_from_digits 0 w) refl h

-- digits are read one part after another
appended_digits_are_read_in_turn : (n : ℕ) (ds es : List ℕ) → place_number_from_digits n (ds ++ es) ≡ option_and_then (λ v. place_number_from_digits v es) (place_number_from_digits n ds)
appended_digits_are_read_in_turn n [] es = refl
appended_digits_are_read_in_turn n (b ∷ bs) es =
    elim (cases_Bool (nat_lt b 48 || nat_lt 57 b)) [
      | inl t ↦ rw t refl
      | inr f ↦ rw f (elim (cases_Bool ((n * 10 + (b - 48) == 0) || nat_lt 4294967296 (n * 10 + (b - 48)))) [
        | inl t ↦ rw t refl
        | inr g ↦ rw g (appended_digits_are_read_in_turn (n * 10 + (b - 48)) bs es)
      ])
    ]

-- a number of one digit is read
one_digit_decimal_is_read_back : (n : ℕ) → n < 10 → 0 < n → n ≤ 4294967296 → place_number_from_digits 0 ((48 + n) ∷ []) ≡ Some n
one_digit_decimal_is_read_back n small some fits =
    let e : 0 * 10 + (48 + n - 48) ≡ n = omega arith in
    accepted_digit_extends_place_number 0 (48 + n) [] (omega arith) (omega arith) (omega arith) (omega arith) ∙ ap Some e

-- a number of several digits is read, if its front is
several_digit_decimal_is_read_back : (n : ℕ) (ds : List ℕ) → 10 ≤ n → (0 < n / 10 → n / 10 ≤ 4294967296 → place_number_from_digits 0 ds ≡ Some (n / 10)) → 0 < n → n ≤ 4294967296 → place_number_from_digits 0 (ds ++ (48 + n % 10) ∷ []) ≡ Some n
several_digit_decimal_is_read_back n ds big front some fits =
    let read : place_number_from_digits 0 ds ≡ Some (n / 10) = front (omega arith) (omega arith) in
    let e : n / 10 * 10 + (48 + n % 10 - 48) ≡ n = omega arith in
    appended_digits_are_read_in_turn 0 ds ((48 + n % 10) ∷ [])
    ∙ ap (option_and_then (λ v. place_number_from_digits v ((48 + n % 10) ∷ []))) read
    ∙ accepted_digit_extends_place_number (n / 10) (48 + n % 10) [] (omega arith) (omega arith) (omega arith) (omega arith)
    ∙ ap Some e

-- the number that digits spell is read
pub decimal_is_read_back : (n : ℕ) → 0 < n → n ≤ 4294967296 → place_number_from_digits 0 (decimal n) ≡ Some n
decimal_is_read_back n some fits =
    let wide : n < 2 ^ 64 = omega arith in
    decimal_by_steps (λ m ds. 0 < m → m ≤ 4294967296 → place_number_from_digits 0 ds ≡ Some m) one_digit_decimal_is_read_back several_digit_decimal_is_read_back n wide some fits

-- the number of a place is read as it
pub one_based_decimal_is_read_back : (at : ℕ) → at + 1 ≤ 2 ^ 32 → place_of_word (one_based_decimal at) ≡ Some at
one_based_decimal_is_read_back at h =
    let e : place_number_from_digits 0 (decimal (at + 1)) ≡ Some (at + 1) = decimal_is_read_back (at + 1) (omega arith) (omega arith) in
    let some : (at + 1 == 0) ≡ false = ne_eqb (at + 1) 0 (λ z. omega (arith, z)) in
    let back : at + 1 - 1 ≡ at = omega arith in
    rw e (rw some (ap Some back))

-- digits have no byte below them, as no space and no LF
digits_have_no_byte_below_zero : (b : ℕ) (ds : List ℕ) → b < 48 → all_ascii_digits ds ≡ true → list_any (λ y. y == b) ds ≡ false
digits_have_no_byte_below_zero b [] h d = refl
digits_have_no_byte_below_zero b (c ∷ cs) h d =
    let p = and_parts (is_ascii_digit c) (all_ascii_digits cs) d in
    let q = and_parts (nat_le 48 c) (nat_le c 57) p.0 in
    let low : 48 ≤ c = leb-true 48 c q.0 in
    let other : (c == b) ≡ false = ne_eqb c b (λ e. omega (arith, e)) in
    rw other (digits_have_no_byte_below_zero b cs h p.1)

-- so a number has no such byte
pub one_based_decimal_has_digits_only : (b at : ℕ) → b < 48 → at + 1 ≤ 2 ^ 32 → list_any (λ y. y == b) (one_based_decimal at) ≡ false
one_based_decimal_has_digits_only b at h fits =
    let wide : at + 1 < 2 ^ 64 = omega arith in
    digits_have_no_byte_below_zero b (one_based_decimal at) h (digits_decimal digit_value_is_numeral_model (at + 1) wide)
