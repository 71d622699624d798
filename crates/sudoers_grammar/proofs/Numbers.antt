-- Numbers are no less than what they begin with; texts are split at the first byte.
use Rattle.std.proofs.Common.{◌≡◌, ℕ, zero, suc, ◌+◌, ◌*◌, ◌-◌, ◌≤◌, ◌<◌, false, List, [], ◌∷◌, ◌++◌, length, drop, refl, arith}
use Rattle.std.proofs.lemmas.Bool.Decides.{nat_tests}
use Rattle.std.specs.Prelude.{nat_le, slice_index_or, Option, None}
use Rattle.sudoers_grammar.specs.Number.{number_of_decimal_digits, number_if_within_limit}

pub decimal_number_grows_with_digits : (n : ℕ) (digits : List ℕ) → n ≤ number_of_decimal_digits n digits
decimal_number_grows_with_digits n [] = omega arith
decimal_number_grows_with_digits n (digit ∷ digits) = let more = decimal_number_grows_with_digits (n * 10 + (digit - 48)) digits in omega (arith, more)

next_digit_value_is_within_number : (digits : List ℕ) (i n : ℕ) → i < length digits → n * 10 + (slice_index_or digits i 0 - 48) ≤ number_of_decimal_digits n (drop i digits)
next_digit_value_is_within_number [] i n l = absurd (omega arith)
next_digit_value_is_within_number (digit ∷ digits) zero n l = decimal_number_grows_with_digits (n * 10 + (digit - 48)) digits
next_digit_value_is_within_number (digit ∷ digits) (suc i) n l = next_digit_value_is_within_number digits i n (omega arith)

-- A number whose first digits are above the limit is above it.
pub number_above_limit_at_digit_is_none : (limit : ℕ) (digits : List ℕ) (i n more : ℕ) → i < length digits → number_of_decimal_digits n (drop i digits) ≡ number_of_decimal_digits 0 digits
    → more ≡ n * 10 + (slice_index_or digits i 0 - 48) → limit < more → ◌≡◌ {A = Option ℕ} None (number_if_within_limit limit digits)
number_above_limit_at_digit_is_none limit digits i n more l e m h =
    let least = next_digit_value_is_within_number digits i n l in
    let over : limit < number_of_decimal_digits 0 digits = omega (arith, least, e, m, h) in
    let test : nat_le (number_of_decimal_digits 0 digits) limit ≡ false = grind (arith, nat_tests, over) in
    rw test refl

-- all these bytes before it
abbrev pub parts_with_front_prepended : List ℕ → List ℕ × List ℕ → List ℕ × List ℕ
parts_with_front_prepended front parts = (front ++ parts.0, parts.1)
