-- Numbers are no less than what they begin with; digits are read in parts.
use Rattle.std.proofs.Common.{◌≡◌, Bool, true, ℕ, ◌+◌, ◌*◌, ◌-◌, ◌≤◌, ◌<◌, false, List, [], ◌∷◌, ◌++◌, length, drop, ap, refl, arith}
use Rattle.std.proofs.lemmas.Bool.Decides.{nat_tests}
use Rattle.std.proofs.lemmas.List.{drop_more}
use Rattle.std.specs.Prelude.{nat_le, slice_index_or, Option, None, Some, option_and_then, if◌then◌else◌}
use Rattle.sudoers_grammar.specs.Number.{number_of_decimal_digits}
use Rattle.sudoers_grammar.proofs.Numbers.{decimal_number_grows_with_digits}
use Rattle.sudoers_defaults.specs.Numbers.{number_extended_up_to}

-- A number whose first digits are above the limit is above it.
pub extended_number_above_limit : (limit start : ℕ) (digits : List ℕ) (i n more : ℕ) → i < length digits
    → number_of_decimal_digits n (drop i digits) ≡ number_of_decimal_digits start digits
    → more ≡ n * 10 + (slice_index_or digits i 0 - 48) → limit < more → ◌≡◌ {A = Option ℕ} None (number_extended_up_to limit start digits)
extended_number_above_limit limit start digits i n more l e m h =
    let step : number_of_decimal_digits n (drop i digits) ≡ number_of_decimal_digits (n * 10 + (slice_index_or digits i 0 - 48)) (drop (i + 1) digits)
    = ap (number_of_decimal_digits n) (drop_more digits i 0 l) in
    let least = decimal_number_grows_with_digits (n * 10 + (slice_index_or digits i 0 - 48)) (drop (i + 1) digits) in
    let over : limit < number_of_decimal_digits start digits = omega (arith, least, step, e, m, h) in
    let test : nat_le (number_of_decimal_digits start digits) limit ≡ false = grind (arith, nat_tests, over) in
    rw test refl

-- digits in two parts
pub number_of_digits_in_parts : (n : ℕ) (front rest : List ℕ) → number_of_decimal_digits n (front ++ rest) ≡ number_of_decimal_digits (number_of_decimal_digits n front) rest
number_of_digits_in_parts n [] rest = refl
number_of_digits_in_parts n (digit ∷ digits) rest = number_of_digits_in_parts (n * 10 + (digit - 48)) digits rest

-- Where the digits in front are above the limit, all are.
pub number_extended_in_parts : (limit n : ℕ) (front rest : List ℕ)
    → ◌≡◌ {A = Option ℕ} (number_extended_up_to limit n (front ++ rest)) (option_and_then (λ m. number_extended_up_to limit m rest) (number_extended_up_to limit n front))
number_extended_in_parts limit n front rest = let e = number_of_digits_in_parts n front rest in let more = decimal_number_grows_with_digits (number_of_decimal_digits n front) rest in
    rw e (by_test limit (number_of_decimal_digits n front) rest more (nat_le (number_of_decimal_digits n front) limit) refl)
  where
    by_test : (limit m : ℕ) (rest : List ℕ) → m ≤ number_of_decimal_digits m rest → (test : Bool) → nat_le m limit ≡ test
        → ◌≡◌ {A = Option ℕ} (number_extended_up_to limit m rest) (option_and_then (λ k. number_extended_up_to limit k rest) (if test then Some m else None))
    by_test limit m rest more true e = refl
    by_test limit m rest more false e = let over : nat_le (number_of_decimal_digits m rest) limit ≡ false = grind (arith, nat_tests, e, more) in rw over refl
