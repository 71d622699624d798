-- Time stamps, one digit more at a time.
use Rattle.std.proofs.Common.{◌≡◌, ℕ, zero, suc, ◌+◌, ◌-◌, ◌*◌, ◌^◌, ◌<◌, ◌≤◌, List, [], ◌∷◌, drop, slice_get, refl, sym, ap, ◌∙◌, arith, lit≤}
use Rattle.std.proofs.Math.Nat.{pow-le-pow_right}
use Rattle.std.proofs.Math.Numerals.{add-one}
use native.Mathlib.Nat.{pow-suc}
use Rattle.sudoers_match_member.specs.Moment.{digit_or_zero_of_optional_byte, number_extended_by_digits, zero_filled_number_of_stamp}

stamp_number_extends_by_next_digit : (n number : ℕ) (text : List ℕ) (place : ℕ) → number_extended_by_digits (suc n) number (drop place text) ≡ number_extended_by_digits n (number * 10 + digit_or_zero_of_optional_byte (slice_get text place)) (drop (suc place) text)
stamp_number_extends_by_next_digit n number [] zero = let e : number * 10 ≡ number * 10 + 0 = omega arith in ap (λ x. number_extended_by_digits n x []) e
stamp_number_extends_by_next_digit n number [] (suc place) = let e : number * 10 ≡ number * 10 + 0 = omega arith in ap (λ x. number_extended_by_digits n x []) e
stamp_number_extends_by_next_digit n number (b ∷ bs) zero = refl
stamp_number_extends_by_next_digit n number (b ∷ bs) (suc place) = stamp_number_extends_by_next_digit n number bs place

pub partial_stamp_number_stays_right_after_digit : (stamp : List ℕ) (place number : ℕ) → place < 14 → number_extended_by_digits (14 - place) number (drop place stamp) ≡ zero_filled_number_of_stamp stamp
    → number_extended_by_digits (14 - (place + 1)) (number * 10 + digit_or_zero_of_optional_byte (slice_get stamp place)) (drop (place + 1) stamp) ≡ zero_filled_number_of_stamp stamp
partial_stamp_number_stays_right_after_digit stamp place number h e =
    let fewer : 14 - place ≡ suc (14 - (place + 1)) = omega (arith, h) in
    ap (λ p. number_extended_by_digits (14 - (place + 1)) (number * 10 + digit_or_zero_of_optional_byte (slice_get stamp place)) (drop p stamp)) (add-one place)
    ∙ sym (stamp_number_extends_by_next_digit (14 - (place + 1)) number stamp place) ∙ ap (λ n. number_extended_by_digits n number (drop place stamp)) (sym fewer) ∙ e

pub number_with_digit_is_below_next_power : (place number digit : ℕ) → number < 10 ^ place → digit < 10 → number * 10 + digit < 10 ^ (place + 1)
number_with_digit_is_below_next_power place number digit h k =
    let e : 10 ^ (place + 1) ≡ 10 ^ place * 10 = ap (λ p. 10 ^ p) (add-one place) ∙ pow-suc 10 place in
    omega (arith, h, k, e)

pub partial_stamp_number_is_below_limit : (place number : ℕ) → place < 14 → number < 10 ^ place → number < 10000000000000
partial_stamp_number_is_below_limit place number h k =
    let few : place ≤ 13 = omega (arith, h) in
    let most : 10 ^ place ≤ 10 ^ 13 = pow-le-pow_right (lit≤ tt) few in
    omega (arith, most, k)
