-- Capitals and their small letters.
use Rattle.std.proofs.Common.{◌≡◌, ℕ, ◌+◌, ◌<◌, ◌≤◌, true, false, arith, refl, inl, inr}
use Rattle.std.proofs.lemmas.Bool.{cases_lt}
use Rattle.std.proofs.lemmas.Bool.Decides.{nat_tests}
use Rattle.sudoers_match_member.specs.Class.{is_upper}
use Rattle.sudoers_match_member.specs.Folded.{byte_case_folded_if_wanted}

byte_among_capitals_is_upper : (b : ℕ) → 65 ≤ b → b ≤ 90 → is_upper b ≡ true
byte_among_capitals_is_upper b low high = grind (arith, nat_tests)

byte_below_capitals_is_not_upper : (b : ℕ) → b < 65 → is_upper b ≡ false
byte_below_capitals_is_not_upper b low = grind (arith, nat_tests)

byte_above_capitals_is_not_upper : (b : ℕ) → 90 < b → is_upper b ≡ false
byte_above_capitals_is_not_upper b high = grind (arith, nat_tests)

pub capital_is_read_as_small : (b : ℕ) → 65 ≤ b → b ≤ 90 → byte_case_folded_if_wanted true b ≡ b + 32
unfolding byte_case_folded_if_wanted
capital_is_read_as_small b low high = rw (byte_among_capitals_is_upper b low high) refl

pub byte_below_capitals_is_read_as_it_is : (b : ℕ) → b < 65 → byte_case_folded_if_wanted true b ≡ b
unfolding byte_case_folded_if_wanted
byte_below_capitals_is_read_as_it_is b low = rw (byte_below_capitals_is_not_upper b low) refl

pub byte_above_capitals_is_read_as_it_is : (b : ℕ) → 90 < b → byte_case_folded_if_wanted true b ≡ b
unfolding byte_case_folded_if_wanted
byte_above_capitals_is_read_as_it_is b high = rw (byte_above_capitals_is_not_upper b high) refl

pub byte_is_read_as_it_is_where_case_counts : (b : ℕ) → byte_case_folded_if_wanted false b ≡ b
unfolding byte_case_folded_if_wanted
byte_is_read_as_it_is_where_case_counts b = refl

pub byte_is_read_as_byte : (b : ℕ) → b < 256 → byte_case_folded_if_wanted true b < 256
byte_is_read_as_byte b h =
    elim (cases_lt b 65) [
      | inl low ↦ omega (arith, h, byte_below_capitals_is_read_as_it_is b low)
      | inr up ↦ elim (cases_lt 90 b) [
        | inl high ↦ omega (arith, h, byte_above_capitals_is_read_as_it_is b high)
        | inr inside ↦ omega (arith, inside, capital_is_read_as_small b up inside)
      ]
    ]
