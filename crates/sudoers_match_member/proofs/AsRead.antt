-- Bytes as they are read.
use Rattle.std.proofs.Common.{◌≡◌, ◌≢◌, ℕ, zero, suc, ◌-◌, ◌<◌, Bool, false, List, [], ◌∷◌, length, drop, take, get_or, refl, sym, ap, ◌∙◌, arith}
use Rattle.std.proofs.lemmas.List.{take_rest, drop-map, take-map}
use Rattle.sudoers_match_member.specs.Folded.{byte_case_folded_if_wanted, bytes_case_folded_if_wanted}

pub case_folding_keeps_length : (lower : Bool) (bytes : List ℕ) → length (bytes_case_folded_if_wanted lower bytes) ≡ length bytes
case_folding_keeps_length lower [] = refl
case_folding_keeps_length lower (b ∷ bytes) = let e = case_folding_keeps_length lower bytes in omega (arith, e)

-- what is read from a place on
pub case_folding_keeps_rest_from_place : (lower : Bool) (bytes : List ℕ) (i : ℕ) → bytes_case_folded_if_wanted lower (take (length bytes - i) (drop i bytes)) ≡ drop i (bytes_case_folded_if_wanted lower bytes)
case_folding_keeps_rest_from_place lower bytes i = ap (bytes_case_folded_if_wanted lower) (take_rest bytes i) ∙ sym (drop-map (byte_case_folded_if_wanted lower) i bytes)

pub case_folding_keeps_first_bytes : (lower : Bool) (bytes : List ℕ) (i : ℕ) → bytes_case_folded_if_wanted lower (take i bytes) ≡ take i (bytes_case_folded_if_wanted lower bytes)
case_folding_keeps_first_bytes lower bytes i = sym (take-map (byte_case_folded_if_wanted lower) i bytes)

pub byte_of_folded_bytes_is_folded_byte : (lower : Bool) (bytes : List ℕ) (i : ℕ) → i < length bytes → get_or (bytes_case_folded_if_wanted lower bytes) i 0 ≡ byte_case_folded_if_wanted lower (get_or bytes i 0)
byte_of_folded_bytes_is_folded_byte lower [] i h = absurd (omega arith)
byte_of_folded_bytes_is_folded_byte lower (b ∷ bytes) zero h = refl
byte_of_folded_bytes_is_folded_byte lower (b ∷ bytes) (suc i) h = byte_of_folded_bytes_is_folded_byte lower bytes i (omega arith)

-- where a byte is no `*`, it is read as none
pub folding_keeps_byte_that_is_no_star : (lower : Bool) (pattern : List ℕ) (at b : ℕ) → at < length pattern → b ≡ byte_case_folded_if_wanted lower (get_or pattern at 0) → (b ≡ 42 → ⊥) → get_or (bytes_case_folded_if_wanted lower pattern) at 0 ≢ 42
folding_keeps_byte_that_is_no_star lower pattern at b h is n e = n (is ∙ sym (byte_of_folded_bytes_is_folded_byte lower pattern at h) ∙ e)

pub bytes_with_case_kept_are_unchanged : (bytes : List ℕ) → bytes_case_folded_if_wanted false bytes ≡ bytes
unfolding byte_case_folded_if_wanted
bytes_with_case_kept_are_unchanged [] = refl
bytes_with_case_kept_are_unchanged (b ∷ bytes) = ap (λ bs. b ∷ bs) (bytes_with_case_kept_are_unchanged bytes)
