-- Time stamps as numbers (sudoers(5), Date_Spec).
use Rattle.std.specs.Prelude.{ℕ, zero, suc, ◌+◌, ◌-◌, ◌*◌, ◌&&◌, nat_le, List, [], ◌∷◌, Option, Some, None, if◌then◌else◌}

-- the digit that a byte is; what is no digit counts as zero
abbrev pub digit_or_zero_of_byte : ℕ → ℕ
digit_or_zero_of_byte b = if nat_le 48 b && nat_le b 57 then b - 48 else 0

abbrev pub digit_or_zero_of_optional_byte : Option ℕ → ℕ
digit_or_zero_of_optional_byte None = 0
digit_or_zero_of_optional_byte (Some b) = digit_or_zero_of_byte b

-- The number that goes on with so many digits, the first bytes of the text; those that are missing are zero.
abbrev pub number_extended_by_digits : ℕ → ℕ → List ℕ → ℕ
number_extended_by_digits zero number text = number
number_extended_by_digits (suc n) number [] = number_extended_by_digits n (number * 10) []
number_extended_by_digits (suc n) number (b ∷ bs) = number_extended_by_digits n (number * 10 + digit_or_zero_of_byte b) bs

-- A time stamp as a number of 14 digits: year, month, day, hour, minute and second. Minute and second may be missing.
abbrev pub zero_filled_number_of_stamp : List ℕ → ℕ
zero_filled_number_of_stamp text = number_extended_by_digits 14 0 text
