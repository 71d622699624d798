-- Numbers in the values of parameters, as C's library reads them.
use Rattle.std.specs.Prelude.{ℕ, ◌-◌, ◌==◌, ◌&&◌, ◌||◌, nat_le, nat_lt, Bool, List, [], ◌∷◌, length, take, Option, Some, None, if◌then◌else◌}
use Rattle.std.specs.List.{list_all}
use Rattle.sudoers_grammar.specs.Number.{is_nonempty_digit_string, number_of_decimal_digits}
use Rattle.sudoers_grammar.specs.Piece.{has_first_byte}

-- a blank, or a control byte from tab to CR
abbrev pub is_space : ℕ → Bool
is_space b = b == 32 || (nat_le 9 b && nat_le b 13)

abbrev pub text_after_spaces : List ℕ → List ℕ
text_after_spaces [] = []
text_after_spaces (b ∷ rest) = if is_space b then text_after_spaces rest else b ∷ rest

-- `+` or `-`
abbrev pub is_sign : ℕ → Bool
is_sign b = b == 43 || b == 45

abbrev pub text_after_sign : List ℕ → List ℕ
text_after_sign [] = []
text_after_sign (b ∷ rest) = if is_sign b then rest else b ∷ rest

-- the number that decimal digits are behind others, of which it is n, where it is not above the limit
abbrev pub number_extended_up_to : ℕ → ℕ → List ℕ → Option ℕ
number_extended_up_to limit n digits = if nat_le (number_of_decimal_digits n digits) limit then Some (number_of_decimal_digits n digits) else None

-- the number that one or more decimal digits are, where it is not above the limit
abbrev pub number_up_to : ℕ → List ℕ → Option ℕ
number_up_to limit text = if is_nonempty_digit_string text then number_extended_up_to limit 0 text else None

-- The number behind spaces and a sign: behind `-` it is not above the first limit, else not above the second.
abbrev pub signed_number_up_to : ℕ → ℕ → List ℕ → Option ℕ
signed_number_up_to below above text =
    number_up_to (if has_first_byte 45 (text_after_spaces text) then below else above) (text_after_sign (text_after_spaces text))

abbrev pub is_octal_digit : ℕ → Bool
is_octal_digit b = nat_le 48 b && nat_le b 55

abbrev pub is_zero : ℕ → Bool
is_zero b = b == 48

-- one or more octal digits, and all but the last ones, so many, are zeros
abbrev pub is_octal_number_of_digits : ℕ → List ℕ → Bool
is_octal_number_of_digits most text = nat_lt 0 (length text) && list_all is_octal_digit text && list_all is_zero (take (length text - most) text)
