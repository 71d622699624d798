-- The words that sudo reads as addresses.
use Rattle.std.specs.Prelude.{ℕ, ◌==◌, ◌&&◌, ◌||◌, not, nat_le, Bool, false, List, length, Option, Some, None}
use Rattle.sudoers_grammar.specs.Number.{is_nonempty_digit_string, number_of_decimal_digits, parts_around_first_byte}
use Rattle.sudoers_grammar.specs.Piece.{has_first_byte}

-- a number up to this one, of at most so many digits: of so many, the first is no 0
abbrev pub is_number_of_digits_up_to : ℕ → ℕ → List ℕ → Bool
is_number_of_digits_up_to size limit text =
    is_nonempty_digit_string text && nat_le (length text) size && nat_le (number_of_decimal_digits 0 text) limit
    && not (length text == size && has_first_byte 48 text)

-- the first part is a number up to 255, and the second one passes the test
abbrev pub is_octet_and : (List ℕ → Bool) → Option (List ℕ × List ℕ) → Bool
is_octet_and test None = false
is_octet_and test (Some parts) = is_number_of_digits_up_to 3 255 parts.0 && test parts.1

abbrev pub is_dotted_pair : List ℕ → Bool
is_dotted_pair text = is_octet_and (is_number_of_digits_up_to 3 255) (parts_around_first_byte 46 text)

abbrev pub is_dotted_triple : List ℕ → Bool
is_dotted_triple text = is_octet_and is_dotted_pair (parts_around_first_byte 46 text)

abbrev pub is_dotted_quad : List ℕ → Bool
is_dotted_quad text = is_octet_and is_dotted_triple (parts_around_first_byte 46 text)

-- an address, or an address and a mask
abbrev pub is_quad_with_mask : List ℕ → Option (List ℕ × List ℕ) → Bool
is_quad_with_mask text None = is_dotted_quad text
is_quad_with_mask text (Some parts) = is_dotted_quad parts.0 && (is_dotted_quad parts.1 || is_number_of_digits_up_to 2 32 parts.1)

abbrev pub is_address : List ℕ → Bool
is_address text = is_quad_with_mask text (parts_around_first_byte 47 text)
