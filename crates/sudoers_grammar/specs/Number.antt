-- Numbers, addresses and time stamps as they are written.
use Rattle.std.specs.Prelude.{ℕ, ◌+◌, ◌-◌, ◌*◌, ◌==◌, ◌&&◌, ◌||◌, not, nat_le, nat_lt, Bool, List, [], ◌∷◌, length, take, slice_range, Option, Some, None, option_map, option_and_then, if◌then◌else◌}
use Rattle.std.specs.List.{list_all}
use Rattle.sudoers_text.specs.Unit.{is_digit}
use Rattle.sudoers_grammar.specs.declared.node.Atom.{Atom}
use Rattle.sudoers_grammar.specs.declared.node.Atom.TheVariants as atom
use Rattle.sudoers_grammar.specs.declared.node.Mask.{Mask}
use Rattle.sudoers_grammar.specs.declared.node.Mask.TheVariants as mask
use Rattle.sudoers_grammar.specs.Piece.{has_first_byte, has_last_byte, has_byte}

-- the number that decimal digits are behind others, of which it is n
abbrev pub number_of_decimal_digits : ℕ → List ℕ → ℕ
number_of_decimal_digits n [] = n
number_of_decimal_digits n (digit ∷ digits) = number_of_decimal_digits (n * 10 + (digit - 48)) digits

-- one or more digits, and nothing else
abbrev pub is_nonempty_digit_string : List ℕ → Bool
is_nonempty_digit_string text = nat_lt 0 (length text) && list_all is_digit text

-- the highest number that an ID may have
abbrev pub id_limit : ℕ
id_limit = 4294967295

-- the number, where it is not above the limit
abbrev pub number_if_within_limit : ℕ → List ℕ → Option ℕ
number_if_within_limit limit digits = if nat_le (number_of_decimal_digits 0 digits) limit then Some (number_of_decimal_digits 0 digits) else None

-- digits without a leading zero, up to the limit
abbrev pub canonical_number_up_to : ℕ → List ℕ → Option ℕ
canonical_number_up_to limit text = if is_nonempty_digit_string text && (not (has_first_byte 48 text) || length text == 1) then number_if_within_limit limit text else None

-- the bytes before the first byte b, and those behind it
abbrev pub parts_with_byte_prepended : ℕ → List ℕ × List ℕ → List ℕ × List ℕ
parts_with_byte_prepended b parts = (b ∷ parts.0, parts.1)

abbrev pub parts_around_first_byte : ℕ → List ℕ → Option (List ℕ × List ℕ)
parts_around_first_byte b [] = None
parts_around_first_byte b (x ∷ text) = if x == b then Some ([], text) else option_map (parts_with_byte_prepended x) (parts_around_first_byte b text)

-- four numbers up to 255, as one
abbrev pub address_of_octets : Option ℕ → Option ℕ → Option ℕ → Option ℕ → Option ℕ
address_of_octets (Some a) (Some b) (Some c) (Some d) = Some (((a * 256 + b) * 256 + c) * 256 + d)
address_of_octets a b c d = None

-- `a.b.c.d`: an address (sudoers(5), Host_List)
unfoldable pub ipv4_number_of_text : List ℕ → Option ℕ
ipv4_number_of_text text =
    option_and_then (λ p. option_and_then (λ q. option_and_then (λ r.
    address_of_octets (canonical_number_up_to 255 p.0) (canonical_number_up_to 255 q.0) (canonical_number_up_to 255 r.0) (canonical_number_up_to 255 r.1))
    (parts_around_first_byte 46 q.1)) (parts_around_first_byte 46 p.1)) (parts_around_first_byte 46 text)

-- how many bits, or an address
abbrev pub mask_of_bits_or_address : List ℕ → Option ℕ → Option Mask
mask_of_bits_or_address text (Some bits) = Some (mask.Bits bits)
mask_of_bits_or_address text None = option_map (λ n. mask.Dotted (record { number = n })) (ipv4_number_of_text text)

unfoldable pub network_mask_of_text : List ℕ → Option Mask
network_mask_of_text text = mask_of_bits_or_address text (canonical_number_up_to 32 text)

-- an address, `/` and a mask
unfoldable pub network_atom_of_text : List ℕ → Option Atom
network_atom_of_text text =
    option_and_then (λ p. option_and_then (λ n. option_map (atom.Network (record { number = n })) (network_mask_of_text p.1))
    (ipv4_number_of_text p.0)) (parts_around_first_byte 47 text)

-- digits, `.` and `/` alone, and a `/` among them
abbrev pub is_network_like_text : List ℕ → Bool
is_network_like_text text = list_all (λ b. is_digit b || b == 46 || b == 47) text && has_byte 47 text

-- two digits there are a number from the one to the other
abbrev pub is_two_digits_within_range : ℕ → ℕ → ℕ → List ℕ → Bool
is_two_digits_within_range low high at text =
    nat_le low (number_of_decimal_digits 0 (slice_range text at (at + 2))) && nat_le (number_of_decimal_digits 0 (slice_range text at (at + 2))) high

abbrev pub is_time_stamp_size : ℕ → Bool
is_time_stamp_size n = n == 11 || n == 13 || n == 15

-- month, day and hour
abbrev pub has_valid_stamp_month_day_hour : List ℕ → Bool
has_valid_stamp_month_day_hour text = is_two_digits_within_range 1 12 4 text && is_two_digits_within_range 1 31 6 text && is_two_digits_within_range 0 23 8 text

-- minutes and seconds, where they stand there
abbrev pub has_valid_stamp_minutes_and_seconds : List ℕ → Bool
has_valid_stamp_minutes_and_seconds text = (length text == 11 || is_two_digits_within_range 0 59 10 text) && (nat_lt (length text) 15 || is_two_digits_within_range 0 59 12 text)

-- A time stamp: `yyyymmddHH`, `yyyymmddHHMM` or `yyyymmddHHMMSS`, and `Z` (sudoers(5), Date_Spec).
unfoldable pub is_time_stamp_text : List ℕ → Bool
is_time_stamp_text text =
    is_time_stamp_size (length text) && has_last_byte 90 text && list_all is_digit (take (length text - 1) text)
    && has_valid_stamp_month_day_hour text && has_valid_stamp_minutes_and_seconds text
