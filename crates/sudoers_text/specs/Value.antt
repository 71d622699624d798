-- What a word stands for, without its quotes and escapes.
use Rattle.std.specs.Prelude.{ℕ, zero, suc, ◌+◌, ◌-◌, ◌*◌, ◌==◌, ◌&&◌, ◌||◌, not, nat_le, Bool, false, List, [], ◌∷◌, ◌++◌, drop, if◌then◌else◌}
use Rattle.sudoers_text.specs.Unit.{is_blank, is_digit, begins_line_end, line_end_size}

-- a hexadecimal digit, and its number
abbrev pub is_hex : ℕ → Bool
is_hex b = is_digit b || (nat_le 65 b && nat_le b 70) || (nat_le 97 b && nat_le b 102)

abbrev pub hex_digit_value : ℕ → ℕ
hex_digit_value b = if is_digit b then b - 48 else (if nat_le 97 b then b - 87 else b - 55)

-- `x` and two hexadecimal digits, and the byte that they are
abbrev pub begins_hex_escape : List ℕ → Bool
begins_hex_escape (b ∷ high ∷ low ∷ rest) = b == 120 && is_hex high && is_hex low
begins_hex_escape bytes = false

abbrev pub byte_of_hex_escape : List ℕ → ℕ
byte_of_hex_escape (b ∷ high ∷ low ∷ rest) = hex_digit_value high * 16 + hex_digit_value low
byte_of_hex_escape bytes = 0

-- how many blanks the bytes begin with
abbrev pub leading_blanks_size : List ℕ → ℕ
leading_blanks_size [] = 0
leading_blanks_size (b ∷ rest) = if is_blank b then suc (leading_blanks_size rest) else 0

-- How many bytes a backslash takes of those behind it, and what they stand for together. A continuation takes the blanks
-- that follow it, and stands for nothing in quotes, else for a blank; in quotes other pairs than `\"` stand for their two
-- bytes; `\x` and two hexadecimal digits are one byte everywhere; a last backslash stands for itself.
abbrev pub escape_tail_size : List ℕ → ℕ
escape_tail_size [] = 0
escape_tail_size (b ∷ rest) =
    if begins_line_end (b ∷ rest) then line_end_size (b ∷ rest) + leading_blanks_size (drop (line_end_size (b ∷ rest)) (b ∷ rest))
    else (if begins_hex_escape (b ∷ rest) then 3
    else 1)

abbrev pub unescaped_bytes_of_escape : Bool → List ℕ → List ℕ
unescaped_bytes_of_escape quoted [] = 92 ∷ []
unescaped_bytes_of_escape quoted (b ∷ rest) =
    if begins_line_end (b ∷ rest) then (if quoted then [] else 32 ∷ [])
    else (if begins_hex_escape (b ∷ rest) then byte_of_hex_escape (b ∷ rest) ∷ []
    else (if quoted && not (b == 34) then 92 ∷ b ∷ []
    else b ∷ []))

-- The value of the bytes, of which the first k are passed over. quoted: they stand inside quotes.
abbrev pub value_of_remaining_bytes : ℕ → Bool → List ℕ → List ℕ
value_of_remaining_bytes k quoted [] = []
value_of_remaining_bytes (suc k) quoted (b ∷ rest) = value_of_remaining_bytes k quoted rest
value_of_remaining_bytes zero quoted (b ∷ rest) =
    if b == 34 then value_of_remaining_bytes 0 (not quoted) rest
    else (if b == 92 then unescaped_bytes_of_escape quoted rest ++ value_of_remaining_bytes (escape_tail_size rest) quoted rest
    else b ∷ value_of_remaining_bytes 0 quoted rest)

-- what the word stands for
unfoldable pub value_of_word : List ℕ → List ℕ
value_of_word word = value_of_remaining_bytes 0 false word
