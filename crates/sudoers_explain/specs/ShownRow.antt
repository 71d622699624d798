-- A row of a file as it is printed, and the blanks under it.
use Rattle.std.specs.Prelude.{ℕ, ◌+◌, ◌-◌, ◌/◌, ◌%◌, ◌==◌, ◌&&◌, ◌||◌, not, nat_lt, nat_le, map, Bool, List, [], ◌∷◌, if◌then◌else◌}
use Rattle.std.specs.List.{filter}

-- the lower-case hexadecimal digit of a number below 16
abbrev pub hex_digit : ℕ → ℕ
hex_digit n = if nat_lt n 10 then 48 + n else 97 + (n - 10)

-- what is printed for a byte: a tab as it is, other control bytes as `\x` and two digits
abbrev pub shown_byte : ℕ → List ℕ
shown_byte b = if (nat_lt b 32 && not (b == 9)) || b == 127 then 92 ∷ 120 ∷ hex_digit (b / 16) ∷ hex_digit (b % 16) ∷ [] else b ∷ []

-- The byte begins a character of UTF-8: it is no continuation byte.
abbrev pub is_first_byte_of_character : ℕ → Bool
is_first_byte_of_character b = nat_lt b 128 || nat_le 192 b

-- a tab for a tab, a blank for anything else
abbrev pub blank_of_byte : ℕ → ℕ
blank_of_byte b = if b == 9 then 9 else 32

-- the text with each character replaced by a blank, tabs kept
abbrev pub blanks_of_text : List ℕ → List ℕ
blanks_of_text text = map blank_of_byte (filter is_first_byte_of_character text)

-- For the proof alone: blanks as wide as what is printed for a byte.
abbrev pub blanks_of_byte : ℕ → List ℕ
blanks_of_byte b =
    if b == 9 then 9 ∷ []
    else (if nat_lt b 32 || b == 127 then 32 ∷ 32 ∷ 32 ∷ 32 ∷ []
    else (if nat_lt b 128 || nat_le 192 b then 32 ∷ [] else []))
