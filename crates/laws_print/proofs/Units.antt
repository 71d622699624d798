-- The units that words are made of: a device of the laws.
use Rattle.std.specs.Prelude.{◌≡◌, ℕ, ◌/◌, ◌%◌, ◌==◌, ◌||◌, not, Bool, true, false, List, [], ◌∷◌, ◌++◌, map, if◌then◌else◌}
use Rattle.std.specs.List.{AllByRecursion}
use Rattle.sudoers_text.specs.Unit.{LineUnit, Pair, Byte}
use Rattle.sudoers_cvt_spell.specs.Spelling.{is_word_escape_needed, is_control, lower_hex_digit}

-- The unit may stand in a run of bytes that pass the test, and pairs.
abbrev pub is_run_unit : (ℕ → Bool) → LineUnit → Bool
is_run_unit test (Byte b) = test b
is_run_unit test (Pair c) = not (c == 10 || c == 13)
is_run_unit test u = false

-- It is so, and no NUL.
abbrev pub is_written_unit : (ℕ → Bool) → LineUnit → Bool
is_written_unit test (Byte b) = test b
is_written_unit test (Pair c) = not (c == 0 || c == 10 || c == 13)
is_written_unit test u = false

abbrev pub AreWrittenUnitsOf : (ℕ → Bool) → List LineUnit → Type 0
AreWrittenUnitsOf test us = AllByRecursion (λ u. is_written_unit test u ≡ true) us

-- bytes that stand for themselves
abbrev pub units_of_plain_bytes : List ℕ → List LineUnit
units_of_plain_bytes bytes = map Byte bytes

-- the hexadecimal digits of a byte
abbrev pub units_of_hex_escape : ℕ → List LineUnit
units_of_hex_escape b = Pair 120 ∷ Byte (lower_hex_digit (b / 16)) ∷ Byte (lower_hex_digit (b % 16)) ∷ []

-- the units that spell a byte of a word
abbrev pub units_of_spelled_byte : ℕ → List LineUnit
units_of_spelled_byte b =
    if is_word_escape_needed b then Pair b ∷ []
    else (if is_control b then units_of_hex_escape b
    else Byte b ∷ [])

-- the units that spell a word
abbrev pub units_of_spelled_word : List ℕ → List LineUnit
units_of_spelled_word [] = []
units_of_spelled_word (b ∷ bytes) = units_of_spelled_byte b ++ units_of_spelled_word bytes
