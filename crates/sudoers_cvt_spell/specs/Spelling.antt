-- How words are spelled (sudoers(5), Other special characters and reserved words).
use Rattle.std.specs.Prelude.{ℕ, ◌+◌, ◌/◌, ◌%◌, ◌==◌, ◌||◌, nat_lt, Bool, true, false, List, [], ◌∷◌, if◌then◌else◌}
use Rattle.std.specs.List.{flat_map}
use Rattle.sudoers_text.specs.Unit.{is_blank}
use Rattle.sudoers_text.specs.Part.{is_punct}
use Rattle.sudoers_grammar.specs.declared.pattern.PatternSpelling.{PatternSpelling}
use Rattle.sudoers_grammar.specs.Pattern.{is_dropped_backslash_before}

-- one of `! = : , ( ) \ " #`, a space or a tab: in a word a backslash stands before it
abbrev pub is_word_escape_needed : ℕ → Bool
is_word_escape_needed b = is_punct b || b == 92 || b == 34 || b == 35 || is_blank b

-- a byte without a sign of its own
abbrev pub is_control : ℕ → Bool
is_control b = nat_lt b 32 || b == 127

-- a hexadecimal digit
abbrev pub lower_hex_digit : ℕ → ℕ
lower_hex_digit n = if nat_lt n 10 then 48 + n else 87 + n

abbrev pub spelled_word_byte : ℕ → List ℕ
spelled_word_byte b =
    if is_word_escape_needed b then 92 ∷ b ∷ []
    else (if is_control b then 92 ∷ 120 ∷ lower_hex_digit (b / 16) ∷ lower_hex_digit (b % 16) ∷ []
    else b ∷ [])

-- A word by its value: user names, group names, and values of options and parameters.
abbrev pub spelled_word : List ℕ → List ℕ
spelled_word value = flat_map spelled_word_byte value

-- A pattern: a backslash stands before each byte before which reading drops one.
abbrev pub escaped_pattern_byte : PatternSpelling → ℕ → List ℕ
escaped_pattern_byte s b = if is_dropped_backslash_before s b then 92 ∷ b ∷ [] else b ∷ []

abbrev pub escaped_pattern : PatternSpelling → List ℕ → List ℕ
escaped_pattern s pattern = flat_map (escaped_pattern_byte s) pattern

-- a backslash before the first byte, where the text would be read as something else
abbrev pub text_with_backslash_if_misread : Bool → List ℕ → List ℕ
text_with_backslash_if_misread true text = 92 ∷ text
text_with_backslash_if_misread false text = text
