-- The patterns of commands, their arguments and hosts: what is left of the escapes.
use Rattle.std.specs.Prelude.{ℕ, zero, suc, ◌+◌, ◌==◌, ◌||◌, Bool, List, [], ◌∷◌, ◌++◌, drop, if◌then◌else◌}
use Rattle.sudoers_text.specs.Unit.{is_blank, begins_line_end, line_end_size}
use Rattle.sudoers_text.specs.Value.{leading_blanks_size}
use Rattle.sudoers_grammar.specs.declared.pattern.PatternSpelling.{PatternSpelling}
use Rattle.sudoers_grammar.specs.declared.pattern.PatternSpelling.TheVariants as spelling

-- `*`, `?`, `[` and a backslash: bytes with a meaning in patterns
abbrev pub is_special_in_patterns : ℕ → Bool
is_special_in_patterns b = b == 42 || b == 63 || b == 91 || b == 92

-- a byte that stands for itself
abbrev pub pattern_of_literal_byte : ℕ → List ℕ
pattern_of_literal_byte b = if is_special_in_patterns b then 92 ∷ b ∷ [] else b ∷ []

-- The backslash before it is there for the policy alone.
abbrev pub is_escaped_for_policy_alone : ℕ → Bool
is_escaped_for_policy_alone b = b == 44 || b == 58 || b == 61 || b == 35 || b == 34 || is_blank b

-- The same; in hosts also before `!`, `(` and `)`; in quotes before `"`.
abbrev pub is_dropped_backslash_before : PatternSpelling → ℕ → Bool
is_dropped_backslash_before spelling.Command b = is_escaped_for_policy_alone b
is_dropped_backslash_before spelling.Host b = is_escaped_for_policy_alone b || b == 33 || b == 40 || b == 41
is_dropped_backslash_before spelling.QuotedHost b = b == 34

-- the pattern that a byte is
abbrev pub pattern_of_byte : PatternSpelling → ℕ → List ℕ
pattern_of_byte spelling.Command b = b ∷ []
pattern_of_byte spelling.Host b = b ∷ []
pattern_of_byte spelling.QuotedHost b = if b == 34 then [] else pattern_of_literal_byte b

-- the pattern that a backslash and a byte are that it keeps
abbrev pub pattern_of_kept_pair : PatternSpelling → ℕ → List ℕ
pattern_of_kept_pair spelling.Command b = 92 ∷ b ∷ []
pattern_of_kept_pair spelling.Host b = 92 ∷ b ∷ []
pattern_of_kept_pair spelling.QuotedHost b = pattern_of_literal_byte 92 ++ pattern_of_literal_byte b

abbrev pub pattern_of_escaped_pair : PatternSpelling → ℕ → List ℕ
pattern_of_escaped_pair s b = if is_dropped_backslash_before s b then b ∷ [] else pattern_of_kept_pair s b

-- How many of the bytes behind a backslash belong to it, and the pattern that it is with them. A continuation and the blanks
-- that follow it are nothing.
abbrev pub pattern_escape_tail_size : List ℕ → ℕ
pattern_escape_tail_size [] = 0
pattern_escape_tail_size (b ∷ rest) =
    if begins_line_end (b ∷ rest) then line_end_size (b ∷ rest) + leading_blanks_size (drop (line_end_size (b ∷ rest)) (b ∷ rest)) else 1

abbrev pub pattern_of_escape : PatternSpelling → List ℕ → List ℕ
pattern_of_escape s [] = pattern_of_byte s 92
pattern_of_escape s (b ∷ rest) = if begins_line_end (b ∷ rest) then [] else pattern_of_escaped_pair s b

-- The pattern of the bytes, of which the first k are passed over.
abbrev pub pattern_of_remaining_bytes : PatternSpelling → ℕ → List ℕ → List ℕ
pattern_of_remaining_bytes s k [] = []
pattern_of_remaining_bytes s (suc k) (b ∷ rest) = pattern_of_remaining_bytes s k rest
pattern_of_remaining_bytes s zero (b ∷ rest) =
    if b == 92 then pattern_of_escape s rest ++ pattern_of_remaining_bytes s (pattern_escape_tail_size rest) rest
    else pattern_of_byte s b ++ pattern_of_remaining_bytes s 0 rest

unfoldable pub pattern_of_text : PatternSpelling → List ℕ → List ℕ
pattern_of_text s text = pattern_of_remaining_bytes s 0 text
