-- The arguments of commands, unit by unit: a device of the laws.
use Rattle.std.specs.Prelude.{ℕ, ◌==◌, ◌&&◌, not, Bool, true, false, List, [], ◌∷◌, ◌++◌, if◌then◌else◌}
use Rattle.sudoers_text.specs.declared.token.TokenKind.TheVariants as kind
use Rattle.sudoers_text.specs.Unit.{LineUnit, Byte}
use Rattle.sudoers_grammar.specs.declared.pattern.PatternSpelling.TheVariants.{Command}
use Rattle.laws_print.proofs.Written.{WrittenToken, text_of_units}
use Rattle.laws_print.proofs.PatternUnits.{escaped_pattern_units}

abbrev pub is_space_unit : LineUnit → Bool
is_space_unit (Byte b) = b == 32
is_space_unit u = false

-- something other than a space comes
abbrev pub begins_with_other_than_space : List LineUnit → Bool
begins_with_other_than_space [] = false
begins_with_other_than_space (u ∷ us) = not (is_space_unit u)

abbrev pub words_with_unit_in_first : LineUnit → List (List LineUnit) → List (List LineUnit)
words_with_unit_in_first u [] = (u ∷ []) ∷ []
words_with_unit_in_first u (w ∷ ws) = (u ∷ w) ∷ ws

-- The arguments that a pattern is made of: one ends at each single space between two other units. behind: such a unit stands
-- before.
abbrev pub argument_words_of_units : Bool → List LineUnit → List (List LineUnit)
argument_words_of_units behind [] = [] ∷ []
argument_words_of_units behind (u ∷ us) =
    if is_space_unit u && (behind && begins_with_other_than_space us) then [] ∷ argument_words_of_units false us
    else words_with_unit_in_first u (argument_words_of_units (not (is_space_unit u)) us)

-- the tokens of the arguments, before others
abbrev pub tokens_of_argument_words : List (List LineUnit) → List WrittenToken → List WrittenToken
tokens_of_argument_words [] tail = tail
tokens_of_argument_words (w ∷ ws) tail = record { kind = kind.Arg; units = escaped_pattern_units Command w; spaced = true } ∷ tokens_of_argument_words ws tail

-- the words with single spaces between them
abbrev pub text_of_words_joined_by_spaces : List (List LineUnit) → List ℕ
text_of_words_joined_by_spaces [] = []
text_of_words_joined_by_spaces (w ∷ []) = text_of_units w
text_of_words_joined_by_spaces (w ∷ v ∷ ws) = text_of_units w ++ 32 ∷ text_of_words_joined_by_spaces (v ∷ ws)
