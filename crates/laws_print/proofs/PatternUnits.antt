-- The units of patterns: a device of the laws.
use Rattle.std.specs.Prelude.{◌≡◌, ℕ, ◌==◌, Bool, true, false, List, [], ◌∷◌, if◌then◌else◌}
use Rattle.std.specs.List.{AllByRecursion}
use Rattle.sudoers_text.specs.Unit.{LineUnit, Pair, Byte}
use Rattle.sudoers_grammar.specs.declared.pattern.PatternSpelling.{PatternSpelling}
use Rattle.sudoers_grammar.specs.Pattern.{is_dropped_backslash_before}
use Rattle.laws_print.specs.Writable.{is_pattern_byte_but_backslash, is_backslash_kept_before}

-- a byte, or a backslash and a byte that keeps it
abbrev pub is_pattern_unit : PatternSpelling → LineUnit → Bool
is_pattern_unit s (Byte b) = is_pattern_byte_but_backslash b
is_pattern_unit s (Pair c) = is_backslash_kept_before s c
is_pattern_unit s u = false

abbrev pub ArePatternUnits : PatternSpelling → List LineUnit → Type 0
ArePatternUnits s us = AllByRecursion (λ u. is_pattern_unit s u ≡ true) us

-- a unit as it is written: a backslash stands before the bytes that would end it or begin something else
abbrev pub escaped_pattern_unit : PatternSpelling → LineUnit → LineUnit
escaped_pattern_unit s (Byte b) = if is_dropped_backslash_before s b then Pair b else Byte b
escaped_pattern_unit s u = u

abbrev pub escaped_pattern_units : PatternSpelling → List LineUnit → List LineUnit
escaped_pattern_units s [] = []
escaped_pattern_units s (u ∷ us) = escaped_pattern_unit s u ∷ escaped_pattern_units s us

-- the units of a pattern, by its bytes
abbrev pub units_of_pattern : List ℕ → List LineUnit
units_of_pattern [] = []
units_of_pattern (b ∷ []) = Byte b ∷ []
units_of_pattern (b ∷ c ∷ rest) = if b == 92 then Pair c ∷ units_of_pattern rest else Byte b ∷ units_of_pattern (c ∷ rest)
