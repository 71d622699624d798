-- A line that is written token by token.
use Rattle.std.specs.Prelude.{◌≡◌, ℕ, ◌+◌, ◌<◌, ◌==◌, not, Bool, true, false, List, [], ◌∷◌, ◌++◌, length, Some}
use Rattle.std.specs.List.{list_all}
use Rattle.sudoers_text.specs.declared.part.ByteRunKind.TheVariants as rule
use Rattle.sudoers_text.specs.declared.token.TokenKind.{TokenKind}
use Rattle.sudoers_text.specs.declared.token.Token.{Token}
use Rattle.sudoers_text.specs.declared.context.TokenContext.{TokenContext}
use Rattle.sudoers_text.specs.Unit.{LineUnit, bytes_of_unit, unit_at, is_id_position_after_units, bytes_of_units_after_leading_gap, defaults_word}
use Rattle.sudoers_text.specs.Part.{leading_run_size}
use Rattle.sudoers_text.specs.Token.{units_with_those_of_bytes, is_line_end_or_empty}
use Rattle.sudoers_text.specs.Context.{token_forms_in_context, context_after_token}
use Rattle.sudoers_text.specs.Found.{kind_and_size_of_token}
use Rattle.sudoers_grammar.specs.Piece.{TokenWithBytes}

-- a token as it is written: its units, and whether a blank stands before it
pub record WrittenToken : Type 0 where
  pub kind : TokenKind
  pub units : List LineUnit
  pub spaced : Bool

-- the bytes of units, one behind another
abbrev pub text_of_units : List LineUnit → List ℕ
text_of_units [] = []
text_of_units (u ∷ us) = bytes_of_unit u ++ text_of_units us

abbrev pub gap_bytes_if_spaced : Bool → List ℕ
gap_bytes_if_spaced true = 32 ∷ []
gap_bytes_if_spaced false = []

-- the line that these tokens make
abbrev pub line_of_written_tokens : List WrittenToken → List ℕ
line_of_written_tokens [] = 10 ∷ []
line_of_written_tokens (p ∷ ps) = gap_bytes_if_spaced p.spaced ++ (text_of_units p.units ++ line_of_written_tokens ps)

-- where they stand in it, from a place on
abbrev pub tokens_placed_from_offset : ℕ → List WrittenToken → List Token
tokens_placed_from_offset at [] = []
tokens_placed_from_offset at (p ∷ ps) =
    let start = at + length (gap_bytes_if_spaced p.spaced) in
    record { kind = p.kind; start = start; stop = start + length (text_of_units p.units) } ∷ tokens_placed_from_offset (start + length (text_of_units p.units)) ps

-- The bytes end where a unit ends.
abbrev pub IsClosedText : List ℕ → Type 0
IsClosedText text = (before : List LineUnit) (rest : List ℕ) → units_with_those_of_bytes before (text ++ rest) ≡ units_with_those_of_bytes (units_with_those_of_bytes before text) rest

-- Where this is true, an ID may begin behind these units.
abbrev pub AllowsIdBehindUnits : Bool → List LineUnit → Type 0
AllowsIdBehindUnits item before = item ≡ true → is_id_position_after_units before ≡ true

-- these units, the last one first, behind others
abbrev pub units_put_onto : List LineUnit → List LineUnit → List LineUnit
units_put_onto [] before = before
units_put_onto (u ∷ us) before = units_put_onto us (u ∷ before)

-- Each of the units begins where it stands, as the text is cut into lines.
abbrev pub StandAsUnitsInText : List LineUnit → List LineUnit → List ℕ → Type 0
StandAsUnitsInText before [] rest = Unit {0}
StandAsUnitsInText before (u ∷ us) rest = (unit_at before (bytes_of_unit u ++ (text_of_units us ++ rest)) ≡ Some u) × StandAsUnitsInText (u ∷ before) us rest

-- a place in a line: an ID may begin there or not; the line begins there; it stands directly behind a `Defaults` with which the
-- line begins
pub data TokenPlace : Type 0 where
  At : Bool → TokenPlace
  Start : TokenPlace
  BehindDefaults : TokenPlace

-- These units may stand before such a place.
abbrev pub StandsAtPlace : TokenPlace → List LineUnit → Type 0
StandsAtPlace (At item) before = AllowsIdBehindUnits item before
StandsAtPlace Start before = before ≡ []
StandsAtPlace BehindDefaults before = bytes_of_units_after_leading_gap before ≡ defaults_word

abbrev pub IsPossibleAtPlace : TokenPlace → Bool → Type 0
IsPossibleAtPlace (At item) i = item ≡ true → i ≡ true
IsPossibleAtPlace Start i = Unit {0}
IsPossibleAtPlace BehindDefaults i = Unit {0}

-- Blanks may stand before the token.
abbrev pub AllowsGapAtPlace : TokenPlace → Bool → Type 0
AllowsGapAtPlace (At item) spaced = Unit {0}
AllowsGapAtPlace Start spaced = spaced ≡ false
AllowsGapAtPlace BehindDefaults spaced = spaced ≡ false

-- no byte is NUL
abbrev pub HasNoNul : List ℕ → Type 0
HasNoNul text = list_all (λ b. not (b == 0)) text ≡ true

-- The bytes begin with this token; there: where it stands, behind: what is behind it.
pub record IsTokenCutFromPlace (here : TokenContext) (there behind : TokenPlace) (kind : TokenKind) (us : List LineUnit) (rest : List ℕ) : Type 0 where
  pub found : (i first : Bool) → IsPossibleAtPlace there i → kind_and_size_of_token (token_forms_in_context here) i first (text_of_units us ++ rest) ≡ (kind, length (text_of_units us))
  pub no_gap : leading_run_size rule.Gap (text_of_units us ++ rest) ≡ 0
  pub more : is_line_end_or_empty (text_of_units us ++ rest) ≡ false
  pub some : 0 < length (text_of_units us)
  pub closed : IsClosedText (text_of_units us)
  pub clean : HasNoNul (text_of_units us)
  pub leaves : (before : List LineUnit) → StandsAtPlace there before → StandsAtPlace behind (units_with_those_of_bytes before (text_of_units us))
  pub stand : (before : List LineUnit) (more : List ℕ) → StandsAtPlace there before → StandAsUnitsInText before us (rest ++ more)
  pub leaves_units : (before : List LineUnit) → StandsAtPlace there before → StandsAtPlace behind (units_put_onto us before)

-- item: an ID may begin there, behind: behind it.
abbrev pub IsTokenCut : TokenContext → Bool → Bool → TokenKind → List LineUnit → List ℕ → Type 0
IsTokenCut here item context_after_token kind us rest = IsTokenCutFromPlace here (At item) (At context_after_token) kind us rest

-- Each of the tokens is cut, behind those before it.
abbrev pub AreTokensCut : TokenContext → Bool → List WrittenToken → Type 0
AreTokensCut here item [] = Unit {0}
AreTokensCut here item (p ∷ ps) =
    (next : Bool) × IsTokenCut here item next p.kind p.units (line_of_written_tokens ps) × AreTokensCut (context_after_token here p.kind (text_of_units p.units) (line_of_written_tokens ps)) next ps

-- The same from any place on.
abbrev pub AreTokensCutFromPlace : TokenContext → TokenPlace → List WrittenToken → Type 0
AreTokensCutFromPlace here there [] = Unit {0}
AreTokensCutFromPlace here there (p ∷ ps) =
    (next : TokenPlace) × IsTokenCutFromPlace here there next p.kind p.units (line_of_written_tokens ps) × AreTokensCutFromPlace (context_after_token here p.kind (text_of_units p.units) (line_of_written_tokens ps)) next ps
    × AllowsGapAtPlace there p.spaced

-- The pieces are these tokens.
abbrev pub AreTokensShownBy : List WrittenToken → List TokenWithBytes → Type 0
AreTokensShownBy [] [] = Unit {0}
AreTokensShownBy [] (t ∷ ts) = ⊥
AreTokensShownBy (p ∷ ps) [] = ⊥
AreTokensShownBy (p ∷ ps) (t ∷ ts) = (t.kind ≡ p.kind) × (t.text ≡ text_of_units p.units) × AreTokensShownBy ps ts
