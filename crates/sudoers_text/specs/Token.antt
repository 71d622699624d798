-- The tokens of a line.
use Rattle.std.specs.Prelude.{◌≡◌, ℕ, zero, suc, ◌+◌, ◌-◌, ◌<◌, ◌≤◌, ◌⊎◌, ◌==◌, ◌&&◌, Bool, true, false, List, [], ◌∷◌, length, take, drop, if◌then◌else◌}
use Rattle.std.specs.List.{Contains}
use Rattle.sudoers_text.specs.declared.part.ByteRunKind.TheVariants as rule
use Rattle.sudoers_text.specs.declared.token.TokenKind.{TokenKind}
use Rattle.sudoers_text.specs.declared.token.TokenKind.TheVariants as kind
use Rattle.sudoers_text.specs.declared.token.Token.{Token}
use Rattle.sudoers_text.specs.declared.token.Mode.{Mode}
use Rattle.sudoers_text.specs.declared.context.TokenContext.{TokenContext}
use Rattle.sudoers_text.specs.declared.context.TokenContext.TheVariants as context
use Rattle.sudoers_text.specs.Unit.{LineUnit, Byte, bytes_of_unit, unit_after_backslash, line_end_size}
use Rattle.sudoers_text.specs.Part.{reach_of_units, leading_run_size, unclosed_quote_unit_size, closed_quote_size}
use Rattle.sudoers_text.specs.Piece.{TokenForm, kind_of_form, is_piece_of_form}
use Rattle.sudoers_text.specs.Context.{token_forms_in_context, context_after_token}

-- The first bytes, so many, are the longest piece of this form with which the bytes begin.
pub record IsLongestPieceOfForm (form : TokenForm) (before : List LineUnit) (bytes : List ℕ) (size : ℕ) : Type 0 where
  pub inside : size ≤ length bytes
  pub piece : is_piece_of_form form before bytes size ≡ true
  pub longest : (other : ℕ) → other ≤ length bytes → is_piece_of_form form before bytes other ≡ true → other ≤ size

-- The bytes begin with no piece of this form.
abbrev pub NoPieceOfFormBegins : TokenForm → List LineUnit → List ℕ → Type 0
NoPieceOfFormBegins form before bytes = (size : ℕ) → size ≤ length bytes → is_piece_of_form form before bytes size ≡ true → ⊥

-- what is Bad: all from a `"` on that is never closed, else one byte
unfoldable pub bad_token_size : List ℕ → ℕ
bad_token_size [] = 0
bad_token_size (b ∷ rest) = if b == 34 && (closed_quote_size (b ∷ rest) == 0) then reach_of_units unclosed_quote_unit_size 0 rest + 1 else 1

-- The bytes begin with a token of this kind and size: the longest piece of the first form of which one begins; it is Bad
-- where none does.
abbrev pub IsTokenOfKindAndSize : List TokenForm → List LineUnit → List ℕ → TokenKind → ℕ → Type 0
IsTokenOfKindAndSize [] before bytes k size = (k ≡ kind.Bad) × (size ≡ bad_token_size bytes)
IsTokenOfKindAndSize (form ∷ others) before bytes k size =
    ((k ≡ kind_of_form form) × IsLongestPieceOfForm form before bytes size)
    ⊎ (NoPieceOfFormBegins form before bytes × IsTokenOfKindAndSize others before bytes k size)

-- The bytes begin with no piece of these forms.
abbrev pub NoPieceOfFormsBegins : List TokenForm → List LineUnit → List ℕ → Type 0
NoPieceOfFormsBegins [] before bytes = Unit {0}
NoPieceOfFormsBegins (form ∷ others) before bytes = NoPieceOfFormBegins form before bytes × NoPieceOfFormsBegins others before bytes

-- This many bytes are the longest piece of one of the forms, of this kind, or no piece of the forms begins and it is Bad.
abbrev pub IsLongestPieceOrBad : List TokenForm → List LineUnit → List ℕ → TokenKind → ℕ → Type 0
IsLongestPieceOrBad fs before bytes k size =
    ((form : TokenForm) × Contains fs form × (k ≡ kind_of_form form) × IsLongestPieceOfForm form before bytes size)
    ⊎ ((k ≡ kind.Bad) × NoPieceOfFormsBegins fs before bytes)

-- the unit that begins with this byte, where a quoted part and a comment are no units but their bytes
abbrev pub byte_or_escape_unit : ℕ → List ℕ → LineUnit
byte_or_escape_unit b rest = if b == 92 then unit_after_backslash rest else Byte b

-- The units before, and behind them those of the bytes; k bytes of the first are still to pass.
abbrev pub units_with_those_after_skipped_bytes : ℕ → List LineUnit → List ℕ → List LineUnit
units_with_those_after_skipped_bytes k before [] = before
units_with_those_after_skipped_bytes (suc k) before (b ∷ rest) = units_with_those_after_skipped_bytes k before rest
units_with_those_after_skipped_bytes zero before (b ∷ rest) = units_with_those_after_skipped_bytes (length (bytes_of_unit (byte_or_escape_unit b rest)) - 1) (byte_or_escape_unit b rest ∷ before) rest

abbrev pub units_with_those_of_bytes : List LineUnit → List ℕ → List LineUnit
units_with_those_of_bytes before bytes = units_with_those_after_skipped_bytes 0 before bytes

-- What stands left of a place. Quoted parts and comments are read by their bytes: going left nothing is reached past the last.
abbrev pub units_left_of_place : List ℕ → ℕ → List LineUnit
units_left_of_place line at = units_with_those_of_bytes [] (take at line)

-- how many blanks and continuations the bytes begin with, in bytes
abbrev pub leading_gap_size : List ℕ → ℕ
leading_gap_size bytes = leading_run_size rule.Gap bytes

-- Nothing is left, or a line end alone.
abbrev pub is_line_end_or_empty : List ℕ → Bool
is_line_end_or_empty bytes = line_end_size bytes == length bytes

-- where a token begins that is the next one from a place on
abbrev pub next_token_start : List ℕ → ℕ → ℕ
next_token_start line at = at + leading_gap_size (drop at line)

-- From this place of the line on stand these tokens: blanks, continuations and the line end give none; what may stand at
-- each goes by the token before it.
abbrev pub AreTokensFrom : TokenContext → List ℕ → ℕ → List Token → Type 0
AreTokensFrom here line at [] = is_line_end_or_empty (drop (next_token_start line at) line) ≡ true
AreTokensFrom here line at (t ∷ ts) =
    let body = drop t.start line in
    let size = t.stop - t.start in
    (t.start ≡ next_token_start line at) × (is_line_end_or_empty body ≡ false) × (t.start < t.stop)
    × IsTokenOfKindAndSize (token_forms_in_context here) (units_left_of_place line t.start) body t.kind size
    × AreTokensFrom (context_after_token here t.kind (take size body) (drop size body)) line t.stop ts

-- The line has these tokens in this mode.
abbrev pub HasTokens : Mode → List ℕ → List Token → Type 0
HasTokens m line tokens = AreTokensFrom (context.First m) line 0 tokens

-- a part of a line of this length, that is not empty
abbrev pub IsTokenWithinLine : ℕ → Token → Type 0
IsTokenWithinLine len t = (t.start < t.stop) × (t.stop ≤ len)
