-- The tokens of a line stand one behind another.
use Rattle.std.proofs.Common.{inl, inr, ℕ, ◌+◌, ◌-◌, ◌≤◌, Bool, true, false, List, [], ◌∷◌, length, take, drop, arith}
use Rattle.std.specs.Prelude.{◌==◌, ◌&&◌, if◌then◌else◌}
use Rattle.std.proofs.lemmas.List.{length-drop}
use Rattle.sudoers_text.specs.declared.token.TokenKind.{TokenKind}
use Rattle.sudoers_text.specs.declared.token.Token.{Token}
use Rattle.sudoers_text.specs.declared.token.Mode.{Mode}
use Rattle.sudoers_text.specs.declared.context.TokenContext.{TokenContext}
use Rattle.sudoers_text.specs.declared.context.TokenContext.TheVariants as context
use Rattle.sudoers_text.specs.Unit.{LineUnit}
use Rattle.sudoers_text.specs.Part.{reach_of_units, unclosed_quote_unit_size, closed_quote_size}
use Rattle.sudoers_text.specs.Piece.{TokenForm}
use Rattle.sudoers_text.specs.Context.{token_forms_in_context, context_after_token}
use Rattle.sudoers_text.specs.Token.{IsTokenOfKindAndSize, bad_token_size, units_left_of_place, AreTokensFrom, HasTokens}
use Rattle.sudoers_text.specs.Ascend.{AreOrderedTokens}
use Rattle.sudoers_text.proofs.Reach.{unclosed_quote_size_is_within_bytes, reach_of_units_is_within_bytes}

bad_token_is_within_bytes : (bytes : List ℕ) → bad_token_size bytes ≤ length bytes
unfolding bad_token_size
bad_token_is_within_bytes [] = omega arith
bad_token_is_within_bytes (b ∷ rest) = by_test (b == 34 && (closed_quote_size (b ∷ rest) == 0))
  where
    by_test : (t : Bool) → (if t then reach_of_units unclosed_quote_unit_size 0 rest + 1 else 1) ≤ length (b ∷ rest)
    by_test true = omega (arith, reach_of_units_is_within_bytes unclosed_quote_unit_size unclosed_quote_size_is_within_bytes 0 rest (omega arith))
    by_test false = omega arith

-- A token ends in its line.
token_size_is_within_bytes : (fs : List TokenForm) (before : List LineUnit) (bytes : List ℕ) (k : TokenKind) (n : ℕ) → IsTokenOfKindAndSize fs before bytes k n → n ≤ length bytes
token_size_is_within_bytes [] before bytes k n is = omega (arith, is.1, bad_token_is_within_bytes bytes)
token_size_is_within_bytes (form ∷ others) before bytes k n (inl is) = is.1.inside
token_size_is_within_bytes (form ∷ others) before bytes k n (inr is) = token_size_is_within_bytes others before bytes k n is.1

tokens_from_place_are_ordered : (ts : List Token) (here : TokenContext) (line : List ℕ) (at : ℕ) → at ≤ length line → AreTokensFrom here line at ts → AreOrderedTokens at (length line) ts
tokens_from_place_are_ordered [] here line at inside are = inside
tokens_from_place_are_ordered (t ∷ ts) here line at inside are =
    let body = drop t.start line in
    let within = token_size_is_within_bytes (token_forms_in_context here) (units_left_of_place line t.start) body t.kind (t.stop - t.start) are.3 in (
      omega (arith, are.0),
      are.2,
      tokens_from_place_are_ordered ts (context_after_token here t.kind (take (t.stop - t.start) body) (drop (t.stop - t.start) body)) line t.stop
          (omega (arith, within, are.2, length-drop t.start line)) are.4,
    )

pub tokens_of_line_are_ordered : (m : Mode) (line : List ℕ) (ts : List Token) → HasTokens m line ts → AreOrderedTokens 0 (length line) ts
tokens_of_line_are_ordered m line ts has = tokens_from_place_are_ordered ts (context.First m) line 0 (omega arith) has
