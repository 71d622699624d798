-- Faults stand in their line.
use Rattle.std.proofs.Common.{arith, ◌≡◌, ℕ, ◌≤◌, ◌<◌, List, [], ◌∷◌, ◌++◌, length, sym, subst, ap}
use Rattle.sudoers_text.specs.declared.token.Token.{Token}
use Rattle.sudoers_text.specs.declared.token.Mode.{Mode}
use Rattle.sudoers_text.specs.Token.{HasTokens}
use Rattle.sudoers_text.specs.Ascend.{AreOrderedTokens}
use Rattle.sudoers_grammar.specs.declared.fault.Why.{Why}
use Rattle.sudoers_grammar.specs.Line.{IsLineSyntaxFault, first_token_start_or, line_stop_before_line_end}
use Rattle.sudoers_grammar.specs.Piece.{TokenWithBytes, token_with_bytes, tokens_with_bytes}

ordered_tokens_bound_low_by_high : (low high : ℕ) (tokens : List Token) → AreOrderedTokens low high tokens → low ≤ high
ordered_tokens_bound_low_by_high low high [] a = a
ordered_tokens_bound_low_by_high low high (t ∷ tokens) a =
    let up : t.stop ≤ high = ordered_tokens_bound_low_by_high t.stop high tokens a.2 in
    let from : low ≤ t.start = a.0 in
    let less : t.start < t.stop = a.1 in
    omega (arith, up, from, less)

line_stop_is_within_line : (line : List ℕ) → line_stop_before_line_end line ≤ length line
line_stop_is_within_line line = omega arith

first_token_start_is_within_line : (line : List ℕ) (low : ℕ) (tokens : List Token) → AreOrderedTokens low (length line) tokens → (before rest : List TokenWithBytes) → tokens_with_bytes line tokens ≡ before ++ rest → first_token_start_or (line_stop_before_line_end line) rest ≤ length line
first_token_start_is_within_line line low tokens a before [] e = line_stop_is_within_line line
first_token_start_is_within_line line low [] a [] (r ∷ rest) e = absurd cc
first_token_start_is_within_line line low [] a (b ∷ before) (r ∷ rest) e = absurd cc
first_token_start_is_within_line line low (t ∷ tokens) a [] (r ∷ rest) e =
    let same : token_with_bytes line t ≡ r = cc in
    let start : t.start ≡ r.start = ap (λ (q : TokenWithBytes). q.start) same in
    let up : t.stop ≤ length line = ordered_tokens_bound_low_by_high t.stop (length line) tokens a.2 in
    let less : t.start < t.stop = a.1 in
    omega (arith, start, up, less)
first_token_start_is_within_line line low (t ∷ tokens) a (b ∷ before) (r ∷ rest) e =
    let more : tokens_with_bytes line tokens ≡ before ++ r ∷ rest = cc in
    first_token_start_is_within_line line t.stop tokens a.2 before (r ∷ rest) more

pub line_syntax_fault_is_within_line : ((mode : Mode) (line : List ℕ) (tokens : List Token) → HasTokens mode line tokens → AreOrderedTokens 0 (length line) tokens)
    → (line : List ℕ) (at : ℕ) (w : Why) → IsLineSyntaxFault line at w → at ≤ length line
line_syntax_fault_is_within_line ascend line at w f = subst (λ x. x ≤ length line) (sym f.place) (first_token_start_is_within_line line 0 f.tokens (ascend _ line f.tokens f.has) f.first.before f.rest f.first.split)
