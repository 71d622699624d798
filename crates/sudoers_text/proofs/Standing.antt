-- Which tokens are left of a line, from a place on.
use Rattle.std.proofs.Common.{◌≡◌, ℕ, ◌+◌, ◌≤◌, ◌<◌, true, false, List, [], ◌∷◌, length, take, drop, sym, ap, subst, ◌∙◌, arith}
use Rattle.std.specs.Prelude.{slice_get, Some, None}
use Rattle.std.proofs.lemmas.List.{length-drop}
use Rattle.sudoers_text.specs.declared.part.ByteRunKind.TheVariants as rule
use Rattle.sudoers_text.specs.declared.token.TokenKind.{TokenKind}
use Rattle.sudoers_text.specs.declared.token.Token.{Token}
use Rattle.sudoers_text.specs.declared.token.Mode.{Mode}
use Rattle.sudoers_text.specs.declared.context.TokenContext.{TokenContext}
use Rattle.sudoers_text.specs.Context.{token_forms_in_context, context_after_token}
use Rattle.sudoers_text.specs.Token.{units_left_of_place, next_token_start, is_line_end_or_empty, AreTokensFrom, HasTokens}
use Rattle.sudoers_text.specs.Found.{tokens_from_offset, tokens_of_line}
use Rattle.sudoers_text.specs.LeftTokens.{LeftTokens}
use Rattle.sudoers_text.specs.declared.plain_tokens.TokenAndContextBehind.{TokenAndContextBehind}
use Rattle.sudoers_text.specs.internal.Plain.{IsTokenOfLineAt}
use Rattle.sudoers_text.proofs.Reach.{leading_run_size_is_within_bytes}
use Rattle.sudoers_text.proofs.TokenLists.{found_token_has_positive_size, found_token_before_tokens_is_token_list, tokens_from_offset_are_tokens_of_line, tokens_from_place_are_unique, computed_tokens_are_tokens_of_line}

-- the tokens that are left of the line from this place on
abbrev pub left_tokens : TokenContext → List ℕ → ℕ → List Token
left_tokens here line at = tokens_from_offset (length line) here line at

left_tokens_stand : (here : TokenContext) (line : List ℕ) (at : ℕ) → AreTokensFrom here line at (left_tokens here line at)
left_tokens_stand here line at = tokens_from_offset_are_tokens_of_line (length line) here line at (omega arith)

-- where the next token begins
pub record IsNextTokenStartAt (line : List ℕ) (at start : ℕ) : Type 0 where
  pub is : start ≡ next_token_start line at
  pub more : is_line_end_or_empty (drop start line) ≡ false

-- The next token begins here and has this size, and these are the tokens left before and behind it.
pub record IsNextTokenOfLine (line : List ℕ) (start size : ℕ) (token : Token) (before behind : List Token) : Type 0 where
  pub some : 0 < size
  pub inside : start + size ≤ length line
  pub first : before ≡ token ∷ behind

pub next_token_start_is_within_line : (line : List ℕ) (at start : ℕ) → at ≤ length line → IsNextTokenStartAt line at start → start ≤ length line
next_token_start_is_within_line line at start inside next = omega (arith, next.is, leading_run_size_is_within_bytes rule.Gap (drop at line), length-drop at line)

pub token_of_line_is_next : (line : List ℕ) (here : TokenContext) (at start : ℕ) (found : TokenAndContextBehind) → at ≤ length line → IsNextTokenStartAt line at start → IsTokenOfLineAt line here start found
    → IsNextTokenOfLine line start found.len (record { kind = found.kind; start = start; stop = start + found.len }) (left_tokens here line at) (left_tokens found.behind line (start + found.len))
token_of_line_is_next line here at start found inside_at next is =
    let body = drop start line in
    let units = units_left_of_place line start in
    let some : 0 < found.len = subst (λ (p : TokenKind × ℕ). 0 < p.1) (sym is.found) (found_token_has_positive_size (token_forms_in_context here) units body next.more) in
    let token : Token = record { kind = found.kind; start = start; stop = start + found.len } in
    let later = left_tokens found.behind line (start + found.len) in
    let there : AreTokensFrom (context_after_token here found.kind (take found.len body) (drop found.len body)) line (start + found.len) later =
    subst (λ (c : TokenContext). AreTokensFrom c line (start + found.len) later) is.behind (left_tokens_stand found.behind line (start + found.len)) in
    record {
      some = some;
      inside = is.within;
      first = tokens_from_place_are_unique (left_tokens here line at) (token ∷ later) here line at (left_tokens_stand here line at) (found_token_before_tokens_is_token_list here line at start found.kind found.len later next.is next.more is.found there);
    }

-- What `old` is, and what is left of it behind its first token.
pub record IsTakenFromLine (old : LeftTokens) (token : Token) (behind : List Token) : Type 0 where
  pub next : Some token ≡ slice_get old.tokens 0
  pub line_left : (line : List ℕ) → line ≡ old.line → (let left : LeftTokens = record { line = line; tokens = behind } in left ≡ record { line = old.line; tokens = drop 1 old.tokens })

pub next_token_is_taken_from_line : (old : LeftTokens) (token : Token) (before behind : List Token) → before ≡ token ∷ behind → before ≡ old.tokens → IsTakenFromLine old token behind
next_token_is_taken_from_line old token before behind first is =
    let whole : token ∷ behind ≡ old.tokens = sym first ∙ is in
    let rest : behind ≡ drop 1 old.tokens = ap (λ (ts : List Token). drop 1 ts) whole in
    record {
      next = ap (λ (ts : List Token). slice_get ts 0) whole;
      line_left = λ line line_is j. record { line = line_is j; tokens = rest j };
    }

-- All tokens have been taken.
pub record IsAllTakenFromLine (old : LeftTokens) : Type 0 where
  pub next : None ≡ slice_get old.tokens 0
  pub left : old ≡ record { line = old.line; tokens = drop 1 old.tokens }

pub no_tokens_are_left_at_line_end : (line : List ℕ) (here : TokenContext) (at : ℕ) (old : LeftTokens) → left_tokens here line at ≡ old.tokens → is_line_end_or_empty (drop (next_token_start line at) line) ≡ true → IsAllTakenFromLine old
no_tokens_are_left_at_line_end line here at old is end =
    let none : old.tokens ≡ [] = sym is ∙ tokens_from_place_are_unique (left_tokens here line at) [] here line at (left_tokens_stand here line at) end in
    let rest : old.tokens ≡ drop 1 old.tokens = none ∙ ap (λ (ts : List Token). drop 1 ts) (sym none) in
    record {
      next = ap (λ (ts : List Token). slice_get ts 0) (sym none);
      left = λ j. record { line = old.line; tokens = rest j };
    }

pub computed_tokens_stand : (mode : Mode) (line : List ℕ) (tokens : List Token) → tokens ≡ tokens_of_line mode line → HasTokens mode line tokens
computed_tokens_stand mode line tokens is = subst (HasTokens mode line) (sym is) (computed_tokens_are_tokens_of_line mode line)
