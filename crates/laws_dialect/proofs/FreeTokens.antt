-- Tokens of which no `=` stands behind `sudoedit` where arguments may stand.
use Rattle.std.proofs.Common.{◌≡◌, ◌⊎◌, inl, inr, ℕ, Bool, true, false, List, [], ◌∷◌, refl, sym, ap, subst, ◌∙◌}
use Rattle.std.specs.Prelude.{◌&&◌, ◌||◌, codes, if◌then◌else◌}
use Rattle.std.specs.Str.{bytes_eq}
use Rattle.sudoers_text.specs.declared.token.TokenKind.{TokenKind}
use Rattle.sudoers_text.specs.declared.token.TokenKind.TheVariants as kind
use Rattle.sudoers_text.specs.declared.token.Mode.{Mode}
use Rattle.sudoers_text.specs.declared.token.Mode.TheVariants as mode
use Rattle.sudoers_text.specs.declared.part.ByteRunKind.TheVariants as rule
use Rattle.sudoers_text.specs.declared.context.ScopeNamesOrCommands.TheVariants as scope
use Rattle.sudoers_text.specs.declared.context.TokenContext.{TokenContext}
use Rattle.sudoers_text.specs.declared.context.TokenContext.TheVariants as context
use Rattle.sudoers_text.specs.declared.adapting.TokenBefore.{TokenBefore}
use Rattle.sudoers_text.specs.declared.adapting.TokenBefore.TheVariants as before
use Rattle.sudoers_text.specs.Part.{has_given_first_byte, is_entire_run, is_whole_argument}
use Rattle.sudoers_text.specs.Piece.{has_host_or_runas_sign}
use Rattle.sudoers_text.specs.Word.{is_among, include_words}
use Rattle.sudoers_text.specs.Context.{is_word_kind, is_given_punct_token, is_kind_of_list_member, context_after_token, context_after_first_token, context_after_parameter_token}
use Rattle.sudoers_text.specs.Adapted.{token_before, is_equals_among_arguments}
use Rattle.sudoers_grammar.specs.Piece.{TokenWithBytes}
use Rattle.sudoers_grammar.specs.Grammar.{IsMark}
use Rattle.laws_dialect.proofs.KeptTokens.{may_be_equals, IsKeptBehind, AreKeptBehind, mark_has_punct_kind_and_byte}

-- Behind `sudoedit` the token is no `=` of arguments.
abbrev pub IsFreeIn : TokenContext → TokenBefore → TokenWithBytes → Type 0
IsFreeIn here before.Sudoedit t = is_equals_among_arguments here t.kind t.text ≡ false
IsFreeIn here before.Path t = Unit {0}
IsFreeIn here (before.Argument joined) t = Unit {0}
IsFreeIn here before.OpeningParenthesis t = Unit {0}
IsFreeIn here before.Other t = Unit {0}

-- So is each of these tokens, the first in this context and behind this one.
abbrev pub AreFreeFrom : TokenContext → TokenBefore → List TokenWithBytes → Type 0
AreFreeFrom here left [] = Unit {0}
AreFreeFrom here left (t ∷ ts) = IsFreeIn here left t × ((rest : List ℕ) → AreFreeFrom (context_after_token here t.kind t.text rest) (token_before t.kind t.text) ts)

pub other_token_is_no_equals_among_arguments : (here : TokenContext) (k : TokenKind) (text : List ℕ) → (may_be_equals k && bytes_eq text (codes "=")) ≡ false → is_equals_among_arguments here k text ≡ false
other_token_is_no_equals_among_arguments context.Arguments kind.Punct text e = e
other_token_is_no_equals_among_arguments context.QuotedArgument kind.Bad text e = e
other_token_is_no_equals_among_arguments here k text e = refl

pub other_token_is_free : (here : TokenContext) (t : TokenWithBytes) → is_equals_among_arguments here t.kind t.text ≡ false → (left : TokenBefore) → IsFreeIn here left t
other_token_is_free here t e before.Sudoedit = e
other_token_is_free here t e before.Path = tt
other_token_is_free here t e (before.Argument joined) = tt
other_token_is_free here t e before.OpeningParenthesis = tt
other_token_is_free here t e before.Other = tt

-- ---- tokens that keep their spelling whatever may stand there

strictly_kept_token_is_free : (here : TokenContext) (left : TokenBefore) (t : TokenWithBytes) (ts : List TokenWithBytes) → IsKeptBehind true left t ts → IsFreeIn here left t
strictly_kept_token_is_free here before.Sudoedit t ts kept = other_token_is_no_equals_among_arguments here t.kind t.text kept
strictly_kept_token_is_free here before.Path t ts kept = tt
strictly_kept_token_is_free here (before.Argument joined) t ts kept = tt
strictly_kept_token_is_free here before.OpeningParenthesis t ts kept = tt
strictly_kept_token_is_free here before.Other t ts kept = tt

pub strictly_kept_tokens_are_free : (ts : List TokenWithBytes) (here : TokenContext) (left : TokenBefore) → AreKeptBehind true left ts → AreFreeFrom here left ts
strictly_kept_tokens_are_free [] here left kept = tt
strictly_kept_tokens_are_free (t ∷ ts) here left kept =
    (strictly_kept_token_is_free here left t ts kept.0, λ rest. strictly_kept_tokens_are_free ts (context_after_token here t.kind t.text rest) (token_before t.kind t.text) kept.1)

strictly_kept_token_is_kept : (left : TokenBefore) (t : TokenWithBytes) (ts : List TokenWithBytes) → IsKeptBehind true left t ts → IsKeptBehind false left t ts
strictly_kept_token_is_kept before.Sudoedit t ts kept = tt
strictly_kept_token_is_kept before.Path t ts kept = kept
strictly_kept_token_is_kept (before.Argument joined) t ts kept = kept
strictly_kept_token_is_kept before.OpeningParenthesis t ts kept = kept
strictly_kept_token_is_kept before.Other t ts kept = tt

pub strictly_kept_tokens_are_kept : (ts : List TokenWithBytes) (left : TokenBefore) → AreKeptBehind true left ts → AreKeptBehind false left ts
strictly_kept_tokens_are_kept [] left kept = tt
strictly_kept_tokens_are_kept (t ∷ ts) left kept = (strictly_kept_token_is_kept left t ts kept.0, strictly_kept_tokens_are_kept ts (token_before t.kind t.text) kept.1)

-- ---- lines in which no arguments stand

-- a context of lines that are read by words or by parameters
abbrev pub is_context_without_commands : TokenContext → Bool
is_context_without_commands (context.First mode.Words) = true
is_context_without_commands (context.First mode.Parameters) = true
is_context_without_commands (context.IncludePath mode.Words) = true
is_context_without_commands (context.IncludePath mode.Parameters) = true
is_context_without_commands context.Words = true
is_context_without_commands context.ScopeSign = true
is_context_without_commands (context.Scope list) = true
is_context_without_commands (context.BehindMember list) = true
is_context_without_commands context.Parameter = true
is_context_without_commands context.ParameterValue = true
is_context_without_commands here = false

choice_of_two_passes : (b : Bool) (one other : TokenContext) → is_context_without_commands one ≡ true → is_context_without_commands other ≡ true → is_context_without_commands (if b then one else other) ≡ true
choice_of_two_passes true one other e f = e
choice_of_two_passes false one other e f = f

parameter_token_passes : (k : TokenKind) (text : List ℕ) → is_context_without_commands (context_after_parameter_token k text) ≡ true
parameter_token_passes kind.Punct text = choice_of_two_passes (bytes_eq text (codes "!") || bytes_eq text (codes ",")) context.Parameter context.ParameterValue refl refl
parameter_token_passes k text = refl

context_without_commands_stays : (here : TokenContext) (k : TokenKind) (text rest : List ℕ) → is_context_without_commands here ≡ true → is_context_without_commands (context_after_token here k text rest) ≡ true
context_without_commands_stays (context.First mode.Words) k text rest e =
    choice_of_two_passes (is_word_kind k && is_among include_words text) (context.IncludePath mode.Words) context.Words refl refl
context_without_commands_stays (context.First mode.Parameters) k text rest e =
    choice_of_two_passes (is_word_kind k && is_among include_words text) (context.IncludePath mode.Parameters) (context_after_first_token mode.Parameters k text rest) refl
    (choice_of_two_passes (is_word_kind k)
    (if has_host_or_runas_sign rest || has_given_first_byte 58 rest || has_given_first_byte 33 rest then context.ScopeSign else context.Parameter) (context_after_parameter_token k text)
    (choice_of_two_passes (has_host_or_runas_sign rest || has_given_first_byte 58 rest || has_given_first_byte 33 rest) context.ScopeSign context.Parameter refl refl)
    (parameter_token_passes k text))
context_without_commands_stays (context.IncludePath mode.Words) k text rest e = refl
context_without_commands_stays (context.IncludePath mode.Parameters) k text rest e = refl
context_without_commands_stays context.Words k text rest e = refl
context_without_commands_stays context.ScopeSign k text rest e = choice_of_two_passes (is_given_punct_token 33 k text) (context.Scope scope.Commands) (context.Scope scope.Names) refl refl
context_without_commands_stays (context.Scope list) k text rest e = choice_of_two_passes (is_kind_of_list_member k) (context.BehindMember list) (context.Scope list) refl refl
context_without_commands_stays (context.BehindMember list) k text rest e =
    choice_of_two_passes (is_given_punct_token 44 k text) (context.Scope list) (context_after_parameter_token k text) refl (parameter_token_passes k text)
context_without_commands_stays context.Parameter k text rest e = parameter_token_passes k text
context_without_commands_stays context.ParameterValue k text rest e = refl
context_without_commands_stays here k text rest e = absurd (cc)

context_without_commands_has_no_equals : (here : TokenContext) (k : TokenKind) (text : List ℕ) → is_context_without_commands here ≡ true → is_equals_among_arguments here k text ≡ false
context_without_commands_has_no_equals context.Arguments k text e = absurd (cc)
context_without_commands_has_no_equals context.QuotedArgument k text e = absurd (cc)
context_without_commands_has_no_equals here k text e = refl

pub tokens_without_commands_are_free : (ts : List TokenWithBytes) (here : TokenContext) (left : TokenBefore) → is_context_without_commands here ≡ true → AreFreeFrom here left ts
tokens_without_commands_are_free [] here left e = tt
tokens_without_commands_are_free (t ∷ ts) here left e = (
  other_token_is_free here t (context_without_commands_has_no_equals here t.kind t.text e) left,
  λ rest. tokens_without_commands_are_free ts (context_after_token here t.kind t.text rest) (token_before t.kind t.text) (context_without_commands_stays here t.kind t.text rest e),
)

-- ---- one token before others

-- The tokens are free behind any token, in this context and in a quoted part of arguments that is not closed.
pub record AreFreeIn (here : TokenContext) (ts : List TokenWithBytes) : Type 0 where
  pub inside : (left : TokenBefore) → AreFreeFrom here left ts
  pub quoted : (left : TokenBefore) → AreFreeFrom context.QuotedArgument left ts

-- a kind that leaves a quoted part as it is
abbrev pub is_quiet_kind : TokenKind → Bool
is_quiet_kind kind.Arg = false
is_quiet_kind kind.Bad = false
is_quiet_kind k = true

quiet_kind_stays_quoted : (k : TokenKind) (text rest : List ℕ) → is_quiet_kind k ≡ true → context_after_token context.QuotedArgument k text rest ≡ context.QuotedArgument
quiet_kind_stays_quoted kind.Arg text rest e = absurd (cc)
quiet_kind_stays_quoted k text rest e = refl

quiet_kind_is_no_quoted_equals : (k : TokenKind) (text : List ℕ) → is_quiet_kind k ≡ true → is_equals_among_arguments context.QuotedArgument k text ≡ false
quiet_kind_is_no_quoted_equals kind.Bad text e = absurd (cc)
quiet_kind_is_no_quoted_equals k text e = refl

-- The token leads from one context to another, and leaves a quoted part as it is. It is no `=` of arguments there.
pub record Leads (here after : TokenContext) (t : TokenWithBytes) : Type 0 where
  pub quiet : is_quiet_kind t.kind ≡ true
  pub no_equals : is_equals_among_arguments here t.kind t.text ≡ false
  pub leads : (rest : List ℕ) → context_after_token here t.kind t.text rest ≡ after

pub token_that_leads_before_free_tokens : (here after : TokenContext) (t : TokenWithBytes) (ts : List TokenWithBytes) → Leads here after t → AreFreeIn after ts → AreFreeIn here (t ∷ ts)
token_that_leads_before_free_tokens here after t ts is all = record {
  inside = λ left. (
    other_token_is_free here t is.no_equals left,
    λ rest. subst (λ (c : TokenContext). AreFreeFrom c (token_before t.kind t.text) ts) (sym (is.leads rest)) (all.inside (token_before t.kind t.text)),
  );
  quoted = λ left. (
    other_token_is_free context.QuotedArgument t (quiet_kind_is_no_quoted_equals t.kind t.text is.quiet) left,
    λ rest. subst (λ (c : TokenContext). AreFreeFrom c (token_before t.kind t.text) ts) (sym (quiet_kind_stays_quoted t.kind t.text rest is.quiet)) (all.quoted (token_before t.kind t.text)),
  );
}

pub mark_leads : (here after : TokenContext) (b : ℕ) (t : TokenWithBytes) → IsMark b t → is_equals_among_arguments here kind.Punct (b ∷ []) ≡ false
    → ((rest : List ℕ) → context_after_token here kind.Punct (b ∷ []) rest ≡ after) → Leads here after t
mark_leads here after b t is no_equals leads =
    let parts = mark_has_punct_kind_and_byte b t is in
    record {
      quiet = ap is_quiet_kind parts.0;
      no_equals = ap (λ (k : TokenKind). is_equals_among_arguments here k t.text) parts.0 ∙ ap (λ (text : List ℕ). is_equals_among_arguments here kind.Punct text) parts.1 ∙ no_equals;
      leads = λ rest.
          ap (λ (k : TokenKind). context_after_token here k t.text rest) parts.0 ∙ ap (λ (text : List ℕ). context_after_token here kind.Punct text rest) parts.1 ∙ leads rest;
    }

-- ---- arguments

-- Behind a command: the tokens are free where commands stand, and among its arguments.
pub record AreFreeBehindCommand (ts : List TokenWithBytes) : Type 0 where
  pub commands : AreFreeIn context.Commands ts
  pub arguments : (left : TokenBefore) → AreFreeFrom context.Arguments left ts

pub tokens_free_behind_command_are_free_among_arguments : (ts : List TokenWithBytes) → AreFreeBehindCommand ts → AreFreeIn context.Arguments ts
tokens_free_behind_command_are_free_among_arguments ts all = record { inside = all.arguments; quoted = all.commands.quoted }

pub mark_before_tokens_free_behind_command : (after : TokenContext) (t : TokenWithBytes) (ts : List TokenWithBytes) → Leads context.Commands after t → Leads context.Arguments after t → AreFreeIn after ts
    → AreFreeBehindCommand (t ∷ ts)
mark_before_tokens_free_behind_command after t ts from_commands from_arguments all = record {
  commands = token_that_leads_before_free_tokens context.Commands after t ts from_commands all;
  arguments = (token_that_leads_before_free_tokens context.Arguments after t ts from_arguments all).inside;
}

free_in_either_context : (b : Bool) (one other : TokenContext) (left : TokenBefore) (ts : List TokenWithBytes) → AreFreeFrom one left ts → AreFreeFrom other left ts → AreFreeFrom (if b then one else other) left ts
free_in_either_context true one other left ts x y = x
free_in_either_context false one other left ts x y = y

pub argument_before_tokens_free_behind_command : (t : TokenWithBytes) (ts : List TokenWithBytes) → t.kind ≡ kind.Arg → AreFreeBehindCommand ts → AreFreeBehindCommand (t ∷ ts)
argument_before_tokens_free_behind_command t ts e all =
    let next = token_before t.kind t.text in
    let no_equals : (here : TokenContext) → is_equals_among_arguments here t.kind t.text ≡ false = λ here. ap (λ (k : TokenKind). is_equals_among_arguments here k t.text) e ∙ argument_is_no_equals here t.text in
    let after : (here : TokenContext) (rest : List ℕ) → AreFreeFrom (context_after_token here kind.Arg t.text rest) next ts → AreFreeFrom (context_after_token here t.kind t.text rest) next ts =
    λ here rest. subst (λ (k : TokenKind). AreFreeFrom (context_after_token here k t.text rest) next ts) (sym e) in
    record {
      commands = record {
        inside = λ left. (other_token_is_free context.Commands t (no_equals context.Commands) left, λ rest. after context.Commands rest (all.commands.inside next));
        quoted = λ left. (
          other_token_is_free context.QuotedArgument t (no_equals context.QuotedArgument) left,
          λ rest. after context.QuotedArgument rest
              (free_in_either_context (is_entire_run rule.Clean t.text) context.QuotedArgument context.Arguments next ts (all.commands.quoted next) (all.arguments next)),
        );
      };
      arguments = λ left. (
        other_token_is_free context.Arguments t (no_equals context.Arguments) left,
        λ rest. after context.Arguments rest
            (free_in_either_context (is_whole_argument t.text) context.Arguments context.QuotedArgument next ts (all.arguments next) (all.commands.quoted next)),
      );
    }
  where
    argument_is_no_equals : (here : TokenContext) (text : List ℕ) → is_equals_among_arguments here kind.Arg text ≡ false
    argument_is_no_equals context.Arguments text = refl
    argument_is_no_equals context.QuotedArgument text = refl
    argument_is_no_equals here text = refl
