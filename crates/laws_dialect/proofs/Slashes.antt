-- What is respelled in a line: what stands before some `=`, and some `:`.
use Rattle.std.proofs.Common.{◌≡◌, ℕ, ◌-◌, ◌≤◌, Bool, true, false, not, List, [], ◌∷◌, ◌++◌, take, drop, refl, sym, subst, arith}
use Rattle.std.specs.Prelude.{◌&&◌, ◌==◌, if◌then◌else◌}
use Rattle.std.proofs.lemmas.Slice.Eq.{bytes_eq-Decides}
use Rattle.sudoers_text.specs.declared.token.TokenKind.{TokenKind}
use Rattle.sudoers_text.specs.declared.token.TokenKind.TheVariants as kind
use Rattle.sudoers_text.specs.declared.token.Token.{Token}
use Rattle.sudoers_text.specs.declared.context.TokenContext.{TokenContext}
use Rattle.sudoers_text.specs.declared.context.TokenContext.TheVariants as context
use Rattle.sudoers_text.specs.declared.adapting.TokenBefore.{TokenBefore}
use Rattle.sudoers_text.specs.declared.adapting.TokenBefore.TheVariants as before
use Rattle.sudoers_text.specs.declared.adapting.Respelling.{Respelling}
use Rattle.sudoers_text.specs.declared.adapting.Respelling.TheVariants as respelling
use Rattle.sudoers_text.specs.LineMode.{line_mode}
use Rattle.sudoers_text.specs.Adapted.{leads_to_id, is_equals_among_arguments, is_in_argument_word, is_plain_equals, leads_to_closing_parenthesis, is_opening_parenthesis, is_colon_in_parentheses, is_lone_colon, respelling_of, prefix_of_respelled, text_of_respelled, context_after_respelled, respelled_token_before, AreRespelledFrom, IsRespelledLine, respelled_line, is_one_line_as, adapted_line}
use Rattle.laws_dialect.specs.Slashed.{IsSlashed, nothing_left, same_byte, equals_with_backslash, equals_with_blank_and_backslash, colon_to_blank}
use Rattle.laws_dialect.proofs.LineParts.{rest_of_line_is_gap_token_and_rest}

same_bytes_are_slashed : (bytes : List ℕ) → IsSlashed bytes bytes
same_bytes_are_slashed [] = nothing_left
same_bytes_are_slashed (b ∷ bytes) = same_byte (same_bytes_are_slashed bytes)

slashed_bytes_behind_same_bytes_are_slashed : (bytes others more : List ℕ) → IsSlashed others more → IsSlashed (bytes ++ others) (bytes ++ more)
slashed_bytes_behind_same_bytes_are_slashed [] others more is = is
slashed_bytes_behind_same_bytes_are_slashed (b ∷ bytes) others more is = same_byte (slashed_bytes_behind_same_bytes_are_slashed bytes others more is)

-- ---- one token

first_of_three_true_parts_is_true : (a b c : Bool) → (a && b && c) ≡ true → a ≡ true
first_of_three_true_parts_is_true true b c e = refl
first_of_three_true_parts_is_true false b c e = absurd (cc)

equals_among_arguments_is_equals : (here : TokenContext) (k : TokenKind) (text : List ℕ) → is_equals_among_arguments here k text ≡ true → text ≡ 61 ∷ []
equals_among_arguments_is_equals context.Arguments kind.Punct text e = (bytes_eq-Decides text (61 ∷ [])).0 e
equals_among_arguments_is_equals context.QuotedArgument kind.Bad text e = (bytes_eq-Decides text (61 ∷ [])).0 e
equals_among_arguments_is_equals here k text e = absurd (cc)

colon_in_parentheses_is_colon : (here : TokenContext) (k : TokenKind) (text : List ℕ) → is_colon_in_parentheses here k text ≡ true → text ≡ 58 ∷ []
colon_in_parentheses_is_colon context.Parentheses kind.Punct text e = (bytes_eq-Decides text (58 ∷ [])).0 e
colon_in_parentheses_is_colon here k text e = absurd (cc)

-- An escaped token is `=`, and a token that becomes a blank is `:`.
abbrev HasTextOfRespelling : Respelling → List ℕ → Type 0
HasTextOfRespelling respelling.Same text = Unit {0}
HasTextOfRespelling respelling.Escaped text = text ≡ 61 ∷ []
HasTextOfRespelling respelling.Blank text = text ≡ 58 ∷ []

chosen_respelling_has_text : (text : List ℕ) (equals colon : Bool) → (equals ≡ true → text ≡ 61 ∷ []) → (colon ≡ true → text ≡ 58 ∷ [])
    → HasTextOfRespelling (if equals then respelling.Escaped else (if colon then respelling.Blank else respelling.Same)) text
chosen_respelling_has_text text true colon equals_is colon_is = equals_is refl
chosen_respelling_has_text text false true equals_is colon_is = colon_is refl
chosen_respelling_has_text text false false equals_is colon_is = tt

respelling_has_text : (here : TokenContext) (left : TokenBefore) (apart : Bool) (k : TokenKind) (text rest : List ℕ) → HasTextOfRespelling (respelling_of here left apart k text rest) text
respelling_has_text here left apart k text rest =
    chosen_respelling_has_text text (is_plain_equals here left apart k text rest) (is_lone_colon here left k text rest)
    (λ e. equals_among_arguments_is_equals here k text (first_of_three_true_parts_is_true (is_equals_among_arguments here k text) (is_in_argument_word left apart rest) (not (leads_to_id false rest)) e))
    (λ e. colon_in_parentheses_is_colon here k text (first_of_three_true_parts_is_true (is_colon_in_parentheses here k text) (is_opening_parenthesis left) (leads_to_closing_parenthesis rest) e))

escaped_equals_is_slashed : (left : TokenBefore) (apart : Bool) (bytes others : List ℕ) → IsSlashed bytes others
    → IsSlashed (61 ∷ bytes) (prefix_of_respelled respelling.Escaped left apart ++ (61 ∷ others))
escaped_equals_is_slashed before.Path false bytes others is = equals_with_blank_and_backslash is
escaped_equals_is_slashed before.Path true bytes others is = equals_with_backslash is
escaped_equals_is_slashed before.Sudoedit false bytes others is = equals_with_blank_and_backslash is
escaped_equals_is_slashed before.Sudoedit true bytes others is = equals_with_backslash is
escaped_equals_is_slashed (before.Argument joined) apart bytes others is = equals_with_backslash is
escaped_equals_is_slashed before.OpeningParenthesis apart bytes others is = equals_with_backslash is
escaped_equals_is_slashed before.Other apart bytes others is = equals_with_backslash is

respelled_token_is_slashed : (r : Respelling) (left : TokenBefore) (apart : Bool) (text bytes others : List ℕ) → HasTextOfRespelling r text → IsSlashed bytes others
    → IsSlashed (text ++ bytes) (prefix_of_respelled r left apart ++ (text_of_respelled r text ++ others))
respelled_token_is_slashed respelling.Same left apart text bytes others has is = slashed_bytes_behind_same_bytes_are_slashed text bytes others is
respelled_token_is_slashed respelling.Escaped left apart text bytes others has is =
    subst (λ (t : List ℕ). IsSlashed (t ++ bytes) (prefix_of_respelled respelling.Escaped left apart ++ (t ++ others))) (sym has) (escaped_equals_is_slashed left apart bytes others is)
respelled_token_is_slashed respelling.Blank left apart text bytes others has is =
    subst (λ (t : List ℕ). IsSlashed (t ++ bytes) (32 ∷ others)) (sym has) (colon_to_blank is)

-- ---- lines

respelled_tokens_are_slashed : (ts : List Token) (here : TokenContext) (left : TokenBefore) (line : List ℕ) (at : ℕ) (out : List ℕ) → AreRespelledFrom here left line at ts out
    → IsSlashed (drop at line) out
respelled_tokens_are_slashed [] here left line at out is = subst (IsSlashed (drop at line)) (sym is.1) (same_bytes_are_slashed (drop at line))
respelled_tokens_are_slashed (t ∷ ts) here left line at out is =
    let body = drop t.start line in
    let size = t.stop - t.start in
    let text = take size body in
    let rest = drop size body in
    let gap = take (t.start - at) (drop at line) in
    let apart = not (t.start == at) in
    let r = respelling_of here left apart t.kind text rest in
    let later = respelled_tokens_are_slashed ts (context_after_respelled r here t.kind text rest) (respelled_token_before r t.kind text) line t.stop is.4.0 is.4.2 in
    let token = respelled_token_is_slashed r left apart text (drop t.stop line) is.4.0 (respelling_has_text here left apart t.kind text rest) later in
    let below : at ≤ t.start = omega (arith, is.0) in
    let ordered : t.start ≤ t.stop = omega (arith, is.2) in
    subst (λ (bytes : List ℕ). IsSlashed bytes out) (sym (rest_of_line_is_gap_token_and_rest line at t.start t.stop below ordered))
    (subst (IsSlashed (gap ++ (text ++ drop t.stop line))) (sym is.4.1)
    (slashed_bytes_behind_same_bytes_are_slashed gap (text ++ drop t.stop line) (prefix_of_respelled r left apart ++ (text_of_respelled r text ++ is.4.0)) token))

pub respelled_line_is_slashed_line : (line respelled : List ℕ) → IsRespelledLine line respelled → IsSlashed line respelled
respelled_line_is_slashed_line line respelled is = respelled_tokens_are_slashed is.tokens (context.First (line_mode line)) before.Other line 0 respelled is.each

line_or_slashed_line_is_slashed : (b : Bool) (line other : List ℕ) → IsSlashed line other → IsSlashed line (if b then other else line)
line_or_slashed_line_is_slashed true line other is = is
line_or_slashed_line_is_slashed false line other is = same_bytes_are_slashed line

pub adapted_line_is_slashed_line : ((line : List ℕ) → IsRespelledLine line (respelled_line line)) → (line : List ℕ) → IsSlashed line (adapted_line line)
unfolding adapted_line
adapted_line_is_slashed_line computed line =
    line_or_slashed_line_is_slashed (is_one_line_as line (respelled_line line)) line (respelled_line line) (respelled_line_is_slashed_line line (respelled_line line) (computed line))
