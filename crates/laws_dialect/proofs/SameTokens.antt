-- A token that keeps its spelling is no `=` that gets a backslash, and no `:` that becomes a blank.
use Rattle.std.proofs.Common.{◌≡◌, inl, inr, ℕ, ◌-◌, Bool, true, false, not, List, [], ◌∷◌, length, take, drop, refl, sym, ap, subst, ◌∙◌, arith}
use Rattle.std.specs.Prelude.{◌&&◌, ◌||◌, ◌==◌, codes, if◌then◌else◌}
use Rattle.std.specs.Str.{bytes_eq}
use Rattle.std.proofs.lemmas.Bool.{and_parts, eqb-true}
use Rattle.std.proofs.lemmas.Slice.Eq.{bytes_eq-Decides}
use Rattle.std.proofs.lemmas.List.{drop-drop}
use Rattle.sudoers_text.specs.declared.token.TokenKind.{TokenKind}
use Rattle.sudoers_text.specs.declared.token.TokenKind.TheVariants as kind
use Rattle.sudoers_text.specs.declared.token.Token.{Token}
use Rattle.sudoers_text.specs.declared.context.TokenContext.{TokenContext}
use Rattle.sudoers_text.specs.declared.context.TokenContext.TheVariants as context
use Rattle.sudoers_text.specs.declared.adapting.TokenBefore.{TokenBefore}
use Rattle.sudoers_text.specs.declared.adapting.TokenBefore.TheVariants as before
use Rattle.sudoers_text.specs.declared.adapting.Respelling.TheVariants as respelling
use Rattle.sudoers_text.specs.Unit.{LineUnit}
use Rattle.sudoers_text.specs.Part.{is_punct as is_punct_byte, has_given_first_byte}
use Rattle.sudoers_text.specs.Context.{token_forms_in_context, context_after_token}
use Rattle.sudoers_text.specs.Token.{AreTokensFrom, IsTokenOfKindAndSize, is_line_end_or_empty, leading_gap_size, next_token_start, units_left_of_place}
use Rattle.sudoers_text.specs.Adapted.{leads_to_id, begins_with_argument_word, is_equals_among_arguments, is_plain_equals, leads_to_closing_parenthesis, is_colon_in_parentheses, is_lone_colon, respelling_of}
use Rattle.sudoers_grammar.specs.Piece.{TokenWithBytes, tokens_with_bytes, is_punct, is_mark_of_byte}
use Rattle.laws_dialect.proofs.KeptTokens.{begins_with_closing_parenthesis, IsKeptBehind}
use Rattle.laws_dialect.proofs.FreeTokens.{IsFreeIn, other_token_is_no_equals_among_arguments}

-- ---- an `=`

conjunction_around_false_is_false : (a b : Bool) → (a && false && b) ≡ false
conjunction_around_false_is_false true b = refl
conjunction_around_false_is_false false b = refl

kept_token_is_no_plain_equals : (here : TokenContext) (left : TokenBefore) (apart : Bool) (t : TokenWithBytes) (ts : List TokenWithBytes) (rest : List ℕ) → IsKeptBehind false left t ts
    → IsFreeIn here left t → is_plain_equals here left apart t.kind t.text rest ≡ false
kept_token_is_no_plain_equals here before.Sudoedit apart t ts rest kept free = ap (λ (b : Bool). b && begins_with_argument_word rest && not (leads_to_id false rest)) free
kept_token_is_no_plain_equals here before.Path apart t ts rest kept free =
    ap (λ (b : Bool). b && begins_with_argument_word rest && not (leads_to_id false rest)) (other_token_is_no_equals_among_arguments here t.kind t.text kept)
kept_token_is_no_plain_equals here (before.Argument joined) apart t ts rest kept free =
    ap (λ (b : Bool). b && (begins_with_argument_word rest || (joined && not apart)) && not (leads_to_id false rest)) (other_token_is_no_equals_among_arguments here t.kind t.text kept)
kept_token_is_no_plain_equals here before.OpeningParenthesis apart t ts rest kept free =
    conjunction_around_false_is_false (is_equals_among_arguments here t.kind t.text) (not (leads_to_id false rest))
kept_token_is_no_plain_equals here before.Other apart t ts rest kept free =
    conjunction_around_false_is_false (is_equals_among_arguments here t.kind t.text) (not (leads_to_id false rest))

-- ---- a `:` between `(` and `)`

closing_parenthesis_is_no_line_end : (bytes : List ℕ) → has_given_first_byte 41 bytes ≡ true → is_line_end_or_empty bytes ≡ true → ⊥
closing_parenthesis_is_no_line_end [] first end = cc
closing_parenthesis_is_no_line_end (b ∷ rest) first end =
    let there : is_line_end_or_empty (41 ∷ rest) ≡ true = subst (λ (c : ℕ). is_line_end_or_empty (c ∷ rest) ≡ true) (eqb-true b 41 first) end in
    let none : 0 ≡ length (41 ∷ rest) = eqb-true 0 (length (41 ∷ rest)) there in
    absurd (omega (arith, none))

token_of_closing_parenthesis_is_its_mark : (units : List LineUnit) (bytes : List ℕ) (k : TokenKind) (size : ℕ) → has_given_first_byte 41 bytes ≡ true
    → IsTokenOfKindAndSize (token_forms_in_context context.Parentheses) units bytes k size → (is_punct k && bytes_eq (take size bytes) (41 ∷ [])) ≡ true
token_of_closing_parenthesis_is_its_mark units [] k size first is = absurd (cc)
token_of_closing_parenthesis_is_its_mark units (b ∷ rest) k size first (inl is) =
    let one : size ≡ 1 = eqb-true size 1 (and_parts (is_punct_byte b) (size == 1) is.1.piece).1 in
    ap (λ (k : TokenKind). is_punct k && bytes_eq (take size (b ∷ rest)) (41 ∷ [])) is.0
    ∙ ap (λ (n : ℕ). bytes_eq (take n (b ∷ rest)) (41 ∷ [])) one
    ∙ ap (λ (c : ℕ). bytes_eq (take 1 (c ∷ rest)) (41 ∷ [])) (eqb-true b 41 first)
token_of_closing_parenthesis_is_its_mark units (b ∷ rest) k size first (inr is) =
    absurd (is.0 1 (omega arith) (ap (λ (c : ℕ). is_punct_byte c && (1 == 1)) (eqb-true b 41 first)))

-- Where `)` follows behind blanks and continuations, it is the next token.
next_token_is_closing_parenthesis : (line : List ℕ) (at : ℕ) (ts : List Token) → AreTokensFrom context.Parentheses line at ts → leads_to_closing_parenthesis (drop at line) ≡ true
    → begins_with_closing_parenthesis (tokens_with_bytes line ts) ≡ true
unfolding is_mark_of_byte
next_token_is_closing_parenthesis line at ts are leads = by ts are
  where
    first : has_given_first_byte 41 (drop (next_token_start line at) line) ≡ true
    first = subst (λ (bytes : List ℕ). has_given_first_byte 41 bytes ≡ true) (drop-drop (leading_gap_size (drop at line)) at line) leads

    by : (ts : List Token) → AreTokensFrom context.Parentheses line at ts → begins_with_closing_parenthesis (tokens_with_bytes line ts) ≡ true
    by [] are = absurd (closing_parenthesis_is_no_line_end (drop (next_token_start line at) line) first are)
    by (t ∷ ts) are =
        token_of_closing_parenthesis_is_its_mark (units_left_of_place line t.start) (drop t.start line) t.kind (t.stop - t.start)
        (subst (λ (n : ℕ). has_given_first_byte 41 (drop n line) ≡ true) (sym are.0) first) are.3

colon_in_parentheses_stays_in_parentheses : (here : TokenContext) (k : TokenKind) (text rest : List ℕ) → is_colon_in_parentheses here k text ≡ true
    → context_after_token here k text rest ≡ context.Parentheses
colon_in_parentheses_stays_in_parentheses context.Parentheses kind.Punct text rest e =
    ap (λ (s : List ℕ). context_after_token context.Parentheses kind.Punct s rest) ((bytes_eq-Decides text (codes ":")).0 e)
colon_in_parentheses_stays_in_parentheses here k text rest e = absurd (cc)

colon_in_parentheses_is_mark : (here : TokenContext) (k : TokenKind) (text : List ℕ) → is_colon_in_parentheses here k text ≡ true → (is_punct k && bytes_eq text (58 ∷ [])) ≡ true
colon_in_parentheses_is_mark context.Parentheses kind.Punct text e = e
colon_in_parentheses_is_mark here k text e = absurd (cc)

conjunction_of_two_not_both_true_is_false : (a b : Bool) → (a ≡ true → b ≡ true → ⊥) → (a && true && b) ≡ false
conjunction_of_two_not_both_true_is_false true true never = absurd (never refl refl)
conjunction_of_two_not_both_true_is_false true false never = refl
conjunction_of_two_not_both_true_is_false false b never = refl

kept_token_is_no_lone_colon : (here : TokenContext) (left : TokenBefore) (t : TokenWithBytes) (line : List ℕ) (stop : ℕ) (ts : List Token) (rest : List ℕ) → rest ≡ drop stop line
    → IsKeptBehind false left t (tokens_with_bytes line ts) → AreTokensFrom (context_after_token here t.kind t.text rest) line stop ts
    → is_lone_colon here left t.kind t.text rest ≡ false
unfolding is_mark_of_byte
kept_token_is_no_lone_colon here before.OpeningParenthesis t line stop ts rest rest_is kept are =
    conjunction_of_two_not_both_true_is_false (is_colon_in_parentheses here t.kind t.text) (leads_to_closing_parenthesis rest) (λ colon leads.
    let inside : AreTokensFrom context.Parentheses line stop ts =
    subst (λ (c : TokenContext). AreTokensFrom c line stop ts) (colon_in_parentheses_stays_in_parentheses here t.kind t.text rest colon) are in
    let closing = next_token_is_closing_parenthesis line stop ts inside (subst (λ (bytes : List ℕ). leads_to_closing_parenthesis bytes ≡ true) rest_is leads) in
    let both : true ≡ false =
    sym (ap (λ (b : Bool). b && begins_with_closing_parenthesis (tokens_with_bytes line ts)) (colon_in_parentheses_is_mark here t.kind t.text colon) ∙ closing) ∙ kept in
    cc)
kept_token_is_no_lone_colon here before.Sudoedit t line stop ts rest rest_is kept are =
    conjunction_around_false_is_false (is_colon_in_parentheses here t.kind t.text) (leads_to_closing_parenthesis rest)
kept_token_is_no_lone_colon here before.Path t line stop ts rest rest_is kept are =
    conjunction_around_false_is_false (is_colon_in_parentheses here t.kind t.text) (leads_to_closing_parenthesis rest)
kept_token_is_no_lone_colon here (before.Argument joined) t line stop ts rest rest_is kept are =
    conjunction_around_false_is_false (is_colon_in_parentheses here t.kind t.text) (leads_to_closing_parenthesis rest)
kept_token_is_no_lone_colon here before.Other t line stop ts rest rest_is kept are =
    conjunction_around_false_is_false (is_colon_in_parentheses here t.kind t.text) (leads_to_closing_parenthesis rest)

-- ---- either

token_of_neither_form_stays_same : (here : TokenContext) (left : TokenBefore) (apart : Bool) (k : TokenKind) (text rest : List ℕ) → is_plain_equals here left apart k text rest ≡ false
    → is_lone_colon here left k text rest ≡ false → respelling_of here left apart k text rest ≡ respelling.Same
token_of_neither_form_stays_same here left apart k text rest no_equals no_colon =
    ap (λ (b : Bool). if b then respelling.Escaped else (if is_lone_colon here left k text rest then respelling.Blank else respelling.Same)) no_equals
    ∙ ap (λ (b : Bool). if b then respelling.Blank else respelling.Same) no_colon

-- A token that keeps its spelling in a line is respelled as it stands.
pub kept_token_stays_same : (here : TokenContext) (left : TokenBefore) (apart : Bool) (t : TokenWithBytes) (line : List ℕ) (stop : ℕ) (ts : List Token) (rest : List ℕ) → rest ≡ drop stop line
    → IsKeptBehind false left t (tokens_with_bytes line ts) → IsFreeIn here left t → AreTokensFrom (context_after_token here t.kind t.text rest) line stop ts
    → respelling_of here left apart t.kind t.text rest ≡ respelling.Same
kept_token_stays_same here left apart t line stop ts rest rest_is kept free are =
    token_of_neither_form_stays_same here left apart t.kind t.text rest (kept_token_is_no_plain_equals here left apart t (tokens_with_bytes line ts) rest kept free)
    (kept_token_is_no_lone_colon here left t line stop ts rest rest_is kept are)
