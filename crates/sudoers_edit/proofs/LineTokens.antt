-- The tokens of a line that ends in LF, one after another, up to one that no alias is made of.
use Rattle.sudoers_edit.proofs.Common.{AreTokensFrom, Bool, HasTokens, IsTokenOfKindAndSize, LineUnit, List, TokenKind, TokenWithBytes, [], and_parts, ap, arith, drop, drop-drop, ends_in_lf, eqb-true, false, inl}
use Rattle.sudoers_edit.proofs.Common.{inr, is_line_end_or_empty, is_comma_colon_or_equals, leading_gap_size, leading_run_size, length, length-drop, ltb-true, nat_lt, quoted_argument_rest_size, refl, subst, sym, take}
use Rattle.sudoers_edit.proofs.Common.{tokens_with_bytes, true, units_left_of_place, ℕ, ◌+◌, ◌-◌, ◌<◌, ◌||◌, ◌∙◌, ◌∷◌, ◌≡◌, ◌≤◌, ◌⊎◌}
use Rattle.std.specs.Prelude.{◌==◌}
use Rattle.sudoers_text.specs.declared.token.Token.{Token}
use Rattle.sudoers_text.specs.declared.token.Mode.{Mode}
use Rattle.sudoers_text.specs.declared.context.TokenContext.{TokenContext}
use Rattle.sudoers_text.specs.declared.context.TokenContext.TheVariants as context
use Rattle.sudoers_text.specs.Context.{token_forms_in_context, context_after_token}
use Rattle.sudoers_edit.proofs.OwnedBytes.{line_has_rest_below_its_length}
use Rattle.sudoers_edit.proofs.FormEnds.{begins_with_separator}
use Rattle.sudoers_edit.proofs.TokenEnds.{is_left_out_of_aliases, IsPlainContext, FitsContext, plain_context_fits_any_bytes, forms_of_plain_context_end_before_lf, token_is_left_out_or_before_lf, bytes_behind_token_fit_context, context_after_token_in_first_is_plain}

-- Up to one that no alias is made of, the pieces end here at the latest.
abbrev pub EndByLimitUntilLeftOut : ℕ → List TokenWithBytes → Type 0
EndByLimitUntilLeftOut last [] = Unit {0}
EndByLimitUntilLeftOut last (t ∷ ts) = (is_left_out_of_aliases t.kind ≡ true) ⊎ ((t.stop ≤ last) × EndByLimitUntilLeftOut last ts)

-- ---- within a quoted argument

separator_is_comma_colon_or_equals : (b : ℕ) → is_comma_colon_or_equals b ≡ true → ((b ≡ 44) ⊎ (b ≡ 58)) ⊎ (b ≡ 61)
separator_is_comma_colon_or_equals b h = by (b == 44) (b == 58) (b == 61) refl refl refl h
  where
    by : (x y z : Bool) → (b == 44) ≡ x → (b == 58) ≡ y → (b == 61) ≡ z → (x || y || z) ≡ true → ((b ≡ 44) ⊎ (b ≡ 58)) ⊎ (b ≡ 61)
    by true y z p q r e = inl (inl (eqb-true b 44 p))
    by false true z p q r e = inl (inr (eqb-true b 58 q))
    by false false true p q r e = inr (eqb-true b 61 r)
    by false false false p q r e = absurd (cc)

-- no blank, and nothing of a quoted part
separator_begins_no_gap_or_quoted_rest : (b : ℕ) (rest : List ℕ) → is_comma_colon_or_equals b ≡ true → (leading_gap_size (b ∷ rest) ≡ 0) × (quoted_argument_rest_size (b ∷ rest) ≡ 0)
unfolding leading_run_size quoted_argument_rest_size
separator_begins_no_gap_or_quoted_rest b rest h = by (separator_is_comma_colon_or_equals b h)
  where
    by : ((b ≡ 44) ⊎ (b ≡ 58)) ⊎ (b ≡ 61) → (leading_gap_size (b ∷ rest) ≡ 0) × (quoted_argument_rest_size (b ∷ rest) ≡ 0)
    by (inl (inl is)) = subst (λ x. (leading_gap_size (x ∷ rest) ≡ 0) × (quoted_argument_rest_size (x ∷ rest) ≡ 0)) (sym is) (refl, refl)
    by (inl (inr is)) = subst (λ x. (leading_gap_size (x ∷ rest) ≡ 0) × (quoted_argument_rest_size (x ∷ rest) ≡ 0)) (sym is) (refl, refl)
    by (inr is) = subst (λ x. (leading_gap_size (x ∷ rest) ≡ 0) × (quoted_argument_rest_size (x ∷ rest) ≡ 0)) (sym is) (refl, refl)

bytes_at_separator_begin_no_gap_or_quote : (bytes : List ℕ) → begins_with_separator bytes ≡ true → (leading_gap_size bytes ≡ 0) × (quoted_argument_rest_size bytes ≡ 0)
bytes_at_separator_begin_no_gap_or_quote [] h = absurd (cc)
bytes_at_separator_begin_no_gap_or_quote (b ∷ rest) h = separator_begins_no_gap_or_quoted_rest b rest h

-- A separator there is Bad.
separator_in_quoted_argument_is_left_out : (before : List LineUnit) (body : List ℕ) (k : TokenKind) (n : ℕ) → begins_with_separator body ≡ true
    → IsTokenOfKindAndSize (token_forms_in_context context.QuotedArgument) before body k n
    → is_left_out_of_aliases k ≡ true
separator_in_quoted_argument_is_left_out before body k n separator (inl is) =
    let parts = and_parts (nat_lt 0 n) (n == quoted_argument_rest_size body) is.1.piece in
    absurd (omega (arith, ltb-true 0 n parts.0, eqb-true n (quoted_argument_rest_size body) parts.1, (bytes_at_separator_begin_no_gap_or_quote body separator).1))
separator_in_quoted_argument_is_left_out before body k n separator (inr (none, is)) = ap is_left_out_of_aliases is.0

-- ---- one after another

bytes_with_no_line_end_are_nonempty : (body : List ℕ) → is_line_end_or_empty body ≡ false → 0 < length body
bytes_with_no_line_end_are_nonempty [] h = absurd (cc)
bytes_with_no_line_end_are_nonempty (b ∷ body) h = omega arith

-- A token that may be in an alias ends before the LF, and what may stand behind it goes with the bytes there.
kept_token_ends_before_final_lf : (here : TokenContext) (before : List LineUnit) (bytes body : List ℕ) (k : TokenKind) (n : ℕ) → FitsContext here bytes → (leading_gap_size bytes ≡ 0 → body ≡ bytes)
    → IsTokenOfKindAndSize (token_forms_in_context here) before body k n → ends_in_lf body ≡ true
    → (is_left_out_of_aliases k ≡ true) ⊎ ((n < length body) × FitsContext (context_after_token here k (take n body) (drop n body)) (drop n body))
kept_token_ends_before_final_lf (context.First m) before bytes body k n fits same is ends = absurd fits
kept_token_ends_before_final_lf context.QuotedArgument before bytes body k n fits same is ends =
    inl (separator_in_quoted_argument_is_left_out before body k n (subst (λ z. begins_with_separator z ≡ true) (sym (same (bytes_at_separator_begin_no_gap_or_quote bytes fits).0)) fits) is)
kept_token_ends_before_final_lf here before bytes body k n fits same is ends = both (token_is_left_out_or_before_lf (token_forms_in_context here) (forms_of_plain_context_end_before_lf here tt) before body k n is ends)
  where
    both : (is_left_out_of_aliases k ≡ true) ⊎ (n < length body)
        → (is_left_out_of_aliases k ≡ true) ⊎ ((n < length body) × FitsContext (context_after_token here k (take n body) (drop n body)) (drop n body))
    both (inl left) = inl left
    both (inr less) = inr (less, bytes_behind_token_fit_context here tt before body k n is)

tokens_from_place_end_before_final_lf : (ts : List Token) (here : TokenContext) (line : List ℕ) (at : ℕ) → FitsContext here (drop at line) → ends_in_lf line ≡ true → AreTokensFrom here line at ts
    → EndByLimitUntilLeftOut (length line - 1) (tokens_with_bytes line ts)
tokens_from_place_end_before_final_lf [] here line at fits ends are = tt
tokens_from_place_end_before_final_lf (t ∷ ts) here line at fits ends are =
    next (kept_token_ends_before_final_lf here (units_left_of_place line t.start) (drop at line) body t.kind size fits same are.3 lf)
    (λ fits. tokens_from_place_end_before_final_lf ts (context_after_token here t.kind (take size body) (drop size body)) line t.stop fits ends are.4)
  where
    body : List ℕ
    body = drop t.start line

    size : ℕ
    size = t.stop - t.start

    inside : t.start < length line
    inside = omega (arith, bytes_with_no_line_end_are_nonempty body are.1, length-drop t.start line)

    lf : ends_in_lf body ≡ true
    lf = let there = line_has_rest_below_its_length t.start line inside in ap ends_in_lf there.is ∙ sym there.same ∙ ends

    same : leading_gap_size (drop at line) ≡ 0 → body ≡ drop at line
    same none = let place : t.start ≡ at = omega (arith, are.0, none) in ap (λ n. drop n line) place

    behind_is : drop size body ≡ drop t.stop line
    behind_is = let place : t.start + size ≡ t.stop = omega (arith, are.2) in drop-drop size t.start line ∙ ap (λ n. drop n line) place

    next : (is_left_out_of_aliases t.kind ≡ true) ⊎ ((size < length body) × FitsContext (context_after_token here t.kind (take size body) (drop size body)) (drop size body))
        → (FitsContext (context_after_token here t.kind (take size body) (drop size body)) (drop t.stop line) → EndByLimitUntilLeftOut (length line - 1) (tokens_with_bytes line ts))
        → (is_left_out_of_aliases t.kind ≡ true) ⊎ ((t.stop ≤ length line - 1) × EndByLimitUntilLeftOut (length line - 1) (tokens_with_bytes line ts))
    next (inl left) later = inl left
    next (inr good) later = inr (
      omega (arith, good.0, are.2, length-drop t.start line, inside),
      later (subst (FitsContext (context_after_token here t.kind (take size body) (drop size body))) behind_is good.1),
    )

-- those behind the first
pub tokens_behind_first_end_before_final_lf : (m : Mode) (line : List ℕ) (t : Token) (ts : List Token) → ends_in_lf line ≡ true → HasTokens m line (t ∷ ts)
    → EndByLimitUntilLeftOut (length line - 1) (tokens_with_bytes line ts)
tokens_behind_first_end_before_final_lf m line t ts ends has =
    let body : List ℕ = drop t.start line in
    let size : ℕ = t.stop - t.start in
    let next : TokenContext = context_after_token (context.First m) t.kind (take size body) (drop size body) in
    let plain : IsPlainContext next = context_after_token_in_first_is_plain m t.kind (take size body) (drop size body) in
    tokens_from_place_end_before_final_lf ts next line t.stop (plain_context_fits_any_bytes next (drop t.stop line) plain) ends has.4
