-- A line has one list of tokens: the one that is computed.
use Rattle.std.proofs.Common.{◌≡◌, inl, inr, ℕ, zero, suc, ◌+◌, ◌-◌, ◌≤◌, ◌<◌, Bool, true, false, List, [], ◌∷◌, length, take, drop, refl, sym, ap, subst, ◌∙◌, arith}
use Rattle.std.specs.Prelude.{◌==◌, ◌&&◌, if◌then◌else◌, nat_lt}
use Rattle.std.proofs.lemmas.List.{drop_all}
use Rattle.sudoers_text.specs.declared.token.TokenKind.{TokenKind}
use Rattle.sudoers_text.specs.declared.token.Token.{Token}
use Rattle.sudoers_text.specs.declared.token.Mode.{Mode}
use Rattle.sudoers_text.specs.declared.context.TokenContext.{TokenContext}
use Rattle.sudoers_text.specs.declared.context.TokenContext.TheVariants as context
use Rattle.sudoers_text.specs.Unit.{LineUnit, is_id_position_after_units, bytes_of_units_after_leading_gap, is_empty}
use Rattle.sudoers_text.specs.Part.{reach_of_units, unclosed_quote_unit_size, closed_quote_size}
use Rattle.sudoers_text.specs.Piece.{TokenForm, kind_of_form}
use Rattle.sudoers_text.specs.Context.{token_forms_in_context, context_after_token}
use Rattle.sudoers_text.specs.Token.{NoPieceOfFormBegins, IsTokenOfKindAndSize, IsLongestPieceOrBad, bad_token_size, units_left_of_place, next_token_start, is_line_end_or_empty, AreTokensFrom, HasTokens}
use Rattle.sudoers_text.specs.Found.{longest_piece_size, kind_and_size_after_units, tokens_from_offset, tokens_of_line}
use Rattle.sudoers_text.proofs.Sizes.{positive_number_passes_positive_test}
use Rattle.sudoers_text.proofs.Forms.{IsLongestFormPieceSize, computed_form_size_is_longest}

-- ---- one token

token_found_by_next_form_is_token : (form : TokenForm) (others : List TokenForm) (before : List LineUnit) (bytes : List ℕ) (n : ℕ) → IsLongestFormPieceSize form before bytes n → IsTokenOfKindAndSize others before bytes (kind_and_size_after_units others before bytes).0 (kind_and_size_after_units others before bytes).1 → IsTokenOfKindAndSize (form ∷ others) before bytes (if nat_lt 0 n then (kind_of_form form, n) else kind_and_size_after_units others before bytes).0 (if nat_lt 0 n then (kind_of_form form, n) else kind_and_size_after_units others before bytes).1
token_found_by_next_form_is_token form others before bytes zero size later = inr (λ m inside h. let more = size.most m inside h in omega (arith, more.0, more.1), later)
token_found_by_next_form_is_token form others before bytes (suc n) size later =
    let some : nat_lt 0 (suc n) ≡ true = positive_number_passes_positive_test (suc n) (omega arith) in
    rw some (inl (refl, record { inside = size.inside; piece = size.sound (omega arith); longest = λ m inside h. (size.most m inside h).1 }))

-- What is found is the token.
pub found_kind_and_size_are_token : (fs : List TokenForm) (before : List LineUnit) (bytes : List ℕ) → IsTokenOfKindAndSize fs before bytes (kind_and_size_after_units fs before bytes).0 (kind_and_size_after_units fs before bytes).1
found_kind_and_size_are_token [] before bytes = (refl, refl)
found_kind_and_size_are_token (form ∷ others) before bytes =
    token_found_by_next_form_is_token form others before bytes (longest_piece_size form (is_id_position_after_units before) (is_empty (bytes_of_units_after_leading_gap before)) bytes) (computed_form_size_is_longest form before bytes) (found_kind_and_size_are_token others before bytes)

-- Bytes begin with one token only.
pub token_at_bytes_is_unique : (fs : List TokenForm) (before : List LineUnit) (bytes : List ℕ) (k l : TokenKind) (n m : ℕ) → IsTokenOfKindAndSize fs before bytes k n → IsTokenOfKindAndSize fs before bytes l m → (k ≡ l) × (n ≡ m)
token_at_bytes_is_unique [] before bytes k l n m x y = (x.0 ∙ sym y.0, x.1 ∙ sym y.1)
token_at_bytes_is_unique (form ∷ others) before bytes k l n m (inl x) (inl y) =
    (x.0 ∙ sym y.0, omega (arith, x.1.longest m y.1.inside y.1.piece, y.1.longest n x.1.inside x.1.piece))
token_at_bytes_is_unique (form ∷ others) before bytes k l n m (inl x) (inr y) = absurd (y.0 n x.1.inside x.1.piece)
token_at_bytes_is_unique (form ∷ others) before bytes k l n m (inr x) (inl y) = absurd (x.0 m y.1.inside y.1.piece)
token_at_bytes_is_unique (form ∷ others) before bytes k l n m (inr x) (inr y) = token_at_bytes_is_unique others before bytes k l n m x.1 y.1

absent_form_keeps_longest_piece_or_bad : (form : TokenForm) (others : List TokenForm) (before : List LineUnit) (bytes : List ℕ) (k : TokenKind) (n : ℕ) → NoPieceOfFormBegins form before bytes → IsLongestPieceOrBad others before bytes k n → IsLongestPieceOrBad (form ∷ others) before bytes k n
absent_form_keeps_longest_piece_or_bad form others before bytes k n none (inl x) = inl (x.0, (suc x.1.0, omega (arith, x.1.1), x.1.2), x.2, x.3)
absent_form_keeps_longest_piece_or_bad form others before bytes k n none (inr x) = inr (x.0, (none, x.1))

pub token_is_longest_piece_or_bad : (fs : List TokenForm) (before : List LineUnit) (bytes : List ℕ) (k : TokenKind) (n : ℕ) → IsTokenOfKindAndSize fs before bytes k n → IsLongestPieceOrBad fs before bytes k n
token_is_longest_piece_or_bad [] before bytes k n x = inr (x.0, tt)
token_is_longest_piece_or_bad (form ∷ others) before bytes k n (inl x) = inl (form, (0, omega arith, refl), x.0, x.1)
token_is_longest_piece_or_bad (form ∷ others) before bytes k n (inr x) =
    absent_form_keeps_longest_piece_or_bad form others before bytes k n x.0 (token_is_longest_piece_or_bad others before bytes k n x.1)

bad_token_has_positive_size : (b : ℕ) (rest : List ℕ) → 0 < bad_token_size (b ∷ rest)
unfolding bad_token_size
bad_token_has_positive_size b rest = by_test (b == 34 && (closed_quote_size (b ∷ rest) == 0))
  where
    by_test : (t : Bool) → 0 < (if t then reach_of_units unclosed_quote_unit_size 0 rest + 1 else 1)
    by_test true = omega arith
    by_test false = omega arith

chosen_token_has_positive_size : (k : TokenKind) (n : ℕ) (other : TokenKind × ℕ) → 0 < other.1 → 0 < (if nat_lt 0 n then (k, n) else other).1
chosen_token_has_positive_size k zero other h = h
chosen_token_has_positive_size k (suc n) other h = let some : nat_lt 0 (suc n) ≡ true = positive_number_passes_positive_test (suc n) (omega arith) in rw some (omega arith)

-- A token has one or more bytes.
pub found_token_has_positive_size : (fs : List TokenForm) (before : List LineUnit) (bytes : List ℕ) → is_line_end_or_empty bytes ≡ false → 0 < (kind_and_size_after_units fs before bytes).1
found_token_has_positive_size fs before [] h = absurd (cc)
found_token_has_positive_size [] before (b ∷ rest) h = bad_token_has_positive_size b rest
found_token_has_positive_size (form ∷ others) before (b ∷ rest) h =
    chosen_token_has_positive_size (kind_of_form form) (longest_piece_size form (is_id_position_after_units before) (is_empty (bytes_of_units_after_leading_gap before)) (b ∷ rest)) (kind_and_size_after_units others before (b ∷ rest)) (found_token_has_positive_size others before (b ∷ rest) h)

-- ---- lists of tokens

-- One token more stands before others.
pub found_token_before_tokens_is_token_list : (here : TokenContext) (line : List ℕ) (at start : ℕ) (k : TokenKind) (size : ℕ) (ts : List Token) → start ≡ next_token_start line at → is_line_end_or_empty (drop start line) ≡ false → (k, size) ≡ kind_and_size_after_units (token_forms_in_context here) (units_left_of_place line start) (drop start line)
    → AreTokensFrom (context_after_token here k (take size (drop start line)) (drop size (drop start line))) line (start + size) ts → AreTokensFrom here line at (record { kind = k; start = start; stop = start + size } ∷ ts)
found_token_before_tokens_is_token_list here line at start k size ts here_is more is later =
    let body = drop start line in
    let units = units_left_of_place line start in
    let some : 0 < size = subst (λ (p : TokenKind × ℕ). 0 < p.1) (sym is) (found_token_has_positive_size (token_forms_in_context here) units body more) in
    let token : IsTokenOfKindAndSize (token_forms_in_context here) units body k size = subst (λ (p : TokenKind × ℕ). IsTokenOfKindAndSize (token_forms_in_context here) units body p.0 p.1) (sym is) (found_kind_and_size_are_token (token_forms_in_context here) units body) in
    let same : size ≡ start + size - start = omega arith in (
      here_is,
      more,
      omega (arith, some),
      subst (λ (n : ℕ). IsTokenOfKindAndSize (token_forms_in_context here) units body k n) same token,
      subst (λ (n : ℕ). AreTokensFrom (context_after_token here k (take n body) (drop n body)) line (start + size) ts) same later,
    )

-- by whether anything is left
token_list_by_line_end_test : (here : TokenContext) (line : List ℕ) (at start : ℕ) (t : Bool) (found : TokenKind × ℕ) (ts : List Token) → start ≡ next_token_start line at → is_line_end_or_empty (drop start line) ≡ t → found ≡ kind_and_size_after_units (token_forms_in_context here) (units_left_of_place line start) (drop start line)
    → (t ≡ false → AreTokensFrom (context_after_token here found.0 (take found.1 (drop start line)) (drop found.1 (drop start line))) line (start + found.1) ts)
    → AreTokensFrom here line at (if t then [] else record { kind = found.0; start = start; stop = start + found.1 } ∷ ts)
token_list_by_line_end_test here line at start true found ts here_is e is later = ap (λ (n : ℕ). is_line_end_or_empty (drop n line)) (sym here_is) ∙ e
token_list_by_line_end_test here line at start false found ts here_is e is later = found_token_before_tokens_is_token_list here line at start found.0 found.1 ts here_is e is (later refl)

-- nothing is left behind the end
nothing_follows_line_end : (line : List ℕ) (at : ℕ) → length line ≤ at → is_line_end_or_empty (drop (next_token_start line at) line) ≡ true
nothing_follows_line_end line at past = ap is_line_end_or_empty (drop_all (next_token_start line at) line (omega arith))

pub tokens_from_offset_are_tokens_of_line : (n : ℕ) (here : TokenContext) (line : List ℕ) (at : ℕ) → length line - at ≤ n → AreTokensFrom here line at (tokens_from_offset n here line at)
unfolding tokens_from_offset
tokens_from_offset_are_tokens_of_line zero here line at h = nothing_follows_line_end line at (omega arith)
tokens_from_offset_are_tokens_of_line (suc n) here line at h =
    let start = next_token_start line at in
    let body = drop start line in
    let found = kind_and_size_after_units (token_forms_in_context here) (units_left_of_place line start) body in
    token_list_by_line_end_test here line at start (is_line_end_or_empty body) found
    (tokens_from_offset n (context_after_token here found.0 (take found.1 body) (drop found.1 body)) line (start + found.1))
    refl refl refl (λ more.
    let some = found_token_has_positive_size (token_forms_in_context here) (units_left_of_place line start) body more in
    tokens_from_offset_are_tokens_of_line n (context_after_token here found.0 (take found.1 body) (drop found.1 body)) line (start + found.1) (omega (arith, h, some)))

pub computed_tokens_are_tokens_of_line : (m : Mode) (line : List ℕ) → HasTokens m line (tokens_of_line m line)
unfolding tokens_of_line
computed_tokens_are_tokens_of_line m line = tokens_from_offset_are_tokens_of_line (length line) (context.First m) line 0 (omega arith)

pub tokens_from_place_are_unique : (ts us : List Token) (here : TokenContext) (line : List ℕ) (at : ℕ) → AreTokensFrom here line at ts → AreTokensFrom here line at us → ts ≡ us
tokens_from_place_are_unique [] [] here line at x y = refl
tokens_from_place_are_unique [] (u ∷ us) here line at x y = absurd (let other : is_line_end_or_empty (drop (next_token_start line at) line) ≡ false = ap (λ (n : ℕ). is_line_end_or_empty (drop n line)) (sym y.0) ∙ y.1 in cc)
tokens_from_place_are_unique (t ∷ ts) [] here line at x y = absurd (let other : is_line_end_or_empty (drop (next_token_start line at) line) ≡ false = ap (λ (n : ℕ). is_line_end_or_empty (drop n line)) (sym x.0) ∙ x.1 in cc)
tokens_from_place_are_unique (t ∷ ts) (u ∷ us) here line at x y =
    let body = drop t.start line in
    let size = t.stop - t.start in
    let starts : t.start ≡ u.start = x.0 ∙ sym y.0 in
    let mine : IsTokenOfKindAndSize (token_forms_in_context here) (units_left_of_place line t.start) body u.kind (u.stop - u.start) =
    subst (λ (n : ℕ). IsTokenOfKindAndSize (token_forms_in_context here) (units_left_of_place line n) (drop n line) u.kind (u.stop - u.start)) (sym starts) y.3 in
    let same = token_at_bytes_is_unique (token_forms_in_context here) (units_left_of_place line t.start) body t.kind u.kind size (u.stop - u.start) x.3 mine in
    let stops : t.stop ≡ u.stop = omega (arith, x.2, y.2, starts, same.1) in
    let tokens : u ≡ t = λ j. record { kind = sym same.0 j; start = sym starts j; stop = sym stops j } in
    let after : AreTokensFrom (context_after_token here t.kind (take size body) (drop size body)) line t.stop us =
    subst (λ (v : Token). AreTokensFrom (context_after_token here v.kind (take (v.stop - v.start) (drop v.start line)) (drop (v.stop - v.start) (drop v.start line))) line v.stop us) tokens y.4 in
    ap (λ (v : Token). v ∷ ts) (sym tokens)
    ∙ ap (λ (vs : List Token). u ∷ vs) (tokens_from_place_are_unique ts us (context_after_token here t.kind (take size body) (drop size body)) line t.stop x.4 after)

pub tokens_of_line_are_unique : (m : Mode) (line : List ℕ) (ts us : List Token) → HasTokens m line ts → HasTokens m line us → ts ≡ us
tokens_of_line_are_unique m line ts us x y = tokens_from_place_are_unique ts us (context.First m) line 0 x y
