-- The tokens of a line that is written token by token.
use Rattle.laws_print.proofs.Common.{◌≡◌, ℕ, zero, suc, ◌+◌, ◌≤◌, Bool, true, false, List, [], ◌∷◌, ◌++◌, length, take, drop, refl, sym, ap, subst, ◌∙◌}
use Rattle.laws_print.proofs.Common.{arith, if◌then◌else◌, length-append, append_assoc, drop_at, take_at, TokenKind, Token, Mode, TokenContext, LineUnit}
use Rattle.laws_print.proofs.Common.{is_id_position_after_units, bytes_of_units_after_leading_gap, leading_run_size, units_with_those_of_bytes, units_left_of_place, is_line_end_or_empty, token_forms_in_context, context_after_token, tokens_of_line, WrittenToken, text_of_units, gap_bytes_if_spaced, line_of_written_tokens}
use Rattle.laws_print.proofs.Common.{tokens_placed_from_offset, IsClosedText, TokenPlace, At, Start, BehindDefaults, StandsAtPlace, AllowsGapAtPlace, AreTokensCut, AreTokensCutFromPlace}
use Rattle.sudoers_text.specs.declared.part.ByteRunKind.TheVariants as rule
use Rattle.sudoers_text.specs.declared.context.TokenContext.TheVariants as context
use Rattle.sudoers_text.specs.Unit.{is_empty}
use Rattle.sudoers_text.specs.Token.{next_token_start}
use Rattle.sudoers_text.specs.Found.{kind_and_size_after_units, tokens_from_offset}
use Rattle.laws_print.proofs.Written.{IsPossibleAtPlace}

-- ---- one token more

-- what is computed at a place where something is left
tokens_from_found_token : ℕ → TokenContext → List ℕ → ℕ → Bool → TokenKind × ℕ → List Token
tokens_from_found_token n here line start t token =
    if t then []
    else record { kind = token.0; start = start; stop = start + token.1 }
    ∷ tokens_from_offset n (context_after_token here token.0 (take token.1 (drop start line)) (drop token.1 (drop start line))) line (start + token.1)

tokens_from_offset_begin_with_found_token : (n : ℕ) (here : TokenContext) (line : List ℕ) (at start : ℕ) (k : TokenKind) (size : ℕ) → next_token_start line at ≡ start → is_line_end_or_empty (drop start line) ≡ false → kind_and_size_after_units (token_forms_in_context here) (units_left_of_place line start) (drop start line) ≡ (k, size)
    → tokens_from_offset (suc n) here line at ≡ record { kind = k; start = start; stop = start + size } ∷ tokens_from_offset n (context_after_token here k (take size (drop start line)) (drop size (drop start line))) line (start + size)
unfolding tokens_from_offset tokens_from_found_token
tokens_from_offset_begin_with_found_token n here line at start k size is more token =
    ap (λ (s : ℕ). tokens_from_found_token n here line s (is_line_end_or_empty (drop s line)) (kind_and_size_after_units (token_forms_in_context here) (units_left_of_place line s) (drop s line))) is
    ∙ ap (λ (t : Bool). tokens_from_found_token n here line start t (kind_and_size_after_units (token_forms_in_context here) (units_left_of_place line start) (drop start line))) more
    ∙ ap (λ (p : TokenKind × ℕ). tokens_from_found_token n here line start false p) token

-- ---- the parts of a line

gap_run_size_is_gap_length : (s : Bool) (bytes : List ℕ) → leading_run_size rule.Gap bytes ≡ 0 → leading_run_size rule.Gap (gap_bytes_if_spaced s ++ bytes) ≡ length (gap_bytes_if_spaced s)
unfolding leading_run_size
gap_run_size_is_gap_length true bytes none = omega (arith, none)
gap_run_size_is_gap_length false bytes none = none

written_gap_is_closed : (s : Bool) → IsClosedText (gap_bytes_if_spaced s)
written_gap_is_closed true before rest = refl
written_gap_is_closed false before rest = refl

written_gap_keeps_place : (s : Bool) (there : TokenPlace) (before : List LineUnit) → AllowsGapAtPlace there s → StandsAtPlace there before → StandsAtPlace there (units_with_those_of_bytes before (gap_bytes_if_spaced s))
written_gap_keeps_place false there before takes stands = stands
written_gap_keeps_place true (At item) before takes stands = stands
written_gap_keeps_place true there before takes stands = absurd (cc)

place_allows_its_id_position : (there : TokenPlace) (before : List LineUnit) → StandsAtPlace there before → IsPossibleAtPlace there (is_id_position_after_units before)
place_allows_its_id_position (At item) before stands = stands
place_allows_its_id_position Start before stands = tt
place_allows_its_id_position BehindDefaults before stands = tt

pub appended_closed_texts_are_closed : (x y : List ℕ) → IsClosedText x → IsClosedText y → IsClosedText (x ++ y)
appended_closed_texts_are_closed x y cx cy before rest =
    ap (units_with_those_of_bytes before) (append_assoc x y rest) ∙ cx before (y ++ rest) ∙ cy (units_with_those_of_bytes before x) rest
    ∙ ap (λ (us : List LineUnit). units_with_those_of_bytes us rest) (sym (cx before y))

-- ---- the tokens

-- the place behind a token, by the bytes before it
pub record IsClosedFrontOfLine (front : List ℕ) (line rest : List ℕ) : Type 0 where
  pub whole : line ≡ front ++ rest
  pub closed : IsClosedText front

line_end_has_no_tokens : (n : ℕ) (here : TokenContext) (line : List ℕ) (at : ℕ) → drop at line ≡ 10 ∷ [] → tokens_from_offset (suc n) here line at ≡ []
unfolding tokens_from_offset leading_run_size tokens_from_found_token
line_end_has_no_tokens n here line at is =
    let start : next_token_start line at ≡ at = ap (λ (bytes : List ℕ). at + leading_run_size rule.Gap bytes) is ∙ omega arith in
    ap (λ (s : ℕ). tokens_from_found_token n here line s (is_line_end_or_empty (drop s line)) (kind_and_size_after_units (token_forms_in_context here) (units_left_of_place line s) (drop s line))) start
    ∙ ap (λ (bytes : List ℕ). tokens_from_found_token n here line at (is_line_end_or_empty bytes) (kind_and_size_after_units (token_forms_in_context here) (units_left_of_place line at) (drop at line))) is

same_context_gives_same_tokens_behind : (line : List ℕ) (n start : ℕ) (here other : TokenContext) (k : TokenKind) (size : ℕ) (ts : List Token) → here ≡ other → tokens_from_offset n other line (start + size) ≡ ts
    → record { kind = k; start = start; stop = start + size } ∷ tokens_from_offset n here line (start + size) ≡ record { kind = k; start = start; stop = start + size } ∷ ts
same_context_gives_same_tokens_behind line n start here other k size ts same later =
    ap (λ (c : TokenContext). record { kind = k; start = start; stop = start + size } ∷ tokens_from_offset n c line (start + size)) same
    ∙ ap (λ (us : List Token). record { kind = k; start = start; stop = start + size } ∷ us) later

tokens_from_offset_are_placed : (ps : List WrittenToken) (n : ℕ) (here : TokenContext) (item : TokenPlace) (line front : List ℕ) (at : ℕ) → length (line_of_written_tokens ps) ≤ n → at ≡ length front → IsClosedFrontOfLine front line (line_of_written_tokens ps) → StandsAtPlace item (units_with_those_of_bytes [] front) → AreTokensCutFromPlace here item ps → tokens_from_offset n here line at ≡ tokens_placed_from_offset at ps
tokens_from_offset_are_placed [] zero here item line front at fits is there begins cut = absurd (omega (arith, fits))
tokens_from_offset_are_placed [] (suc n) here item line front at fits is there begins cut =
    line_end_has_no_tokens n here line at (ap (drop at) there.whole ∙ drop_at front (10 ∷ []) at (sym is))
tokens_from_offset_are_placed (p ∷ ps) zero here item line front at fits is there begins cut =
    let text = text_of_units p.units in
    let g = gap_bytes_if_spaced p.spaced in
    absurd (omega (arith, fits, cut.1.some, length-append g (text ++ line_of_written_tokens ps), length-append text (line_of_written_tokens ps)))
tokens_from_offset_are_placed (p ∷ ps) (suc n) here item line front at fits is there begins cut =
    let text = text_of_units p.units in
    let g = gap_bytes_if_spaced p.spaced in
    let rest = line_of_written_tokens ps in
    let start = at + length g in
    let size = length text in
    let front_size : length (front ++ g) ≡ start = omega (arith, length-append front g, is) in
    let here_is : drop at line ≡ g ++ (text ++ rest) = ap (drop at) there.whole ∙ drop_at front (g ++ (text ++ rest)) at (sym is) in
    let starts : next_token_start line at ≡ start =
    ap (λ (bytes : List ℕ). at + leading_run_size rule.Gap bytes) here_is ∙ ap (λ (k : ℕ). at + k) (gap_run_size_is_gap_length p.spaced (text ++ rest) cut.1.no_gap) in
    let whole : line ≡ (front ++ g) ++ (text ++ rest) = there.whole ∙ sym (append_assoc front g (text ++ rest)) in
    let body : drop start line ≡ text ++ rest = ap (drop start) whole ∙ drop_at (front ++ g) (text ++ rest) start front_size in
    let left : units_left_of_place line start ≡ units_with_those_of_bytes (units_with_those_of_bytes [] front) g =
    ap (λ (bytes : List ℕ). units_with_those_of_bytes [] bytes) (ap (take start) whole ∙ take_at (front ++ g) (text ++ rest) start front_size)
    ∙ there.closed [] g in
    let item_there : StandsAtPlace item (units_with_those_of_bytes (units_with_those_of_bytes [] front) g) = written_gap_keeps_place p.spaced item (units_with_those_of_bytes [] front) cut.3 begins in
    let token : kind_and_size_after_units (token_forms_in_context here) (units_left_of_place line start) (drop start line) ≡ (p.kind, size) =
    ap (λ (us : List LineUnit). kind_and_size_after_units (token_forms_in_context here) us (drop start line)) left
    ∙ ap (λ (bytes : List ℕ). kind_and_size_after_units (token_forms_in_context here) (units_with_those_of_bytes (units_with_those_of_bytes [] front) g) bytes) body
    ∙ cut.1.found (is_id_position_after_units (units_with_those_of_bytes (units_with_those_of_bytes [] front) g)) (is_empty (bytes_of_units_after_leading_gap (units_with_those_of_bytes (units_with_those_of_bytes [] front) g))) (place_allows_its_id_position item (units_with_those_of_bytes (units_with_those_of_bytes [] front) g) item_there) in
    let more : is_line_end_or_empty (drop start line) ≡ false = ap is_line_end_or_empty body ∙ cut.1.more in
    let taken : take size (drop start line) ≡ text = ap (take size) body ∙ take_at text rest size refl in
    let dropped : drop size (drop start line) ≡ rest = ap (drop size) body ∙ drop_at text rest size refl in
    let front_closed : IsClosedText (front ++ g) = appended_closed_texts_are_closed front g there.closed (written_gap_is_closed p.spaced) in
    let next_front : IsClosedFrontOfLine ((front ++ g) ++ text) line rest = record {
      whole = whole ∙ sym (append_assoc (front ++ g) text rest);
      closed = appended_closed_texts_are_closed (front ++ g) text front_closed cut.1.closed;
    } in
    let next_item : StandsAtPlace cut.0 (units_with_those_of_bytes [] ((front ++ g) ++ text)) =
    subst (λ (us : List LineUnit). StandsAtPlace cut.0 us)
    (sym (front_closed [] text ∙ ap (λ (us : List LineUnit). units_with_those_of_bytes us text) (there.closed [] g)))
    (cut.1.leaves (units_with_those_of_bytes (units_with_those_of_bytes [] front) g) item_there) in
    let context_is : context_after_token here p.kind (take size (drop start line)) (drop size (drop start line)) ≡ context_after_token here p.kind text rest =
    ap (λ (x : List ℕ). context_after_token here p.kind x (drop size (drop start line))) taken ∙ ap (λ (x : List ℕ). context_after_token here p.kind text x) dropped in
    tokens_from_offset_begin_with_found_token n here line at start p.kind size starts more token
    ∙ same_context_gives_same_tokens_behind line n start (context_after_token here p.kind (take size (drop start line)) (drop size (drop start line))) (context_after_token here p.kind text rest) p.kind size (tokens_placed_from_offset (start + size) ps) context_is
    (tokens_from_offset_are_placed ps n (context_after_token here p.kind text rest) cut.0 line ((front ++ g) ++ text) (start + size)
    (omega (arith, fits, cut.1.some, length-append g (text ++ rest), length-append text rest))
    (omega (arith, front_size, length-append (front ++ g) text)) next_front next_item cut.2)

pub empty_text_is_closed : IsClosedText []
empty_text_is_closed before rest = refl

-- Tokens that are cut are so from a place where an ID may begin or not.
pub cut_tokens_are_cut_from_place : (ps : List WrittenToken) (here : TokenContext) (item : Bool) → AreTokensCut here item ps → AreTokensCutFromPlace here (At item) ps
cut_tokens_are_cut_from_place [] here item cut = tt
cut_tokens_are_cut_from_place (p ∷ ps) here item cut = (At cut.0, cut.1, cut_tokens_are_cut_from_place ps (context_after_token here p.kind (text_of_units p.units) (line_of_written_tokens ps)) cut.0 cut.2, tt)

pub tokens_cut_from_start_are_placed : (m : Mode) (ps : List WrittenToken) → AreTokensCutFromPlace (context.First m) Start ps → tokens_of_line m (line_of_written_tokens ps) ≡ tokens_placed_from_offset 0 ps
unfolding tokens_of_line
tokens_cut_from_start_are_placed m ps cut =
    tokens_from_offset_are_placed ps (length (line_of_written_tokens ps)) (context.First m) Start (line_of_written_tokens ps) [] 0 (omega arith) refl (record { whole = refl; closed = empty_text_is_closed }) refl cut

pub tokens_of_cut_line_are_placed : (m : Mode) (ps : List WrittenToken) → AreTokensCut (context.First m) true ps → tokens_of_line m (line_of_written_tokens ps) ≡ tokens_placed_from_offset 0 ps
unfolding tokens_of_line
tokens_of_cut_line_are_placed m ps cut =
    tokens_from_offset_are_placed ps (length (line_of_written_tokens ps)) (context.First m) (At true) (line_of_written_tokens ps) [] 0 (omega arith) refl (record { whole = refl; closed = empty_text_is_closed }) (λ t. refl) (cut_tokens_are_cut_from_place ps (context.First m) true cut)
