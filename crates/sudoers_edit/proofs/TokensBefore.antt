-- Tokens before a place of a line keep, whatever stands behind it, where no word goes on there.
use Rattle.std.proofs.Common.{◌≡◌, ℕ, zero, suc, ◌+◌, ◌-◌, ◌≤◌, ◌<◌, Bool, true, false, ◌&&◌, List, [], ◌∷◌, ◌++◌, length, drop, refl, sym, ap, subst, ◌∙◌, arith}
use Rattle.std.specs.Prelude.{◌==◌, if◌then◌else◌}
use Rattle.std.proofs.lemmas.List.{length-drop, drop-append-le}
use Rattle.std.proofs.lemmas.Bool.Decides.{nat_tests}
use Rattle.sudoers_text.specs.declared.part.ByteRunKind.TheVariants as rule
use Rattle.sudoers_text.specs.declared.token.Token.{Token}
use Rattle.sudoers_text.specs.declared.context.TokenContext.{TokenContext}
use Rattle.sudoers_text.specs.declared.context.TokenContext.TheVariants as context
use Rattle.sudoers_text.specs.Unit.{LineUnit, begins_lf, line_end_size}
use Rattle.sudoers_text.specs.Part.{is_punct, leading_run_size}
use Rattle.sudoers_text.specs.Context.{token_forms_in_word_lists, token_forms_in_context}
use Rattle.sudoers_text.specs.Found.{kind_and_size_after_units}
use Rattle.sudoers_text.specs.Token.{units_left_of_place, leading_gap_size, next_token_start, is_line_end_or_empty, AreTokensFrom}
use Rattle.sudoers_text.proofs.Ahead.{bytes_told_apart_by_test_are_unequal}
use Rattle.sudoers_text.proofs.TokenLists.{found_kind_and_size_are_token, token_at_bytes_is_unique, found_token_before_tokens_is_token_list}
use Rattle.sudoers_edit.specs.internal.Plain.{is_plain_byte, ArePlainBytes}
use Rattle.sudoers_edit.proofs.PlainRuns.{runs_of_plain_bytes_are_equal_before_ends, gaps_that_end_in_plain_bytes_are_equal}
use Rattle.sudoers_edit.proofs.PlainFound.{kind_and_size_by_mark_or_word, token_of_plain_bytes_after_units}

-- where tokens from a place on end
abbrev pub stop_of_tokens : ℕ → List Token → ℕ
stop_of_tokens at [] = at
stop_of_tokens at (t ∷ ts) = stop_of_tokens t.stop ts

pub first_token_is_found : (here : TokenContext) (line : List ℕ) (at : ℕ) (t : Token) (ts : List Token) → AreTokensFrom here line at (t ∷ ts)
    → (t.kind, t.stop - t.start) ≡ kind_and_size_after_units (token_forms_in_context here) (units_left_of_place line t.start) (drop t.start line)
first_token_is_found here line at t ts are =
    let units = units_left_of_place line t.start in
    let body = drop t.start line in
    let is = kind_and_size_after_units (token_forms_in_context here) units body in
    let same = token_at_bytes_is_unique (token_forms_in_context here) units body t.kind is.0 (t.stop - t.start) is.1 are.3 (found_kind_and_size_are_token (token_forms_in_context here) units body) in
    λ j. (same.0 j, same.1 j)

-- A token found at a place, with any number for its end that is right, stands before the tokens behind it.
pub found_word_token_before_tokens : (line : List ℕ) (at : ℕ) (t : Token) (ts : List Token) → t.start ≡ next_token_start line at → is_line_end_or_empty (drop t.start line) ≡ false → t.start < t.stop
    → (t.kind, t.stop - t.start) ≡ kind_and_size_after_units token_forms_in_word_lists (units_left_of_place line t.start) (drop t.start line)
    → AreTokensFrom context.Words line t.stop ts → AreTokensFrom context.Words line at (t ∷ ts)
found_word_token_before_tokens line at t ts start more some is later =
    let stops : t.start + (t.stop - t.start) ≡ t.stop = omega (arith, some) in
    let tokens = found_token_before_tokens_is_token_list context.Words line at t.start t.kind (t.stop - t.start) ts start more is
    (subst (λ (n : ℕ). AreTokensFrom context.Words line n ts) (sym stops) later) in
    subst (λ (w : Token). AreTokensFrom context.Words line at (w ∷ ts)) (λ j. record { kind = t.kind; start = t.start; stop = stops j }) tokens

pub tokens_end_no_earlier : (ts us : List Token) (line : List ℕ) (at : ℕ) → AreTokensFrom context.Words line at (ts ++ us) → at ≤ stop_of_tokens at ts
tokens_end_no_earlier [] us line at are = omega arith
tokens_end_no_earlier (t ∷ ts) us line at are = omega (arith, are.0, are.2, tokens_end_no_earlier ts us line t.stop are.4)

number_is_not_suc_of_more : (n k : ℕ) → n ≡ 0 → (n == suc k) ≡ false
number_is_not_suc_of_more n k e = grind (arith, nat_tests, e)

pub plain_byte_is_no_line_end : (b : ℕ) (xs : List ℕ) → is_plain_byte b ≡ true → is_line_end_or_empty (b ∷ xs) ≡ false
plain_byte_is_no_line_end b xs h =
    let lf : (b == 10) ≡ false = bytes_told_apart_by_test_are_unequal is_plain_byte 10 b h refl in
    let cr : (b == 13) ≡ false = bytes_told_apart_by_test_are_unequal is_plain_byte 13 b h refl in
    number_is_not_suc_of_more (line_end_size (b ∷ xs)) (length xs) (by_tests (b == 10) (b == 13) (begins_lf xs) lf cr)
  where
    by_tests : (s t w : Bool) → s ≡ false → t ≡ false → ◌≡◌ {A = ℕ} (if s then 1 else (if t && w then 2 else 0)) 0
    by_tests true t w e f = absurd (cc)
    by_tests false true w e f = absurd (cc)
    by_tests false false w e f = refl

pub plain_bytes_drop_to_plain_bytes : (n : ℕ) (q : List ℕ) → ArePlainBytes q → ArePlainBytes (drop n q)
plain_bytes_drop_to_plain_bytes zero q plain = plain
plain_bytes_drop_to_plain_bytes (suc n) [] plain = plain
plain_bytes_drop_to_plain_bytes (suc n) (b ∷ q) plain = plain_bytes_drop_to_plain_bytes n q plain.1

-- What is found where plain bytes begin, and a word ends with them or before, does not depend on what is behind them.
token_in_plain_bytes_is_same : (q s t : List ℕ) (one another : List LineUnit) → 0 < length q → ArePlainBytes q → leading_run_size rule.Word s ≡ 0 → leading_run_size rule.Word t ≡ 0
    → (kind_and_size_after_units token_forms_in_word_lists one (q ++ s) ≡ kind_and_size_after_units token_forms_in_word_lists another (q ++ t)) × (is_line_end_or_empty (q ++ t) ≡ false)
token_in_plain_bytes_is_same [] s t one another some plain e f = absurd (omega (arith, some))
token_in_plain_bytes_is_same (b ∷ q) s t one another some plain e f = (
  token_of_plain_bytes_after_units one b (q ++ s) plain.0
      ∙ ap (kind_and_size_by_mark_or_word (is_punct b)) (runs_of_plain_bytes_are_equal_before_ends (b ∷ q) s t plain e f)
      ∙ sym (token_of_plain_bytes_after_units another b (q ++ t) plain.0),
  plain_byte_is_no_line_end b (q ++ t) plain.0,
)

pub tokens_before_place_keep : (p s o : List ℕ) → ArePlainBytes p → leading_run_size rule.Word s ≡ 0 → leading_run_size rule.Word o ≡ 0
    → (ts us vs : List Token) (at : ℕ) → stop_of_tokens at ts ≡ length p → AreTokensFrom context.Words (p ++ s) at (ts ++ us)
    → AreTokensFrom context.Words (p ++ o) (length p) vs → AreTokensFrom context.Words (p ++ o) at (ts ++ vs)
tokens_before_place_keep p s o plain e f [] us vs at stop are behind =
    subst (λ (n : ℕ). AreTokensFrom context.Words (p ++ o) n vs) (sym stop) behind
tokens_before_place_keep p s o plain e f (t ∷ ts) us vs at stop are behind =
    let last : t.stop ≤ length p = omega (arith, stop, tokens_end_no_earlier ts us (p ++ s) t.stop are.4) in
    let inside : at ≤ length p = omega (arith, are.0, are.2, last) in
    let old : drop at (p ++ s) ≡ drop at p ++ s = drop-append-le at p s inside in
    let new : drop at (p ++ o) ≡ drop at p ++ o = drop-append-le at p o inside in
    let gap : leading_gap_size (drop at p ++ o) ≡ leading_gap_size (drop at p ++ s) =
    gaps_that_end_in_plain_bytes_are_equal (drop at p) s o (plain_bytes_drop_to_plain_bytes at p plain)
    (omega (arith, are.0, are.2, last, ap leading_gap_size old, length-drop at p)) in
    let start : t.start ≡ next_token_start (p ++ o) at = omega (arith, are.0, ap leading_gap_size old, ap leading_gap_size new, gap) in
    let first : t.start ≤ length p = omega (arith, are.2, last) in
    let body : drop t.start (p ++ s) ≡ drop t.start p ++ s = drop-append-le t.start p s first in
    let other : drop t.start (p ++ o) ≡ drop t.start p ++ o = drop-append-le t.start p o first in
    let units = units_left_of_place (p ++ s) t.start in
    let others = units_left_of_place (p ++ o) t.start in
    let same = token_in_plain_bytes_is_same (drop t.start p) s o units others (omega (arith, length-drop t.start p, are.2, last)) (plain_bytes_drop_to_plain_bytes t.start p plain) e f in
    found_word_token_before_tokens (p ++ o) at t (ts ++ vs) start (ap is_line_end_or_empty other ∙ same.1) are.2
    (first_token_is_found context.Words (p ++ s) at t (ts ++ us) are ∙ ap (kind_and_size_after_units token_forms_in_word_lists units) body ∙ same.0
    ∙ ap (kind_and_size_after_units token_forms_in_word_lists others) (sym other))
    (tokens_before_place_keep p s o plain e f ts us vs t.stop stop are.4 behind)
