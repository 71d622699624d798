-- Tokens behind a place of a line keep, moved, whatever stands before it.
use Rattle.std.proofs.Common.{◌≡◌, ℕ, zero, suc, ◌+◌, ◌-◌, ◌≤◌, ◌<◌, true, false, List, [], ◌∷◌, ◌++◌, length, take, drop, refl, sym, ap, ◌∙◌, arith}
use Rattle.std.specs.Prelude.{slice_range}
use Rattle.std.proofs.lemmas.List.{length-drop, drop-append-le, take-append-le}
use Rattle.sudoers_text.specs.declared.token.Token.{Token}
use Rattle.sudoers_text.specs.declared.context.TokenContext.TheVariants as context
use Rattle.sudoers_text.specs.Unit.{LineUnit}
use Rattle.sudoers_text.specs.Context.{token_forms_in_word_lists}
use Rattle.sudoers_text.specs.Found.{kind_and_size_after_units}
use Rattle.sudoers_text.specs.Token.{units_left_of_place, leading_gap_size, is_line_end_or_empty, AreTokensFrom}
use Rattle.sudoers_text.specs.Renamed.{offset_after_replacement, token_after_replacement, tokens_after_replacement}
use Rattle.sudoers_edit.specs.internal.Plain.{is_plain_byte, ArePlainBytes}
use Rattle.sudoers_edit.proofs.PlainFound.{token_of_plain_bytes_after_units}
use Rattle.sudoers_edit.proofs.TokensBefore.{first_token_is_found, found_word_token_before_tokens}

pub bytes_past_front : (p s : List ℕ) (n c : ℕ) → n ≡ length p + c → drop n (p ++ s) ≡ drop c s
bytes_past_front [] s n c e = ap (λ (k : ℕ). drop k s) (omega (arith, e))
bytes_past_front (x ∷ p) s zero c e = absurd (omega (arith, e))
bytes_past_front (x ∷ p) s (suc n) c e = bytes_past_front p s n c (omega (arith, e))

-- Where more than the line end is left, plain bytes are.
plain_byte_is_left_before_lf : (r : List ℕ) (n : ℕ) → ArePlainBytes r → is_line_end_or_empty (drop n (r ++ 10 ∷ [])) ≡ false
    → (b : ℕ) × (xs : List ℕ) × (drop n (r ++ 10 ∷ []) ≡ b ∷ xs) × (is_plain_byte b ≡ true)
plain_byte_is_left_before_lf [] zero plain more = absurd (cc)
plain_byte_is_left_before_lf [] (suc zero) plain more = absurd (cc)
plain_byte_is_left_before_lf [] (suc (suc n)) plain more = absurd (cc)
plain_byte_is_left_before_lf (b ∷ r) zero plain more = (b, r ++ 10 ∷ [], refl, plain.0)
plain_byte_is_left_before_lf (b ∷ r) (suc n) plain more = plain_byte_is_left_before_lf r n plain.1 more

-- The same is found there, whatever stands left.
token_of_plain_rest_is_same : (one another : List LineUnit) (bytes : List ℕ) → ((b : ℕ) × (xs : List ℕ) × (bytes ≡ b ∷ xs) × (is_plain_byte b ≡ true))
    → kind_and_size_after_units token_forms_in_word_lists one bytes ≡ kind_and_size_after_units token_forms_in_word_lists another bytes
token_of_plain_rest_is_same one another bytes is =
    ap (kind_and_size_after_units token_forms_in_word_lists one) is.2
    ∙ token_of_plain_bytes_after_units one is.0 is.1 is.3 ∙ sym (token_of_plain_bytes_after_units another is.0 is.1 is.3)
    ∙ ap (kind_and_size_after_units token_forms_in_word_lists another) (sym is.2)

pub tokens_behind_place_are_moved : (p o r : List ℕ) → ArePlainBytes r → (ts : List Token) (n c m : ℕ) → n ≡ length p + c → m ≡ length o + c
    → AreTokensFrom context.Words (p ++ (r ++ 10 ∷ [])) n ts
    → AreTokensFrom context.Words (o ++ (r ++ 10 ∷ [])) m (tokens_after_replacement (length p) (length o) ts)
tokens_behind_place_are_moved p o r plain [] n c m e f are =
    let s = r ++ 10 ∷ [] in
    let old = bytes_past_front p s n c e in
    let new = bytes_past_front o s m c f in
    let g = leading_gap_size (drop n (p ++ s)) in
    let gaps : leading_gap_size (drop m (o ++ s)) ≡ g = ap leading_gap_size (new ∙ sym old) in
    ap is_line_end_or_empty (bytes_past_front o s (m + leading_gap_size (drop m (o ++ s))) (c + g) (omega (arith, f, gaps))
    ∙ sym (bytes_past_front p s (n + g) (c + g) (omega (arith, e)))) ∙ are
tokens_behind_place_are_moved p o r plain (t ∷ ts) n c m e f are =
    let s = r ++ 10 ∷ [] in
    let old = bytes_past_front p s n c e in
    let new = bytes_past_front o s m c f in
    let g = leading_gap_size (drop n (p ++ s)) in
    let gaps : leading_gap_size (drop m (o ++ s)) ≡ g = ap leading_gap_size (new ∙ sym old) in
    let here : drop t.start (p ++ s) ≡ drop (c + g) s = bytes_past_front p s t.start (c + g) (omega (arith, e, are.0)) in
    let moved = token_after_replacement (length p) (length o) t in
    let start : moved.start ≡ m + g = omega (arith, e, f, are.0) in
    let there : drop moved.start (o ++ s) ≡ drop (c + g) s = bytes_past_front o s moved.start (c + g) (omega (arith, e, f, are.0)) in
    let size : moved.stop - moved.start ≡ t.stop - t.start = omega (arith, e, are.0, are.2) in
    let more : is_line_end_or_empty (drop (c + g) s) ≡ false = ap is_line_end_or_empty (sym here) ∙ are.1 in
    let units = units_left_of_place (p ++ s) t.start in
    let others = units_left_of_place (o ++ s) moved.start in
    let is : (moved.kind, moved.stop - moved.start) ≡ kind_and_size_after_units token_forms_in_word_lists others (drop moved.start (o ++ s)) =
    ap (λ (k : ℕ). (t.kind, k)) size ∙ first_token_is_found context.Words (p ++ s) n t ts are ∙ ap (kind_and_size_after_units token_forms_in_word_lists units) here
    ∙ token_of_plain_rest_is_same units others (drop (c + g) s) (plain_byte_is_left_before_lf r (c + g) plain more)
    ∙ ap (kind_and_size_after_units token_forms_in_word_lists others) (sym there) in
    found_word_token_before_tokens (o ++ s) m moved (tokens_after_replacement (length p) (length o) ts) (omega (arith, start, gaps)) (ap is_line_end_or_empty there ∙ more)
    (omega (arith, e, are.0, are.2)) is
    (tokens_behind_place_are_moved p o r plain ts t.stop (c + g + (t.stop - t.start)) moved.stop (omega (arith, e, are.0, are.2)) (omega (arith, e, f, are.0, are.2)) are.4)

-- ---- the texts of tokens

pub slice_before_place_keeps : (p s o : List ℕ) (start stop : ℕ) → start < stop → stop ≤ length p → slice_range (p ++ s) start stop ≡ slice_range (p ++ o) start stop
slice_before_place_keeps p s o start stop some inside =
    let first : start ≤ length p = omega (arith, some, inside) in
    let size : stop - start ≤ length (drop start p) = omega (arith, length-drop start p, some, inside) in
    ap (take (stop - start)) (drop-append-le start p s first) ∙ take-append-le (stop - start) (drop start p) s size
    ∙ sym (take-append-le (stop - start) (drop start p) o size) ∙ ap (take (stop - start)) (sym (drop-append-le start p o first))

pub slice_behind_place_is_moved : (p o s : List ℕ) (start stop c : ℕ) → start ≡ length p + c → start < stop
    → slice_range (p ++ s) start stop ≡ slice_range (o ++ s) (offset_after_replacement (length p) (length o) start) (offset_after_replacement (length p) (length o) stop)
slice_behind_place_is_moved p o s start stop c e some =
    let size : stop - start ≡ offset_after_replacement (length p) (length o) stop - offset_after_replacement (length p) (length o) start = omega (arith, e, some) in
    let bytes : drop start (p ++ s) ≡ drop (offset_after_replacement (length p) (length o) start) (o ++ s) =
    bytes_past_front p s start c e ∙ sym (bytes_past_front o s (offset_after_replacement (length p) (length o) start) c (omega (arith, e))) in
    ap (take (stop - start)) bytes ∙ ap (λ (k : ℕ). take k (drop (offset_after_replacement (length p) (length o) start) (o ++ s))) size
