-- How far a line has been respelled, and that a line has one respelled line only.
use Rattle.std.proofs.Common.{◌≡◌, ℕ, zero, suc, ◌+◌, ◌-◌, ◌≤◌, ◌<◌, Bool, true, false, not, List, [], ◌∷◌, ◌++◌, length, take, drop, refl, sym, ap, subst, ◌∙◌, arith}
use Rattle.std.specs.Prelude.{◌==◌, if◌then◌else◌}
use Rattle.std.proofs.lemmas.List.{length-drop, append_assoc, drop_all}
use Rattle.sudoers_text.specs.declared.text_units.LeftContext.{LeftContext}
use Rattle.sudoers_text.specs.declared.token.TokenKind.{TokenKind}
use Rattle.sudoers_text.specs.declared.token.Token.{Token}
use Rattle.sudoers_text.specs.declared.context.TokenContext.{TokenContext}
use Rattle.sudoers_text.specs.declared.context.TokenContext.TheVariants as context
use Rattle.sudoers_text.specs.declared.adapting.TokenBefore.{TokenBefore}
use Rattle.sudoers_text.specs.declared.adapting.TokenBefore.TheVariants as before
use Rattle.sudoers_text.specs.declared.adapting.Respelling.{Respelling}
use Rattle.sudoers_text.specs.Piece.{TokenForm}
use Rattle.sudoers_text.specs.Context.{token_forms_in_context}
use Rattle.sudoers_text.specs.Token.{units_left_of_place, next_token_start, is_line_end_or_empty, IsTokenOfKindAndSize}
use Rattle.sudoers_text.specs.Found.{kind_and_size_of_token, kind_and_size_after_units}
use Rattle.sudoers_text.specs.LineMode.{line_mode}
use Rattle.sudoers_text.specs.Adapted.{respelling_of, prefix_of_respelled, text_of_respelled, context_after_respelled, respelled_token_before, AreRespelledFrom, IsRespelledLine, respelled_from_offset, respelled_line}
use Rattle.sudoers_text.proofs.Reach.{slice_from_count_to_end_is_drop}
use Rattle.sudoers_text.proofs.TokenLists.{found_token_has_positive_size, found_kind_and_size_are_token, token_at_bytes_is_unique}
use Rattle.sudoers_text.proofs.Standing.{IsNextTokenStartAt, next_token_start_is_within_line}

-- At this place of the line this may stand, and whatever the rest is respelled to completes what is so far.
pub record HasRespelledUpToPlace (line : List ℕ) (here : TokenContext) (left : TokenBefore) (at : ℕ) (so_far : List ℕ) : Type 0 where
  pub inside : at ≤ length line
  pub completes : (ts : List Token) (out : List ℕ) → AreRespelledFrom here left line at ts out → IsRespelledLine line (so_far ++ out)

pub record HasRespelledNextToken (line : List ℕ) (here : TokenContext) (left : TokenBefore) (start size : ℕ) (so_far : List ℕ) : Type 0 where
  pub some : 0 < size
  pub inside : start + size ≤ length line
  pub respelling : HasRespelledUpToPlace line here left (start + size) so_far

-- One token more stands before others.
found_token_before_respelled_tokens : (here : TokenContext) (left : TokenBefore) (line : List ℕ) (at start : ℕ) (k : TokenKind) (size : ℕ) (r : Respelling) (ts : List Token) (out : List ℕ) → start ≡ next_token_start line at → is_line_end_or_empty (drop start line) ≡ false
    → (k, size) ≡ kind_and_size_after_units (token_forms_in_context here) (units_left_of_place line start) (drop start line)
    → r ≡ respelling_of here left (not (start == at)) k (take size (drop start line)) (drop size (drop start line))
    → AreRespelledFrom (context_after_respelled r here k (take size (drop start line)) (drop size (drop start line))) (respelled_token_before r k (take size (drop start line))) line (start + size) ts out
    → AreRespelledFrom here left line at (record { kind = k; start = start; stop = start + size } ∷ ts) (take (start - at) (drop at line) ++ (prefix_of_respelled r left (not (start == at)) ++ (text_of_respelled r (take size (drop start line)) ++ out)))
found_token_before_respelled_tokens here left line at start k size r ts out here_is more is r_is later =
    let body = drop start line in
    let units = units_left_of_place line start in
    let apart = not (start == at) in
    let some : 0 < size = subst (λ (p : TokenKind × ℕ). 0 < p.1) (sym is) (found_token_has_positive_size (token_forms_in_context here) units body more) in
    let token : IsTokenOfKindAndSize (token_forms_in_context here) units body k size = subst (λ (p : TokenKind × ℕ). IsTokenOfKindAndSize (token_forms_in_context here) units body p.0 p.1) (sym is) (found_kind_and_size_are_token (token_forms_in_context here) units body) in
    let same : size ≡ start + size - start = omega arith in
    let whole = take (start - at) (drop at line) ++ (prefix_of_respelled r left apart ++ (text_of_respelled r (take size body) ++ out)) in (
      here_is,
      more,
      omega (arith, some),
      subst (λ (n : ℕ). IsTokenOfKindAndSize (token_forms_in_context here) units body k n) same token,
      subst (λ (n : ℕ).
          (rest : List ℕ)
          × (whole ≡ take (start - at) (drop at line) ++ (prefix_of_respelled (respelling_of here left apart k (take n body) (drop n body)) left apart ++ (text_of_respelled (respelling_of here left apart k (take n body) (drop n body)) (take n body) ++ rest)))
          × AreRespelledFrom (context_after_respelled (respelling_of here left apart k (take n body) (drop n body)) here k (take n body) (drop n body))
          (respelled_token_before (respelling_of here left apart k (take n body) (drop n body)) k (take n body)) line (start + size) ts rest) same
          (subst (λ (l : Respelling).
          (rest : List ℕ)
          × (whole ≡ take (start - at) (drop at line) ++ (prefix_of_respelled l left apart ++ (text_of_respelled l (take size body) ++ rest)))
          × AreRespelledFrom (context_after_respelled l here k (take size body) (drop size body)) (respelled_token_before l k (take size body)) line (start + size) ts rest) r_is (out, refl, later)),
    )

pub next_token_is_respelled : (line : List ℕ) (here after : TokenContext) (left next : TokenBefore) (known : LeftContext) (at start size : ℕ) (k : TokenKind) (r : Respelling) (text rest so_far new : List ℕ) → HasRespelledUpToPlace line here left at so_far → IsNextTokenStartAt line at start
    → ((fs : List TokenForm) → kind_and_size_of_token fs known.item (known.begun == 0) (drop start line) ≡ kind_and_size_after_units fs (units_left_of_place line start) (drop start line))
    → (k, size) ≡ kind_and_size_of_token (token_forms_in_context here) known.item (known.begun == 0) (take (length line - start) (drop start line)) → size ≤ length (take (length line - start) (drop start line))
    → text ≡ take size (drop start line) → rest ≡ drop size (drop start line)
    → r ≡ respelling_of here left (not (start == at)) k text rest
    → after ≡ context_after_respelled r here k text rest → next ≡ respelled_token_before r k text
    → new ≡ ((so_far ++ take (start - at) (drop at line)) ++ prefix_of_respelled r left (not (start == at))) ++ text_of_respelled r text
    → HasRespelledNextToken line after next start size new
next_token_is_respelled line here after left next known at start size k r text rest so_far new now next_at same is fits text_is rest_is r_is then_is next_is new_is =
    let body = drop start line in
    let units = units_left_of_place line start in
    let found_is : (k, size) ≡ kind_and_size_after_units (token_forms_in_context here) units body = is ∙ ap (kind_and_size_of_token (token_forms_in_context here) known.item (known.begun == 0)) (slice_from_count_to_end_is_drop start line) ∙ same (token_forms_in_context here) in
    let some : 0 < size = subst (λ (p : TokenKind × ℕ). 0 < p.1) (sym found_is) (found_token_has_positive_size (token_forms_in_context here) units body next_at.more) in
    let inside : start + size ≤ length line = omega (arith, fits, next_token_start_is_within_line line at start now.inside next_at, ap length (slice_from_count_to_end_is_drop start line), length-drop start line) in
    let front = take (start - at) (drop at line) in
    let put = prefix_of_respelled r left (not (start == at)) in
    let r_there : r ≡ respelling_of here left (not (start == at)) k (take size body) (drop size body) =
    r_is ∙ ap (λ (t : List ℕ). respelling_of here left (not (start == at)) k t rest) text_is ∙ ap (λ (t : List ℕ). respelling_of here left (not (start == at)) k (take size body) t) rest_is in
    let then_there : after ≡ context_after_respelled r here k (take size body) (drop size body) =
    then_is ∙ ap (λ (t : List ℕ). context_after_respelled r here k t rest) text_is ∙ ap (λ (t : List ℕ). context_after_respelled r here k (take size body) t) rest_is in
    let next_there : next ≡ respelled_token_before r k (take size body) = next_is ∙ ap (λ (t : List ℕ). respelled_token_before r k t) text_is in
    let written : text_of_respelled r text ≡ text_of_respelled r (take size body) = ap (λ (t : List ℕ). text_of_respelled r t) text_is in
    record {
      some = some;
      inside = inside;
      respelling = record {
        inside = inside;
        completes = λ ts out later.
            let there = subst (λ (s : TokenBefore). AreRespelledFrom (context_after_respelled r here k (take size body) (drop size body)) s line (start + size) ts out) next_there
            (subst (λ (c : TokenContext). AreRespelledFrom c next line (start + size) ts out) then_there later) in
            let whole : so_far ++ (front ++ (put ++ (text_of_respelled r (take size body) ++ out))) ≡ new ++ out =
            sym (append_assoc so_far front (put ++ (text_of_respelled r (take size body) ++ out)))
            ∙ sym (append_assoc (so_far ++ front) put (text_of_respelled r (take size body) ++ out))
            ∙ sym (append_assoc ((so_far ++ front) ++ put) (text_of_respelled r (take size body)) out)
            ∙ ap (λ (t : List ℕ). (((so_far ++ front) ++ put) ++ t) ++ out) (sym written)
            ∙ ap (λ (t : List ℕ). t ++ out) (sym new_is) in
            subst (IsRespelledLine line) whole
            (now.completes (record { kind = k; start = start; stop = start + size } ∷ ts) (front ++ (put ++ (text_of_respelled r (take size body) ++ out)))
            (found_token_before_respelled_tokens here left line at start k size r ts out next_at.is next_at.more found_is r_there there));
      };
    }

-- All has been read.
pub all_respelled_tokens_are_line : (line : List ℕ) (here : TokenContext) (left : TokenBefore) (at : ℕ) (so_far : List ℕ) → HasRespelledUpToPlace line here left at so_far → is_line_end_or_empty (drop (next_token_start line at) line) ≡ true → IsRespelledLine line (so_far ++ drop at line)
all_respelled_tokens_are_line line here left at so_far now end = now.completes [] (drop at line) (end, refl)

pub no_tokens_are_respelled_at_line_start : (line : List ℕ) → HasRespelledUpToPlace line (context.First (line_mode line)) before.Other 0 []
no_tokens_are_respelled_at_line_start line = record { inside = omega arith; completes = λ ts out is. record { tokens = ts; each = is } }

-- A line is respelled to one line only.
respelled_from_place_is_unique : (ts us : List Token) (here : TokenContext) (left : TokenBefore) (line : List ℕ) (at : ℕ) (a b : List ℕ) → AreRespelledFrom here left line at ts a → AreRespelledFrom here left line at us b → a ≡ b
respelled_from_place_is_unique [] [] here left line at a b x y = x.1 ∙ sym y.1
respelled_from_place_is_unique [] (u ∷ us) here left line at a b x y = absurd (let other : is_line_end_or_empty (drop (next_token_start line at) line) ≡ false = ap (λ (n : ℕ). is_line_end_or_empty (drop n line)) (sym y.0) ∙ y.1 in let one = x.0 in cc)
respelled_from_place_is_unique (t ∷ ts) [] here left line at a b x y = absurd (let other : is_line_end_or_empty (drop (next_token_start line at) line) ≡ false = ap (λ (n : ℕ). is_line_end_or_empty (drop n line)) (sym x.0) ∙ x.1 in let one = y.0 in cc)
respelled_from_place_is_unique (t ∷ ts) (u ∷ us) here left line at a b x y =
    let body = drop t.start line in
    let size = t.stop - t.start in
    let starts : t.start ≡ u.start = x.0 ∙ sym y.0 in
    let mine : IsTokenOfKindAndSize (token_forms_in_context here) (units_left_of_place line t.start) body u.kind (u.stop - u.start) =
    subst (λ (n : ℕ). IsTokenOfKindAndSize (token_forms_in_context here) (units_left_of_place line n) (drop n line) u.kind (u.stop - u.start)) (sym starts) y.3 in
    let same = token_at_bytes_is_unique (token_forms_in_context here) (units_left_of_place line t.start) body t.kind u.kind size (u.stop - u.start) x.3 mine in
    let stops : t.stop ≡ u.stop = omega (arith, x.2, y.2, starts, same.1) in
    let tokens : u ≡ t = λ j. record { kind = sym same.0 j; start = sym starts j; stop = sym stops j } in
    let there : AreRespelledFrom here left line at (t ∷ us) b = subst (λ (v : Token). AreRespelledFrom here left line at (v ∷ us) b) tokens y in
    let apart = not (t.start == at) in
    let r = respelling_of here left apart t.kind (take size body) (drop size body) in
    let later : x.4.0 ≡ there.4.0 =
    respelled_from_place_is_unique ts us (context_after_respelled r here t.kind (take size body) (drop size body)) (respelled_token_before r t.kind (take size body)) line t.stop x.4.0 there.4.0 x.4.2 there.4.2 in
    x.4.1
    ∙ ap (λ (out : List ℕ). take (t.start - at) (drop at line) ++ (prefix_of_respelled r left apart ++ (text_of_respelled r (take size body) ++ out))) later
    ∙ sym there.4.1

pub respelled_line_is_unique : (line a b : List ℕ) → IsRespelledLine line a → IsRespelledLine line b → a ≡ b
respelled_line_is_unique line a b x y = respelled_from_place_is_unique x.tokens y.tokens (context.First (line_mode line)) before.Other line 0 a b x.each y.each

-- ---- what is computed

next_token_is_respelled_or_end : (here : TokenContext) (left : TokenBefore) (line : List ℕ) (at start : ℕ) (t : Bool) (token : TokenKind × ℕ) (later : List ℕ) → start ≡ next_token_start line at → is_line_end_or_empty (drop start line) ≡ t → token ≡ kind_and_size_after_units (token_forms_in_context here) (units_left_of_place line start) (drop start line)
    → (let text = take token.1 (drop start line) in let rest = drop token.1 (drop start line) in let r = respelling_of here left (not (start == at)) token.0 text rest in
    t ≡ false → (ts : List Token) × AreRespelledFrom (context_after_respelled r here token.0 text rest) (respelled_token_before r token.0 text) line (start + token.1) ts later)
    → (let text = take token.1 (drop start line) in let rest = drop token.1 (drop start line) in let apart = not (start == at) in let r = respelling_of here left apart token.0 text rest in
    (ts : List Token) × AreRespelledFrom here left line at ts (if t then drop at line else take (start - at) (drop at line) ++ (prefix_of_respelled r left apart ++ (text_of_respelled r text ++ later))))
next_token_is_respelled_or_end here left line at start true token later here_is end is more = ([], (ap (λ (n : ℕ). is_line_end_or_empty (drop n line)) (sym here_is) ∙ end, refl))
next_token_is_respelled_or_end here left line at start false token later here_is end is more =
    let rest = more refl in (
      record { kind = token.0; start = start; stop = start + token.1 } ∷ rest.0,
      found_token_before_respelled_tokens here left line at start token.0 token.1
          (respelling_of here left (not (start == at)) token.0 (take token.1 (drop start line)) (drop token.1 (drop start line))) rest.0 later here_is end is refl rest.1,
    )

computed_bytes_are_respelled : (n : ℕ) (here : TokenContext) (left : TokenBefore) (line : List ℕ) (at : ℕ) → length line - at ≤ n → (ts : List Token) × AreRespelledFrom here left line at ts (respelled_from_offset n here left line at)
unfolding respelled_from_offset
computed_bytes_are_respelled zero here left line at h = ([], (ap is_line_end_or_empty (drop_all (next_token_start line at) line (omega arith)), refl))
computed_bytes_are_respelled (suc n) here left line at h =
    let start = next_token_start line at in
    let body = drop start line in
    let token = kind_and_size_after_units (token_forms_in_context here) (units_left_of_place line start) body in
    let r = respelling_of here left (not (start == at)) token.0 (take token.1 body) (drop token.1 body) in
    let after = context_after_respelled r here token.0 (take token.1 body) (drop token.1 body) in
    let next = respelled_token_before r token.0 (take token.1 body) in
    next_token_is_respelled_or_end here left line at start (is_line_end_or_empty body) token (respelled_from_offset n after next line (start + token.1)) refl refl refl (λ more.
    let some = found_token_has_positive_size (token_forms_in_context here) (units_left_of_place line start) body more in
    computed_bytes_are_respelled n after next line (start + token.1) (omega (arith, h, some)))

pub computed_line_is_respelled : (line : List ℕ) → IsRespelledLine line (respelled_line line)
unfolding respelled_line
computed_line_is_respelled line =
    let all = computed_bytes_are_respelled (length line) (context.First (line_mode line)) before.Other line 0 (omega arith) in
    record { tokens = all.0; each = all.1 }

pub respelled_line_is_computed_line : (line respelled : List ℕ) → IsRespelledLine line respelled → respelled ≡ respelled_line line
respelled_line_is_computed_line line respelled is = respelled_line_is_unique line respelled (respelled_line line) is (computed_line_is_respelled line)
