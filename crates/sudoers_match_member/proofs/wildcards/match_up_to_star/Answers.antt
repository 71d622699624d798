use Rattle.std.proofs.Common.{◌≡◌, ◌≢◌, ℕ, ◌+◌, ◌-◌, ◌<◌, Bool, true, false, List, ◌∷◌, ◌++◌, length, drop, take, get_or, sym, ap, subst, ◌∙◌, arith}
use Rattle.std.specs.Prelude.{IfSome}
use Rattle.std.proofs.lemmas.Option.{IfSome_then}
use Rattle.std.proofs.lemmas.List.{take_rest, drop_more, drop-drop, drop_all, length-drop, drop-map}
use Rattle.std.proofs.lemmas.Bool.{not-true, not-false}
use Rattle.sudoers_match_member.specs.declared.wildcards.GlobMode.{GlobMode}
use Rattle.sudoers_match_member.specs.Folded.{byte_case_folded_if_wanted, bytes_case_folded_if_wanted}
use Rattle.sudoers_match_member.specs.Wildcard.{is_byte_taken_by_item, pattern_item_at, items_of_pattern}
use Rattle.sudoers_match_member.specs.internal.Known.{IsTailWithoutClosingBracket}
use Rattle.sudoers_match_member.specs.internal.Unclosed.{AreUnclosedPlaces}
use Rattle.sudoers_match_member.proofs.Open.{tail_of_end_is_bracketless}
use Rattle.sudoers_match_member.proofs.Unclosed.{unclosed_places_are_those_of_end}
use Rattle.sudoers_match_member.specs.internal.Run.{DoItemsTakePrefix, MatchesUpToStar, DoItemsMatch, DoesPatternMatch}
use Rattle.sudoers_match_member.proofs.AsRead.{case_folding_keeps_length, case_folding_keeps_rest_from_place, byte_of_folded_bytes_is_folded_byte, folding_keeps_byte_that_is_no_star}
use Rattle.sudoers_match_member.proofs.Passing.{rest_from_place_within_is_not_empty, place_after_item_is_within_pattern, taken_byte_extends_taken_prefix, taken_prefix_of_all_is_pattern_match, unmatched_rest_implies_unmatched_pattern, empty_pattern_matches_no_nonempty_rest, non_star_item_matches_no_empty_rest, item_refusing_byte_has_no_match}
use Rattle.sudoers_match_member.proofs.Items.{item_without_star_byte_is_no_star, pattern_item_has_positive_length}
use Rattle.sudoers_match_member.proofs.wildcards.match_up_to_star.Goals as goal

at_star : (mode : GlobMode) (xs ys : List ℕ) (at place : ℕ) → DoItemsTakePrefix mode xs ys (drop at xs) (drop place ys) → at < length xs → get_or xs at 0 ≡ 42
    → MatchesUpToStar mode xs ys (drop (at + 1) xs) (drop place ys)
at_star mode xs ys at place p h e = record {
  items = p.items;
  bytes = p.bytes;
  pattern_is = p.pattern_is ∙ ap (λ r. p.items ++ items_of_pattern r) (drop_more xs at 0 h ∙ ap (λ b. b ∷ drop (at + 1) xs) e);
  text_is = p.text_is;
  take = p.take;
  shorter = omega (arith, length-drop (at + 1) xs);
  no_longer = omega (arith, length-drop place ys);
}

refused : (mode : GlobMode) (xs ys : List ℕ) (at place : ℕ) → at < length xs → place < length ys → get_or xs at 0 ≢ 42
    → is_byte_taken_by_item mode (pattern_item_at (drop at xs)).0 (get_or ys place 0) ≡ false → DoItemsTakePrefix mode xs ys (drop at xs) (drop place ys) → DoesPatternMatch mode xs ys → ⊥
refused mode xs ys at place h k n is p =
    unmatched_rest_implies_unmatched_pattern mode xs ys (drop at xs) (drop place ys) p
    (subst (λ rest. DoItemsMatch mode (items_of_pattern (drop at xs)) rest → ⊥) (sym (drop_more ys place 0 k))
    (item_refusing_byte_has_no_match mode (drop at xs) (get_or ys place 0) (drop (place + 1) ys) (rest_from_place_within_is_not_empty xs at h) (item_without_star_byte_is_no_star xs at h n) (pattern_item_has_positive_length (drop at xs)) is))

taken : (mode : GlobMode) (xs ys : List ℕ) (at place len : ℕ) → at < length xs → place < length ys → is_byte_taken_by_item mode (pattern_item_at (drop at xs)).0 (get_or ys place 0) ≡ true
    → (pattern_item_at (drop at xs)).1 ≡ len → DoItemsTakePrefix mode xs ys (drop at xs) (drop place ys) → DoItemsTakePrefix mode xs ys (drop (at + len) xs) (drop (place + 1) ys)
taken mode xs ys at place len h k is size p =
    subst (λ left. DoItemsTakePrefix mode xs ys left (drop (place + 1) ys)) (ap (λ n. drop n (drop at xs)) size ∙ drop-drop len at xs)
    (taken_byte_extends_taken_prefix mode xs ys (drop at xs) (get_or ys place 0) (drop (place + 1) ys)
    (subst (DoItemsTakePrefix mode xs ys (drop at xs)) (drop_more ys place 0 k) p) (rest_from_place_within_is_not_empty xs at h) (pattern_item_has_positive_length (drop at xs)) is)

-- what the item at the place does to the byte at the other, as the code learns it
told : (mode : GlobMode) (lower : Bool) (pattern text : List ℕ) (at place b : ℕ) (t u : Bool) → place < length text → b ≡ byte_case_folded_if_wanted lower (get_or text place 0)
    → t ≡ is_byte_taken_by_item mode (pattern_item_at (bytes_case_folded_if_wanted lower (drop at pattern))).0 b → t ≡ u
    → is_byte_taken_by_item mode (pattern_item_at (drop at (bytes_case_folded_if_wanted lower pattern))).0 (get_or (bytes_case_folded_if_wanted lower text) place 0) ≡ u
told mode lower pattern text at place b t u h is e f =
    ap (λ c. is_byte_taken_by_item mode (pattern_item_at (drop at (bytes_case_folded_if_wanted lower pattern))).0 c) (byte_of_folded_bytes_is_folded_byte lower text place h ∙ sym is)
    ∙ ap (λ xs. is_byte_taken_by_item mode (pattern_item_at xs).0 b) (drop-map (byte_case_folded_if_wanted lower) at pattern) ∙ sym e ∙ f

pub returns-then-fold_byte_case_if_wanted-eq42-clause-outcome : goal.returns-then-fold_byte_case_if_wanted-eq42-clause-outcome
returns-then-fold_byte_case_if_wanted-eq42-clause-outcome c =
    let lower = c.args.lower in let pattern = c.args.pattern.now in let text = c.args.text.now in let at = c.loop-at.at in let place = c.loop-at.place in
    let xs = bytes_case_folded_if_wanted lower pattern in let ys = bytes_case_folded_if_wanted lower text in let mode = c.args.mode in
    subst (λ behind. MatchesUpToStar mode xs ys behind (bytes_case_folded_if_wanted lower (take (length text - place) (drop place text)))) (sym (case_folding_keeps_rest_from_place lower pattern (at + 1)))
    (subst (MatchesUpToStar mode xs ys (drop (at + 1) xs)) (sym (case_folding_keeps_rest_from_place lower text place))
    (at_star mode xs ys at place c.loop-at.invariant.passed (omega (arith, case_folding_keeps_length lower pattern, c.loop-at-test.true))
    (byte_of_folded_bytes_is_folded_byte lower pattern at c.loop-at-test.true ∙ sym c.fold_byte_case_if_wanted.ensures ∙ c.if-fold_byte_case_if_wanted-eq42.true)))

pub returns-then-fold_byte_case_if_wanted-eq42-clause-behind : goal.returns-then-fold_byte_case_if_wanted-eq42-clause-behind
returns-then-fold_byte_case_if_wanted-eq42-clause-behind c =
    let pattern = c.args.pattern.now in let at = c.loop-at.at in let known = c.loop-at.invariant.known in
    subst (λ behind. IsTailWithoutClosingBracket c.loop-at.known.tail behind × IfSome c.loop-at.known.unclosed (AreUnclosedPlaces c.args.lower behind)) (sym (take_rest pattern (at + 1))) (
      tail_of_end_is_bracketless c.loop-at.known.tail (at + 1) pattern known.tail,
      IfSome_then c.loop-at.known.unclosed known.unclosed (λ places are. unclosed_places_are_those_of_end c.args.lower pattern places (at + 1) (omega (arith, c.loop-at-test.true)) are),
    )

pub returns-then-place-text-clause-outcome : goal.returns-then-place-text-clause-outcome
returns-then-place-text-clause-outcome c =
    let lower = c.args.lower in let pattern = c.args.pattern.now in let text = c.args.text.now in let at = c.loop-at.at in let place = c.loop-at.place in
    let xs = bytes_case_folded_if_wanted lower pattern in let ys = bytes_case_folded_if_wanted lower text in
    let within : at < length xs = omega (arith, case_folding_keeps_length lower pattern, c.loop-at-test.true) in
    unmatched_rest_implies_unmatched_pattern c.args.mode xs ys (drop at xs) (drop place ys) c.loop-at.invariant.passed
    (non_star_item_matches_no_empty_rest c.args.mode (drop at xs) (drop place ys) (rest_from_place_within_is_not_empty xs at within)
    (item_without_star_byte_is_no_star xs at within (folding_keeps_byte_that_is_no_star lower pattern at c.fold_byte_case_if_wanted.result c.loop-at-test.true c.fold_byte_case_if_wanted.ensures c.if-fold_byte_case_if_wanted-eq42.false))
    (pattern_item_has_positive_length (drop at xs)) (drop_all place ys (omega (arith, case_folding_keeps_length lower text, c.if-place-text.true))))

pub returns-then-not-front-clause-outcome : goal.returns-then-not-front-clause-outcome
returns-then-not-front-clause-outcome c =
    let lower = c.args.lower in let pattern = c.args.pattern.now in let text = c.args.text.now in let at = c.loop-at.at in let place = c.loop-at.place in
    let inside : place < length text = omega arith in
    refused c.args.mode (bytes_case_folded_if_wanted lower pattern) (bytes_case_folded_if_wanted lower text) at place (omega (arith, case_folding_keeps_length lower pattern, c.loop-at-test.true)) (omega (arith, case_folding_keeps_length lower text, inside))
    (folding_keeps_byte_that_is_no_star lower pattern at c.fold_byte_case_if_wanted.result c.loop-at-test.true c.fold_byte_case_if_wanted.ensures c.if-fold_byte_case_if_wanted-eq42.false)
    (told c.args.mode lower pattern text at place c.fold_byte_case_if_wanted-in-loop-at.result c.match_item_at-front.result.takes false inside c.fold_byte_case_if_wanted-in-loop-at.ensures c.match_item_at-front.ensures.front.takes (not-true c.match_item_at-front.result.takes c.if-not-front.true))
    c.loop-at.invariant.passed

pub loop-at-preserved : goal.loop-at-preserved
loop-at-preserved c =
    let lower = c.args.lower in let pattern = c.args.pattern.now in let text = c.args.text.now in let at = c.loop-at.at in let place = c.loop-at.place in
    let inside : place < length text = omega arith in
    record {
      passed = taken c.args.mode (bytes_case_folded_if_wanted lower pattern) (bytes_case_folded_if_wanted lower text) at place c.match_item_at-front.result.len (omega (arith, case_folding_keeps_length lower pattern, c.loop-at-test.true)) (omega (arith, case_folding_keeps_length lower text, inside))
          (told c.args.mode lower pattern text at place c.fold_byte_case_if_wanted-in-loop-at.result c.match_item_at-front.result.takes true inside c.fold_byte_case_if_wanted-in-loop-at.ensures c.match_item_at-front.ensures.front.takes (not-false c.match_item_at-front.result.takes c.if-not-front.false))
          (ap (λ xs. (pattern_item_at xs).1) (drop-map (byte_case_folded_if_wanted lower) at pattern) ∙ sym c.match_item_at-front.ensures.front.len) c.loop-at.invariant.passed;
      within = place_after_item_is_within_pattern pattern at c.match_item_at-front.result.len c.loop-at-test.true c.match_item_at-front.ensures.front.within;
      placed = omega arith;
      known = c.match_item_at-front.ensures.known;
    }

pub returns-then-place-text-2-clause-outcome : goal.returns-then-place-text-2-clause-outcome
returns-then-place-text-2-clause-outcome c =
    let lower = c.args.lower in let xs = bytes_case_folded_if_wanted lower c.args.pattern.now in let ys = bytes_case_folded_if_wanted lower c.args.text.now in
    taken_prefix_of_all_is_pattern_match c.args.mode xs ys _ _ c.loop-at.invariant.passed
    (drop_all c.loop-at.at xs (omega (arith, case_folding_keeps_length lower c.args.pattern.now, c.loop-at-test.false)))
    (drop_all c.loop-at.place ys (omega (arith, case_folding_keeps_length lower c.args.text.now, c.if-place-text-2.true)))

pub returns-else-place-text-2-clause-outcome : goal.returns-else-place-text-2-clause-outcome
returns-else-place-text-2-clause-outcome c =
    let lower = c.args.lower in let xs = bytes_case_folded_if_wanted lower c.args.pattern.now in let ys = bytes_case_folded_if_wanted lower c.args.text.now in
    let inside : c.loop-at.place < length c.args.text.now = omega arith in
    unmatched_rest_implies_unmatched_pattern c.args.mode xs ys _ _ c.loop-at.invariant.passed
    (empty_pattern_matches_no_nonempty_rest c.args.mode _ _ (drop_all c.loop-at.at xs (omega (arith, case_folding_keeps_length lower c.args.pattern.now, c.loop-at-test.false)))
    (rest_from_place_within_is_not_empty ys c.loop-at.place (omega (arith, case_folding_keeps_length lower c.args.text.now, inside))))
