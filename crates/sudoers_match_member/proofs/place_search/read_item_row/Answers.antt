use Rattle.std.proofs.Common.{◌≡◌, ◌≢◌, ◌<◌, ◌+◌, true, ◌∷◌, length, drop, get_or, add-zero, arith, sym, ap, subst, ◌∙◌, inl, inr}
use Rattle.std.proofs.lemmas.Bool.{cases_eq}
use Rattle.std.proofs.lemmas.List.{get_or-drop, drop-drop, drop-map}
use Rattle.sudoers_match_member.specs.Folded.{byte_case_folded_if_wanted, bytes_case_folded_if_wanted}
use Rattle.sudoers_match_member.specs.Wildcard.{PatternItem, Star, is_byte_taken_by_item, pattern_item_at, items_of_pattern}
use Rattle.sudoers_match_member.specs.internal.Places.{IsTakerOrOfAll, items_from_place}
use Rattle.sudoers_match_member.proofs.AsRead.{case_folding_keeps_length, folding_keeps_byte_that_is_no_star}
use Rattle.sudoers_match_member.proofs.Capitals.{byte_is_read_as_byte, byte_is_read_as_it_is_where_case_counts}
use Rattle.sudoers_match_member.proofs.Items.{items_of_pattern_begin_with_first_item, item_without_star_byte_is_no_star, pattern_item_has_positive_length}
use Rattle.sudoers_match_member.proofs.Passing.{rest_from_place_within_is_not_empty, place_after_item_is_within_pattern}
use Rattle.sudoers_match_member.proofs.place_search.read_item_row.Goals as goal

pub loop-end-preserved : goal.loop-end-preserved
loop-end-preserved c =
    let lower = c.args.lower in let pattern = c.args.pattern.now in let end = c.loop-end.end in let count = c.loop-end.count in let old = c.loop-end.invariant in
    let len = c.match_item_at-len.result.len in let front = c.match_item_at-len.ensures.front in let xs = bytes_case_folded_if_wanted lower pattern in
    let items = items_from_place lower pattern c.args.at in
    let within : end < length xs = omega (arith, case_folding_keeps_length lower pattern, c.loop-end-test.true) in
    let folded : drop end xs ≡ bytes_case_folded_if_wanted lower (drop end pattern) = drop-map (byte_case_folded_if_wanted lower) end pattern in
    let size : (pattern_item_at (drop end xs)).1 ≡ len = ap (λ ys. (pattern_item_at ys).1) folded ∙ sym front.len in
    let item : PatternItem = (pattern_item_at (drop end xs)).0 in
    let begins : drop count items ≡ item ∷ items_from_place lower pattern (end + len) =
    old.rest ∙ items_of_pattern_begin_with_first_item (drop end xs) (rest_from_place_within_is_not_empty xs end within) (pattern_item_has_positive_length (drop end xs))
    ∙ ap (λ ys. item ∷ items_of_pattern ys) (ap (λ n. drop n (drop end xs)) size ∙ drop-drop len end xs) in
    let here : get_or items count Star ≡ item = ap (λ n. get_or items n Star) (sym (add-zero count)) ∙ sym (get_or-drop count items 0 Star) ∙ ap (λ ys. get_or ys 0 Star) begins in
    let starless : item ≢ Star = item_without_star_byte_is_no_star xs end within
    (folding_keeps_byte_that_is_no_star lower pattern end c.fold_byte_case_if_wanted.result c.loop-end-test.true c.fold_byte_case_if_wanted.ensures c.if-fold_byte_case_if_wanted-ne42.true) in
    record {
      few = omega (arith, c.if-count-lt-MOST_ITEMS.true);
      within = place_after_item_is_within_pattern pattern end len c.loop-end-test.true front.within;
      further = omega (arith, front.some, old.further);
      rest = sym (drop-drop 1 count items) ∙ ap (drop 1) begins;
      starless = λ i h. elim (cases_eq i count) [ inl same ↦ subst (λ n. get_or items n Star ≢ Star) (sym same) (subst (λ p. p ≢ Star) (sym here) starless) | inr other ↦ old.starless i (omega (arith, h, other)) ];
      takers = λ i b h byte is. elim (cases_eq i count) [
        | inl same ↦ subst (IsTakerOrOfAll c.add_item_for_its_bytes.new.takers c.add_item_for_its_bytes.new.of_all b) (sym same)
            (c.add_item_for_its_bytes.ensures.taker c.args.mode c.match_item_at-len.ensures.known b byte
            (ap (λ ys. is_byte_taken_by_item c.args.mode (pattern_item_at ys).0 b) (sym folded) ∙ ap (λ p. is_byte_taken_by_item c.args.mode p b) (sym here ∙ ap (λ n. get_or items n Star) (sym same))
            ∙ ap (is_byte_taken_by_item c.args.mode (get_or items i Star)) (sym (byte_is_read_as_it_is_where_case_counts b)) ∙ is))
        | inr other ↦ c.add_item_for_its_bytes.ensures.kept b i (old.takers i b (omega (arith, h, other)) byte is)
      ];
      known = c.match_item_at-len.ensures.known;
      tail = c.match_item_at-len.ensures.tail ∙ old.tail;
    }

pub returns-then-lower-clause-row : goal.returns-then-lower-clause-row
returns-then-lower-clause-row c =
    let old = c.loop-end.invariant in
    record {
      few = old.few;
      within = old.within;
      further = old.further;
      rest = old.rest;
      starless = old.starless;
      takers = λ i b h byte is. c.take_capitals_as_small.ensures b i byte
          (c.add_items_for_all_bytes.ensures (byte_case_folded_if_wanted true b) i (byte_is_read_as_byte b byte) (omega (arith, h, old.few))
          (old.takers i (byte_case_folded_if_wanted true b) h (byte_is_read_as_byte b byte)
          (ap (is_byte_taken_by_item c.args.mode (get_or (items_from_place c.args.lower c.args.pattern.now c.args.at) i Star)) (byte_is_read_as_it_is_where_case_counts (byte_case_folded_if_wanted true b) ∙ ap (λ t. byte_case_folded_if_wanted t b) (sym c.if-lower.true)) ∙ is)));
    }
