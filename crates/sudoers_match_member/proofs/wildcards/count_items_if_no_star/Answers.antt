use Rattle.std.proofs.Common.{◌≡◌, ◌+◌, ◌<◌, length, drop, sym, ap, subst, ◌∙◌, arith}
use Rattle.std.proofs.lemmas.List.{drop-drop, drop-map}
use Rattle.sudoers_match_member.specs.Folded.{byte_case_folded_if_wanted, bytes_case_folded_if_wanted}
use Rattle.sudoers_match_member.specs.Wildcard.{pattern_item_at}
use Rattle.sudoers_match_member.specs.internal.Count.{BeginsWithStarlessItems}
use Rattle.sudoers_match_member.proofs.AsRead.{case_folding_keeps_length, folding_keeps_byte_that_is_no_star}
use Rattle.sudoers_match_member.proofs.Items.{item_without_star_byte_is_no_star, pattern_item_has_positive_length}
use Rattle.sudoers_match_member.proofs.Passing.{rest_from_place_within_is_not_empty, place_after_item_is_within_pattern}
use Rattle.sudoers_match_member.proofs.Ends.{counting_item_adds_one_to_starless_count}
use Rattle.sudoers_match_member.proofs.wildcards.count_items_if_no_star.Goals as goal

pub loop-at-preserved : goal.loop-at-preserved
loop-at-preserved c =
    let lower = c.args.lower in let pattern = c.args.pattern.now in let at = c.loop-at.at in let count = c.loop-at.count in
    let len = c.match_item_at-at.result.len in let front = c.match_item_at-at.ensures.front in
    let xs = bytes_case_folded_if_wanted lower pattern in
    let within : at < length xs = omega (arith, case_folding_keeps_length lower pattern, c.loop-at-test.true) in
    let size : (pattern_item_at (drop at xs)).1 ≡ len = ap (λ ys. (pattern_item_at ys).1) (drop-map (byte_case_folded_if_wanted lower) at pattern) ∙ sym front.len in
    record {
      counted = subst (λ left. BeginsWithStarlessItems xs left (count + 1)) (ap (λ n. drop n (drop at xs)) size ∙ drop-drop len at xs)
          (counting_item_adds_one_to_starless_count xs (drop at xs) count c.loop-at.invariant.counted (rest_from_place_within_is_not_empty xs at within)
          (item_without_star_byte_is_no_star xs at within (folding_keeps_byte_that_is_no_star lower pattern at c.fold_byte_case_if_wanted.result c.loop-at-test.true c.fold_byte_case_if_wanted.ensures c.if-fold_byte_case_if_wanted-eq42.false)) (pattern_item_has_positive_length (drop at xs)));
      within = place_after_item_is_within_pattern pattern at len c.loop-at-test.true front.within;
      fewer = omega (arith, front.some, c.loop-at.invariant.fewer);
      known = c.match_item_at-at.ensures.known;
    }
