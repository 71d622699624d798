use Rattle.std.proofs.Common.{◌≡◌, ◌+◌, ◌-◌, length, take, drop, refl, sym, subst, ◌∙◌, arith}
use Rattle.std.proofs.lemmas.Bool.{false≢true}
use Rattle.std.specs.List.{list_all}
use Rattle.sudoers_match_member.specs.Folded.{byte_case_folded_if_wanted, bytes_case_folded_if_wanted}
use Rattle.sudoers_match_member.specs.Wildcard.{may_wildcard_take}
use Rattle.sudoers_match_member.specs.internal.Run.{MayStarTakeRun, DoesPatternMatch}
use Rattle.sudoers_match_member.proofs.AsRead.{case_folding_keeps_length, case_folding_keeps_first_bytes, case_folding_keeps_rest_from_place}
use Rattle.sudoers_match_member.proofs.Ends.{text_shorter_than_items_is_unmatched, match_of_counted_pattern_is_at_end, pattern_match_at_end_implies_star_match, starless_pattern_not_matching_has_no_match, folded_bytes_wildcards_take_are_star_run, folded_star_run_bytes_are_wildcard_taken}
use Rattle.sudoers_match_member.proofs.wildcards.matches_star_and_last_items.Goals as goal

pub returns-then-text-count : goal.returns-then-text-count
returns-then-text-count c =
    let lower = c.args.lower in let text = c.args.text.now in (
      λ h. absurd (false≢true h),
      λ m. absurd (text_shorter_than_items_is_unmatched c.args.mode (bytes_case_folded_if_wanted lower c.args.pattern.now) (bytes_case_folded_if_wanted lower text) (length text) c.args.count c.requires.count
          (omega (arith, case_folding_keeps_length lower text, c.if-text-count.true)) m),
    )

pub returns-then-not-may_wildcard_take_all : goal.returns-then-not-may_wildcard_take_all
returns-then-not-may_wildcard_take_all c =
    let lower = c.args.lower in let text = c.args.text.now in let mode = c.args.mode in let count = c.args.count in let place = length text - count in
    let xs = bytes_case_folded_if_wanted lower c.args.pattern.now in let ys = bytes_case_folded_if_wanted lower text in
    let sum : place + count ≡ length ys = omega (arith, case_folding_keeps_length lower text, c.if-text-count.false) in
    let is : c.may_wildcard_take_all.result ≡ list_all (λ b. may_wildcard_take mode (byte_case_folded_if_wanted lower b)) (take place text) = c.may_wildcard_take_all.ensures in (
      λ h. absurd (false≢true h),
      λ m. absurd (let end = match_of_counted_pattern_is_at_end mode xs ys (length text) count place c.requires.count c.if-text-count.false sum m in
          false≢true (sym c.if-not-may_wildcard_take_all.true ∙ is
          ∙ folded_star_run_bytes_are_wildcard_taken mode lower (take place text) (subst (MayStarTakeRun mode) (sym (case_folding_keeps_first_bytes lower text place)) end.0))),
    )

pub returns-in-Matched : goal.returns-in-Matched
returns-in-Matched c =
    let lower = c.args.lower in let text = c.args.text.now in let mode = c.args.mode in let place = length text - c.args.count in
    let xs = bytes_case_folded_if_wanted lower c.args.pattern.now in let ys = bytes_case_folded_if_wanted lower text in
    let is : c.may_wildcard_take_all.result ≡ list_all (λ b. may_wildcard_take mode (byte_case_folded_if_wanted lower b)) (take place text) = c.may_wildcard_take_all.ensures in (
      λ h. pattern_match_at_end_implies_star_match mode xs ys place
          (subst (MayStarTakeRun mode) (case_folding_keeps_first_bytes lower text place) (folded_bytes_wildcards_take_are_star_run mode lower (take place text) (sym is ∙ c.if-not-may_wildcard_take_all.false)))
          (subst (DoesPatternMatch mode xs) (case_folding_keeps_rest_from_place lower text place) c.in-Matched.ensures.outcome),
      λ m. refl,
    )

pub returns-in_default : goal.returns-in_default
returns-in_default c =
    let lower = c.args.lower in let pattern = c.args.pattern.now in let text = c.args.text.now in let mode = c.args.mode in let count = c.args.count in
    let place = length text - count in
    let xs = bytes_case_folded_if_wanted lower pattern in let ys = bytes_case_folded_if_wanted lower text in
    let sum : place + count ≡ length ys = omega (arith, case_folding_keeps_length lower text, c.if-text-count.false) in (
      λ h. absurd (false≢true h),
      λ m. absurd (let end = match_of_counted_pattern_is_at_end mode xs ys (length text) count place c.requires.count c.if-text-count.false sum m in
          starless_pattern_not_matching_has_no_match mode lower pattern (take (length text - place) (drop place text)) (length text) count c.match_up_to_star.result c.requires.count
          c.if-text-count.false c.in_default.not-Matched c.match_up_to_star.ensures.outcome
          (subst (DoesPatternMatch mode xs) (sym (case_folding_keeps_rest_from_place lower text place)) end.1)),
    )
