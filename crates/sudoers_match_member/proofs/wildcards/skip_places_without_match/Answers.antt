use Rattle.std.proofs.Common.{◌≡◌, ℕ, Bool, List, take, arith, sym, ap, subst, ◌∙◌}
use Rattle.std.specs.List.{list_all}
use Rattle.std.proofs.lemmas.List.{take-map}
use Rattle.std.proofs.lemmas.List.Folds.{list_all-map}
use Rattle.sudoers_match_member.specs.declared.wildcards.GlobMode.{GlobMode}
use Rattle.sudoers_match_member.specs.Folded.{byte_case_folded_if_wanted, bytes_case_folded_if_wanted}
use Rattle.sudoers_match_member.specs.Wildcard.{may_wildcard_take, items_of_pattern}
use Rattle.sudoers_match_member.specs.internal.Run.{IsMatchReducedToRest}
use Rattle.sudoers_match_member.proofs.AsRead.{case_folding_keeps_length, case_folding_keeps_rest_from_place}
use Rattle.sudoers_match_member.proofs.Left.{match_is_reduced_past_places_without_match, blocked_star_has_no_match}
use Rattle.sudoers_match_member.proofs.wildcards.skip_places_without_match.Goals as goal

-- whether wildcards may take the bytes, as they are read
taken_as_read : (mode : GlobMode) (lower : Bool) (text : List ℕ) (count : ℕ)
    → list_all (may_wildcard_take mode) (take count (bytes_case_folded_if_wanted lower text)) ≡ list_all (λ b. may_wildcard_take mode (byte_case_folded_if_wanted lower b)) (take count text)
taken_as_read mode lower text count =
    ap (list_all (may_wildcard_take mode)) (take-map (byte_case_folded_if_wanted lower) count text) ∙ list_all-map (may_wildcard_take mode) (byte_case_folded_if_wanted lower) (take count text)

pub returns-then-may_wildcard_take_all-clause-rest : goal.returns-then-may_wildcard_take_all-clause-rest
returns-then-may_wildcard_take_all-clause-rest c before tried reduced =
    let mode = c.args.mode in let lower = c.args.lower in let text = c.args.text.now in let place = c.find_place_to_try-place.result in let xs = bytes_case_folded_if_wanted lower c.args.pattern.now in
    subst (IsMatchReducedToRest mode before tried xs) (sym (case_folding_keeps_rest_from_place lower text place))
    (match_is_reduced_past_places_without_match mode before tried xs (bytes_case_folded_if_wanted lower text) place
    (omega (arith, c.find_place_to_try-place.ensures.within, case_folding_keeps_length lower text)) c.find_place_to_try-place.ensures.none
    (taken_as_read mode lower text place ∙ sym c.may_wildcard_take_all.ensures ∙ c.if-may_wildcard_take_all.true) reduced)

pub returns-else-may_wildcard_take_all-clause-blocked : goal.returns-else-may_wildcard_take_all-clause-blocked
returns-else-may_wildcard_take_all-clause-blocked c none m =
    let mode = c.args.mode in let lower = c.args.lower in let text = c.args.text.now in let place = c.find_place_to_try-place.result in
    blocked_star_has_no_match mode (items_of_pattern (bytes_case_folded_if_wanted lower c.args.pattern.now)) (bytes_case_folded_if_wanted lower text) place c.find_place_to_try-place.ensures.none
    (taken_as_read mode lower text place ∙ sym c.may_wildcard_take_all.ensures ∙ c.if-may_wildcard_take_all.false) m
