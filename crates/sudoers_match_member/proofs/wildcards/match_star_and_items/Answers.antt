use Rattle.std.proofs.Common.{◌≡◌, ℕ, ◌<◌, ◌-◌, Bool, true, false, List, ◌∷◌, length, drop, take, Bor, get_or, sym, ap, subst, ◌∙◌, arith}
use Rattle.std.specs.Prelude.{IfSome}
use Rattle.std.proofs.lemmas.List.{drop_more}
use Rattle.std.proofs.lemmas.Bool.Decides.{nat_tests}
use Rattle.std.proofs.lemmas.Bool.{false≢true}
use Rattle.sudoers_match_member.specs.declared.wildcards.GlobMode.{GlobMode}
use Rattle.sudoers_match_member.specs.Folded.{byte_case_folded_if_wanted, bytes_case_folded_if_wanted}
use Rattle.sudoers_match_member.specs.Wildcard.{may_wildcard_take}
use Rattle.sudoers_match_member.specs.internal.Run.{IsMatchReducedToRest}
use Rattle.sudoers_match_member.proofs.AsRead.{case_folding_keeps_length, case_folding_keeps_rest_from_place, byte_of_folded_bytes_is_folded_byte}
use Rattle.sudoers_match_member.proofs.Left.{match_is_reduced_past_unmatched_byte, blocked_unmatched_rest_has_no_match, progress_after_star_is_overall_progress, remaining_pattern_after_run_is_no_longer}
use Rattle.sudoers_match_member.proofs.wildcards.match_star_and_items.Goals as goal
use Rattle.sudoers_match_member.proofs.wildcards.match_star_and_items.Goals.{then-is_empty-via-then-is_empty, then-is_empty-via-else-is_empty+then-not-may_wildcard_take_byte}

none_read : (lower : Bool) (rest : List ℕ) → length rest ≡ 0 → (b : ℕ) (last : List ℕ) → bytes_case_folded_if_wanted lower rest ≡ b ∷ last → ⊥
none_read lower rest e b last f = let g = ap length f in omega (arith, case_folding_keeps_length lower rest, g)

-- where the first byte is none that a wildcard may take, and there is one
other_read : (mode : GlobMode) (lower : Bool) (rest : List ℕ) (c : ℕ) (t : Bool) → 0 < length rest → c ≡ byte_case_folded_if_wanted lower (get_or rest 0 0) → t ≡ may_wildcard_take mode c → t ≡ false
    → (b : ℕ) (last : List ℕ) → bytes_case_folded_if_wanted lower rest ≡ b ∷ last → may_wildcard_take mode b ≡ true → ⊥
other_read mode lower rest c t some is e f b last g h =
    let same : get_or (bytes_case_folded_if_wanted lower rest) 0 0 ≡ b = ap (λ xs. get_or xs 0 0) g in
    false≢true (sym f ∙ e ∙ ap (may_wildcard_take mode) (is ∙ sym (byte_of_folded_bytes_is_folded_byte lower rest 0 some) ∙ same) ∙ h)

pub returns-then-is_empty-clause-outcome : goal.returns-then-is_empty-clause-outcome
returns-then-is_empty-clause-outcome c =
    let lower = c.args.lower in let mode = c.args.mode in let xs = bytes_case_folded_if_wanted lower c.args.pattern.now in let rest = c.loop-text.text.now in
    blocked_unmatched_rest_has_no_match mode (42 ∷ xs) (bytes_case_folded_if_wanted lower c.args.text.now) xs (bytes_case_folded_if_wanted lower rest) c.loop-text.invariant.left c.in-Failed.ensures.outcome
    (elim c.then-is_empty.branch [
      | then-is_empty-via-then-is_empty w ↦ (λ b last e h. none_read lower rest (let t = w.if-is_empty.true in grind (arith, nat_tests)) b last e)
      | then-is_empty-via-else-is_empty+then-not-may_wildcard_take_byte w ↦ other_read mode lower rest w.fold_byte_case_if_wanted.result w.may_wildcard_take_byte.result (let t = w.if-is_empty.false in grind (arith, nat_tests)) w.fold_byte_case_if_wanted.ensures w.may_wildcard_take_byte.ensures w.if-not-may_wildcard_take_byte.true
    ])

pub loop-text-preserved-then-tries-gt0 : goal.loop-text-preserved-then-tries-gt0
loop-text-preserved-then-tries-gt0 c =
    let lower = c.args.lower in let mode = c.args.mode in let xs = bytes_case_folded_if_wanted lower c.args.pattern.now in let text = bytes_case_folded_if_wanted lower c.args.text.now in
    let rest = c.loop-text.text.now in let ys = bytes_case_folded_if_wanted lower rest in
    let some : 0 < length rest = grind (arith, nat_tests) in
    let left : IsMatchReducedToRest mode (42 ∷ xs) text xs (bytes_case_folded_if_wanted lower (take (length rest - 1) (drop 1 rest))) =
    subst (IsMatchReducedToRest mode (42 ∷ xs) text xs) (sym (case_folding_keeps_rest_from_place lower rest 1))
    (match_is_reduced_past_unmatched_byte mode (42 ∷ xs) text xs ys (drop 1 ys) (get_or ys 0 0) c.loop-text.invariant.left c.in-Failed.ensures.outcome
    (drop_more ys 0 0 (omega (arith, case_folding_keeps_length lower rest, some)))
    (ap (λ b. may_wildcard_take mode b) (byte_of_folded_bytes_is_folded_byte lower rest 0 some ∙ sym c.fold_byte_case_if_wanted.ensures) ∙ sym c.may_wildcard_take_byte.ensures ∙ c.if-not-may_wildcard_take_byte.false)) in
    record { left = left; known = c.in-Failed.ensures.known }

pub loop-text-preserved : goal.loop-text-preserved
loop-text-preserved c =
    let lower = c.args.lower in let mode = c.args.mode in let xs = bytes_case_folded_if_wanted lower c.args.pattern.now in let text = bytes_case_folded_if_wanted lower c.args.text.now in
    let rest = c.loop-text.text.now in let ys = bytes_case_folded_if_wanted lower rest in
    let some : 0 < length rest = grind (arith, nat_tests) in
    let left : IsMatchReducedToRest mode (42 ∷ xs) text xs (bytes_case_folded_if_wanted lower (take (length rest - 1) (drop 1 rest))) =
    subst (IsMatchReducedToRest mode (42 ∷ xs) text xs) (sym (case_folding_keeps_rest_from_place lower rest 1))
    (match_is_reduced_past_unmatched_byte mode (42 ∷ xs) text xs ys (drop 1 ys) (get_or ys 0 0) c.loop-text.invariant.left c.in-Failed.ensures.outcome
    (drop_more ys 0 0 (omega (arith, case_folding_keeps_length lower rest, some)))
    (ap (λ b. may_wildcard_take mode b) (byte_of_folded_bytes_is_folded_byte lower rest 0 some ∙ sym c.fold_byte_case_if_wanted.ensures) ∙ sym c.may_wildcard_take_byte.ensures ∙ c.if-not-may_wildcard_take_byte.false)) in
    record {
      left = subst (λ found. IfSome found (λ (rest : Bor (List ℕ)). (before tried : List ℕ) → IsMatchReducedToRest mode before tried xs (bytes_case_folded_if_wanted lower (take (length c.loop-text.text.now - 1) (drop 1 c.loop-text.text.now)))
          → IsMatchReducedToRest mode before tried xs (bytes_case_folded_if_wanted lower rest.now))) c.in-Some.is c.skip_places_without_match.ensures.rest (42 ∷ xs) text left;
      known = c.skip_places_without_match.ensures.known;
    }

pub returns-in-None-clause-outcome : goal.returns-in-None-clause-outcome
returns-in-None-clause-outcome c m =
    let lower = c.args.lower in let mode = c.args.mode in let xs = bytes_case_folded_if_wanted lower c.args.pattern.now in let text = bytes_case_folded_if_wanted lower c.args.text.now in
    let rest = c.loop-text.text.now in let ys = bytes_case_folded_if_wanted lower rest in
    let some : 0 < length rest = grind (arith, nat_tests) in
    let left : IsMatchReducedToRest mode (42 ∷ xs) text xs (bytes_case_folded_if_wanted lower (take (length rest - 1) (drop 1 rest))) =
    subst (IsMatchReducedToRest mode (42 ∷ xs) text xs) (sym (case_folding_keeps_rest_from_place lower rest 1))
    (match_is_reduced_past_unmatched_byte mode (42 ∷ xs) text xs ys (drop 1 ys) (get_or ys 0 0) c.loop-text.invariant.left c.in-Failed.ensures.outcome
    (drop_more ys 0 0 (omega (arith, case_folding_keeps_length lower rest, some)))
    (ap (λ b. may_wildcard_take mode b) (byte_of_folded_bytes_is_folded_byte lower rest 0 some ∙ sym c.fold_byte_case_if_wanted.ensures) ∙ sym c.may_wildcard_take_byte.ensures ∙ c.if-not-may_wildcard_take_byte.false)) in
    c.skip_places_without_match.ensures.blocked c.in-None.is (left.to m)

pub returns-in_default : goal.returns-in_default
returns-in_default c =
    let lower = c.args.lower in let mode = c.args.mode in let pattern = c.args.pattern.now in let rest = c.loop-text.text.now in
    record {
      outcome = progress_after_star_is_overall_progress mode lower pattern rest (bytes_case_folded_if_wanted lower c.args.text.now) c.match_up_to_star.result c.loop-text.invariant.left c.in_default.not-Failed c.match_up_to_star.ensures.outcome;
      shorter = remaining_pattern_after_run_is_no_longer mode lower pattern rest c.match_up_to_star.result c.match_up_to_star.ensures.outcome;
      behind = c.match_up_to_star.ensures.behind;
    }
