use Rattle.std.proofs.Common.{◌≡◌, ◌<◌, ◌≤◌, ◌+◌, ◌-◌, ℕ, Bool, List, length, drop, take, Option, Some, None, arith, refl, sym, ap, subst, ◌∙◌, inl, inr}
use Rattle.std.specs.Prelude.{IfSome}
use Rattle.std.proofs.lemmas.Bool.{cases_lt}
use Rattle.std.proofs.lemmas.List.{drop-drop, drop-map, length-drop, take_rest}
use Rattle.sudoers_match_member.specs.declared.wildcards.GlobMode.{GlobMode}
use Rattle.sudoers_match_member.specs.Folded.{byte_case_folded_if_wanted, bytes_case_folded_if_wanted}
use Rattle.sudoers_match_member.specs.internal.Places.{items_from_place, BeginWithStarless, DoesMatchFromNoneBefore}
use Rattle.sudoers_match_member.specs.internal.Run.{DoesPatternMatch}
use Rattle.sudoers_match_member.proofs.Places.{match_from_place_has_bytes_for_row}
use Rattle.sudoers_match_member.proofs.place_search.find_place_to_try.Goals as goal

-- places of a text, and places of its rest
none_before_further_place : (mode : GlobMode) (lower : Bool) (pattern text : List ℕ) (passed more : ℕ) → DoesMatchFromNoneBefore mode lower pattern text passed
    → DoesMatchFromNoneBefore mode lower pattern (drop passed text) more → DoesMatchFromNoneBefore mode lower pattern text (passed + more)
none_before_further_place mode lower pattern text passed more before behind place h m =
    elim (cases_lt place passed) [
      | inl less ↦ before place less m
      | inr on ↦ (let e : passed + (place - passed) ≡ place = omega arith in let rest : place - passed + passed ≡ place = omega arith in
          behind (place - passed) (omega (arith, h, on))
          (subst (DoesPatternMatch mode (bytes_case_folded_if_wanted lower pattern))
          (sym (ap (drop (place - passed)) (sym (drop-map (byte_case_folded_if_wanted lower) passed text)) ∙ drop-drop (place - passed) passed (bytes_case_folded_if_wanted lower text) ∙ ap (λ n. drop n (bytes_case_folded_if_wanted lower text)) e)) m))
    ]

none_of_not_some : (o : Option ℕ) → ((x : ℕ) → o ≡ Some x → ⊥) → o ≡ None
none_of_not_some None n = refl
none_of_not_some (Some x) n = absurd (n x refl)

pub returns-in-Some-find_place_among_first-clause-none : goal.returns-in-Some-find_place_among_first-clause-none
returns-in-Some-find_place_among_first-clause-none c =
    none_before_further_place c.args.mode c.args.lower c.args.pattern.now c.args.text.now c.loop-passed.passed c.in-Some-find_place_among_first.place c.loop-passed.invariant.none
    (subst (λ xs. DoesMatchFromNoneBefore c.args.mode c.args.lower c.args.pattern.now xs c.in-Some-find_place_among_first.place) (take_rest c.args.text.now c.loop-passed.passed)
    (subst (λ found. IfSome found (λ place. (place ≤ c.min-places.result) × DoesMatchFromNoneBefore c.args.mode c.args.lower c.args.pattern.now (take (length c.args.text.now - c.loop-passed.passed) (drop c.loop-passed.passed c.args.text.now)) place)) c.in-Some-find_place_among_first.is c.find_place_among_first.ensures.found).1)

-- No match begins where fewer bytes are left than the items take.
none_where_bytes_are_few : (mode : GlobMode) (lower : Bool) (pattern text : List ℕ) (passed count stop : ℕ) → BeginWithStarless (items_from_place lower pattern 0) count → length text < passed + count → passed < length text
    → DoesMatchFromNoneBefore mode lower pattern text passed → DoesMatchFromNoneBefore mode lower pattern text stop
none_where_bytes_are_few mode lower pattern text passed count stop starless few within before place h m =
    elim (cases_lt place passed) [
      | inl less ↦ before place less m
      | inr on ↦ omega (arith, on, few, match_from_place_has_bytes_for_row mode lower pattern text place 0 count m (λ i h. starless i (omega (arith, h))) (omega (arith, few, within)))
    ]

pub returns-then-rest-count-clause-none : goal.returns-then-rest-count-clause-none
returns-then-rest-count-clause-none c =
    let text = c.args.text.now in let passed = c.loop-passed.passed in
    let size : length (take (length text - passed) (drop passed text)) ≡ length text - passed = ap length (take_rest text passed) ∙ length-drop passed text in
    none_where_bytes_are_few c.args.mode c.args.lower c.args.pattern.now text passed c.loop-passed.count _ c.loop-passed.invariant.count (omega (arith, size, c.if-rest-count.true, c.loop-passed-test.true)) c.loop-passed-test.true c.loop-passed.invariant.none

pub loop-passed-preserved : goal.loop-passed-preserved
loop-passed-preserved c =
    let old = c.loop-passed.invariant in let text = c.args.text.now in let passed = c.loop-passed.passed in
    let size : length (take (length text - passed) (drop passed text)) ≡ length text - passed = ap length (take_rest text passed) ∙ length-drop passed text in
    record {
      within = omega (arith, old.within, c.min-places.ensures, c.min.ensures, size);
      count = c.find_place_among_first.ensures.count;
      some = omega (arith, old.some, c.min-most.ensures);
      most = omega (arith, c.min-most.ensures);
      none = none_before_further_place c.args.mode c.args.lower c.args.pattern.now text passed c.min-places.result old.none
          (subst (λ xs. DoesMatchFromNoneBefore c.args.mode c.args.lower c.args.pattern.now xs c.min-places.result) (take_rest text passed)
          (c.find_place_among_first.ensures.missing (none_of_not_some c.find_place_among_first.result c.in_default-find_place_among_first.not-Some)));
      known = c.find_place_among_first.ensures.known;
      tail = c.find_place_among_first.ensures.tail ∙ old.tail;
    }
