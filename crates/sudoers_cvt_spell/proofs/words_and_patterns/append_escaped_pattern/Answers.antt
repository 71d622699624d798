use Rattle.std.proofs.Common.{◌≡◌, ◌+◌, ◌<◌, ◌++◌, Bool, true, false, List, ℕ, [], ◌∷◌, length, drop, get_or, ap, ◌∙◌, sym, if◌then◌else◌}
use Rattle.std.proofs.lemmas.List.{at_drop_more}
use Rattle.sudoers_grammar.specs.declared.pattern.PatternSpelling.{PatternSpelling}
use Rattle.sudoers_grammar.specs.Pattern.{is_dropped_backslash_before}
use Rattle.sudoers_cvt_spell.specs.Spelling.{escaped_pattern}
use Rattle.sudoers_cvt_spell.proofs.Fronts.{front_of_front_is_front, front_of_text_that_is_another}
use Rattle.sudoers_cvt_spell.proofs.Runs.{run_grows_by_byte_that_stands_for_itself, run_ends_before_spelled_byte}
use Rattle.sudoers_cvt_spell.proofs.words_and_patterns.append_escaped_pattern.Goals as goal
use Rattle.sudoers_cvt_spell.proofs.words_and_patterns.append_escaped_pattern.Goals.{then-is_backslash_before_pattern_byte_dropped+in_ok-append_bytes+in_ok-append_bytes-2, else-is_backslash_before_pattern_byte_dropped}

first_byte_has_backslash_by_test : (s : PatternSpelling) (xs : List ℕ) (at : ℕ) (test : Bool) → at < length xs
    → test ≡ is_dropped_backslash_before s (get_or xs at 0)
    → escaped_pattern s (drop at xs) ≡ (if test then 92 ∷ get_or xs at 0 ∷ [] else get_or xs at 0 ∷ []) ++ escaped_pattern s (drop (at + 1) xs)
first_byte_has_backslash_by_test s xs at test within is =
    at_drop_more (escaped_pattern s) xs at 0 within
    ∙ ap (λ (t : Bool). (if t then 92 ∷ get_or xs at 0 ∷ [] else get_or xs at 0 ∷ []) ++ escaped_pattern s (drop (at + 1) xs)) (sym is)

pub loop-at-preserved : goal.loop-at-preserved
loop-at-preserved c =
    let s = c.args.spelling in
    let xs = c.args.pattern.now in
    let at = c.loop-at.at in
    elim c.if-is_backslash_before_pattern_byte_dropped.branch [
      | then-is_backslash_before_pattern_byte_dropped+in_ok-append_bytes+in_ok-append_bytes-2 w ↦ (
        run_ends_before_spelled_byte xs c.loop-at.out.items _ c.loop-at.printed _ at _ (92 ∷ get_or xs at 0 ∷ []) _ _
            (first_byte_has_backslash_by_test s xs at true c.loop-at-test.true w.if-is_backslash_before_pattern_byte_dropped.ensures) c.loop-at.invariant.0
            (ap (λ o. o.items) w.out-is ∙ w.in_ok-append_bytes-2.ensures.appended ∙ ap (λ o. o ++ (92 ∷ get_or xs at 0 ∷ [])) w.in_ok-append_bytes.ensures.appended)
            w.printed-is,
        front_of_text_that_is_another (λ o. o.items) _ _ _ w.out-is (front_of_front_is_front _ _ _ (front_of_front_is_front _ _ _ c.loop-at.invariant.1 w.in_ok-append_bytes.ensures.front) w.in_ok-append_bytes-2.ensures.front),
      )
      | else-is_backslash_before_pattern_byte_dropped w ↦ (
        run_grows_by_byte_that_stands_for_itself xs c.loop-at.out.items _ c.loop-at.printed _ at _ _ _ c.loop-at-test.true
            (first_byte_has_backslash_by_test s xs at false c.loop-at-test.true w.if-is_backslash_before_pattern_byte_dropped.ensures)
            c.loop-at.invariant.0 (ap (λ o. o.items) w.out-is) w.printed-is,
        front_of_text_that_is_another (λ o. o.items) _ _ _ w.out-is c.loop-at.invariant.1,
      )
    ]
