use Rattle.std.proofs.Common.{◌++◌, [], ◌∷◌, get_or, ap, ◌∙◌}
use Rattle.sudoers_cvt_spell.proofs.Fronts.{front_of_front_is_front, front_of_text_that_is_another}
use Rattle.sudoers_cvt_spell.proofs.Runs.{run_grows_by_byte_that_stands_for_itself, run_ends_before_spelled_byte}
use Rattle.sudoers_cvt_spell.proofs.members.append_args_pattern.Goals as goal
use Rattle.sudoers_cvt_spell.proofs.members.append_args_pattern.Goals.{then-is_backslash_needed_in_args+in_ok-append_bytes+in_ok-append_bytes-2, else-is_backslash_needed_in_args}

pub loop-at-preserved : goal.loop-at-preserved
loop-at-preserved c =
    let xs = c.args.pattern.now in
    let at = c.loop-at.at in
    elim c.if-is_backslash_needed_in_args.branch [
      | then-is_backslash_needed_in_args+in_ok-append_bytes+in_ok-append_bytes-2 w ↦ (
        run_ends_before_spelled_byte xs c.loop-at.out.items _ c.loop-at.printed _ at _ (92 ∷ get_or xs at 0 ∷ []) _ _
            w.if-is_backslash_needed_in_args.ensures c.loop-at.invariant.0
            (ap (λ o. o.items) w.out-is ∙ w.in_ok-append_bytes-2.ensures.appended ∙ ap (λ o. o ++ (92 ∷ get_or xs at 0 ∷ [])) w.in_ok-append_bytes.ensures.appended)
            w.printed-is,
        front_of_text_that_is_another (λ o. o.items) _ _ _ w.out-is (front_of_front_is_front _ _ _ (front_of_front_is_front _ _ _ c.loop-at.invariant.1 w.in_ok-append_bytes.ensures.front) w.in_ok-append_bytes-2.ensures.front),
      )
      | else-is_backslash_needed_in_args w ↦ (
        run_grows_by_byte_that_stands_for_itself xs c.loop-at.out.items _ c.loop-at.printed _ at _ _ _ c.loop-at-test.true
            w.if-is_backslash_needed_in_args.ensures c.loop-at.invariant.0 (ap (λ o. o.items) w.out-is) w.printed-is,
        front_of_text_that_is_another (λ o. o.items) _ _ _ w.out-is c.loop-at.invariant.1,
      )
    ]
