use Rattle.std.proofs.Common.{◌≡◌, ◌∙◌, ◌-◌, ◌+◌, ◌<◌, ◌≤◌, ℕ, false, List, length, take, drop, get_or, ap, sym, subst, arith}
use Rattle.sudoers_match_member.specs.Hits.{path_split_at_last_slash}
use Rattle.sudoers_match_member.proofs.Directories.{has_slash, split_at_start_has_empty_directory, split_after_last_slash_place}
use Rattle.sudoers_undecided.proofs.command_question.last_name_of_path.Goals as goal
use Rattle.sudoers_undecided.proofs.command_question.last_name_of_path.Goals.{then-loop-at-test+else-path-at-ne47, else-loop-at-test}

behind : (path : List ℕ) (at : ℕ) → 0 < at → at ≤ length path → get_or path (at - 1) 0 ≡ 47 → has_slash (drop at path) ≡ false → path_split_at_last_slash path ≡ (take at path, drop at path)
behind path at some within e h =
    let same : at - 1 + 1 ≡ at = omega (arith, some) in
    subst (λ n. path_split_at_last_slash path ≡ (take n path, drop n path)) same
    (split_after_last_slash_place path (at - 1) (omega (arith, some, within)) e (subst (λ n. has_slash (drop n path) ≡ false) (sym same) h))

pub returns : goal.returns
returns c =
    let at = c.loop-at.at in
    let path = c.args.path.now in
    let cut : path_split_at_last_slash path ≡ (take at path, drop at path) =
    elim c.loop-at-test.branch [
      | then-loop-at-test+else-path-at-ne47 w ↦ behind path at w.loop-at-test.true c.loop-at.invariant.within w.if-path-at-ne47.false c.loop-at.invariant.behind
      | else-loop-at-test w ↦ split_at_start_has_empty_directory path at (omega (arith, w.loop-at-test.false)) c.loop-at.invariant.behind
    ] in
    c.split_at.ensures.back ∙ ap (λ (p : List ℕ × List ℕ). p.1) (sym cut)
