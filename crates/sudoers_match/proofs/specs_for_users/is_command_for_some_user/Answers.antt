use Rattle.sudoers_match.proofs.Common.{Cmnd, IsLastHitOfList, None, ap, command_test_of_context, is_in_option_time_bounds, members_of_view, subst, sym, ◌∙◌, ◌≡◌}
use Rattle.sudoers_match.proofs.ForUsers.{command_of_other_moment, command_of_other_target, command_without_hit, none_if_not_some}
use Rattle.sudoers_match.proofs.specs_for_users.is_command_for_some_user.Goals as goal
use Rattle.sudoers_match.proofs.specs_for_users.is_command_for_some_user.Goals.{then-not-may_run-via-then-not-may_run, then-not-may_run-via-else-not-may_run+then-not-is_within_time_bounds}

pub returns-then-not-may_run-clause-idle : goal.returns-then-not-may_run-clause-idle
returns-then-not-may_run-clause-idle c _ of_target h is other m shown i j k users hosts rows p =
    let asked = c.args.asked.now in
    let r = asked.request.now in
    elim c.then-not-may_run.branch [
      | then-not-may_run-via-then-not-may_run w ↦
          command_of_other_target asked.policy.now (command_test_of_context asked) of_target r i j users hosts k h m rows p (other w.if-not-may_run.true)
      | then-not-may_run-via-else-not-may_run+then-not-is_within_time_bounds w ↦
          command_of_other_moment asked.policy.now (command_test_of_context asked) of_target r i j users hosts k h m rows p
          (ap (is_in_option_time_bounds r.moment) (sym is.options) ∙ sym w.is_within_time_bounds.ensures ∙ w.if-not-is_within_time_bounds.true)
    ]

pub returns-clause-idle : goal.returns-clause-idle
returns-clause-idle c e of_target h is other m shown i j k users hosts rows p =
    let asked = c.args.asked.now in
    let test = command_test_of_context asked in
    let lines = asked.policy.now in
    let no_hit : c.in_ok-hit.hit ≡ None = none_if_not_some c.in_ok-hit.hit (sym c.is_some.ensures ∙ e) in
    command_without_hit lines test of_target asked.request.now i j users hosts k h m rows p
    (subst (λ ms. IsLastHitOfList Cmnd lines test ms None) shown (subst (IsLastHitOfList Cmnd lines test (members_of_view c.args.member.now)) no_hit c.in_ok-hit.ensures.hit))
