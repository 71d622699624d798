use Rattle.sudoers_match.proofs.Common.{Cmnd, DecidesWhetherRunasSpecAllows, IsAnswerOfRowsForContext, IsLastHitOfList, None, Some, ap, command_test_of_context, false, is_in_option_time_bounds}
use Rattle.sudoers_match.proofs.Common.{members_of_view, option_map, runas_of_view, subst, sym, true, ◌∙◌}
use Rattle.sudoers_match_list.proofs.Unique.{one_flat}
use Rattle.sudoers_match.proofs.Rowed.{no_moment, no_runas, by_latest}
use Rattle.sudoers_match.proofs.last_row.find_answer_of_command_if_it_fits.Goals as goal

pub returns-then-not-is_within_time_bounds-clause-answer : goal.returns-then-not-is_within_time_bounds-clause-answer
returns-then-not-is_within_time_bounds-clause-answer c users hosts user host h is m shown rows p =
    let lines = c.args.asked.now.policy.now in
    let r = c.args.asked.now.request.now in
    let place = c.args.place in
    no_moment lines (command_test_of_context c.args.asked.now) r place.spec place.host_group users hosts place.command h m rows
    (ap (is_in_option_time_bounds r.moment) (sym is.options) ∙ sym c.is_within_time_bounds.ensures ∙ c.if-not-is_within_time_bounds.true) p

pub returns-then-not-branch-clause-answer : goal.returns-then-not-branch-clause-answer
returns-then-not-branch-clause-answer c users hosts user host h is m shown rows p =
    let lines = c.args.asked.now.policy.now in
    let r = c.args.asked.now.request.now in
    let place = c.args.place in
    no_runas lines (command_test_of_context c.args.asked.now) r place.spec place.host_group users hosts place.command h m rows
    (subst (λ o. DecidesWhetherRunasSpecAllows lines r.who r.target r.target_group o false) is.runas
    (subst (DecidesWhetherRunasSpecAllows lines r.who r.target r.target_group (option_map runas_of_view c.args.head.now.runas)) c.if-not-branch.true c.in_ok-permits_runas_cached.ensures.permits)) p

pub returns-in-Some-clause-answer : goal.returns-in-Some-clause-answer
returns-in-Some-clause-answer c users hosts user host h is m shown rows p =
    let lines = c.args.asked.now.policy.now in
    let r = c.args.asked.now.request.now in
    let place = c.args.place in
    let hit : IsLastHitOfList Cmnd lines (command_test_of_context c.args.asked.now) (members_of_view c.args.member.now) (Some c.in-Some.hit) =
    subst (IsLastHitOfList Cmnd lines (command_test_of_context c.args.asked.now) (members_of_view c.args.member.now)) c.in-Some.is c.in_ok-hit.ensures.hit in
    subst (λ a. IsAnswerOfRowsForContext c.args.asked.now rows (Some a)) (sym (c.make_row_answer.ensures.told h is))
    (by_latest lines (command_test_of_context c.args.asked.now) r place.spec place.host_group users hosts place.command h user host
    (subst (λ o. DecidesWhetherRunasSpecAllows lines r.who r.target r.target_group o true) is.runas
    (subst (DecidesWhetherRunasSpecAllows lines r.who r.target r.target_group (option_map runas_of_view c.args.head.now.runas)) c.if-not-branch.false c.in_ok-permits_runas_cached.ensures.permits))
    (ap (is_in_option_time_bounds r.moment) (sym is.options) ∙ sym c.is_within_time_bounds.ensures ∙ c.if-not-is_within_time_bounds.false)
    (one_flat Cmnd lines) m rows (Some c.in-Some.hit)
    (subst (λ ms. IsLastHitOfList Cmnd lines (command_test_of_context c.args.asked.now) ms (Some c.in-Some.hit)) shown hit) p)

pub returns-in-None-clause-answer : goal.returns-in-None-clause-answer
returns-in-None-clause-answer c users hosts user host h is m shown rows p =
    let lines = c.args.asked.now.policy.now in
    let r = c.args.asked.now.request.now in
    let place = c.args.place in
    let hit : IsLastHitOfList Cmnd lines (command_test_of_context c.args.asked.now) (members_of_view c.args.member.now) None =
    subst (IsLastHitOfList Cmnd lines (command_test_of_context c.args.asked.now) (members_of_view c.args.member.now)) c.in-None.is c.in_ok-hit.ensures.hit in
    by_latest lines (command_test_of_context c.args.asked.now) r place.spec place.host_group users hosts place.command h user host
    (subst (λ o. DecidesWhetherRunasSpecAllows lines r.who r.target r.target_group o true) is.runas
    (subst (DecidesWhetherRunasSpecAllows lines r.who r.target r.target_group (option_map runas_of_view c.args.head.now.runas)) c.if-not-branch.false c.in_ok-permits_runas_cached.ensures.permits))
    (ap (is_in_option_time_bounds r.moment) (sym is.options) ∙ sym c.is_within_time_bounds.ensures ∙ c.if-not-is_within_time_bounds.false)
    (one_flat Cmnd lines) m rows None
    (subst (λ ms. IsLastHitOfList Cmnd lines (command_test_of_context c.args.asked.now) ms None) shown hit) p
