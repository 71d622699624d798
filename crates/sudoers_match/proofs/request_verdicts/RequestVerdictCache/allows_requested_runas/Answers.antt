use Rattle.sudoers_match.proofs.Common.{DecidesWhetherListAllows, DecidesWhetherRunasSpecAllows, Runas, ap, is_name_equal_ignoring_case, is_user_atom_match, member_in_tables, members_of_view, option_map}
use Rattle.sudoers_match.proofs.Common.{runas_of_view, subst, sym, ◌&&◌, ◌∙◌}
use Rattle.sudoers_match.proofs.Runases.{default_permits, target_with_group, property_of_ok_result_is_weakened, mapped_nonempty_list_is_not_empty}
use Rattle.sudoers_match.proofs.request_verdicts.RequestVerdictCache.allows_requested_runas.Goals as goal

pub returns-then-own-clause-permits : goal.returns-then-own-clause-permits
returns-then-own-clause-permits c =
    let lines = c.args.asked.now.policy.now in
    let r = c.args.asked.now.request.now in
    subst (λ o. DecidesWhetherRunasSpecAllows lines r.who r.target r.target_group (option_map runas_of_view o) c.is_same_name_ignoring_case.result) (sym c.in_default.is)
    (default_permits lines r.target r.who r.target_group c.args.self.now.default.now c.requires.question.default c.args.self.now.own c.is_same_name_ignoring_case.result
    c.requires.question.own
    (c.is_same_name_ignoring_case.ensures ∙ ap (is_name_equal_ignoring_case c.args.self.now.default.now) c.as_slice.ensures
    ∙ ap (λ b. b && is_name_equal_ignoring_case c.args.self.now.default.now r.target.name) (sym c.if-own.true)))

pub returns-else-is_empty-3-clause-permits : goal.returns-else-is_empty-3-clause-permits
returns-else-is_empty-3-clause-permits c =
    let lines = c.args.asked.now.policy.now in
    let r = c.args.asked.now.request.now in
    property_of_ok_result_is_weakened c.allows_requested_group-else-is_empty-3.result (λ allowed p. subst (λ o. DecidesWhetherRunasSpecAllows lines r.who r.target r.target_group (option_map runas_of_view o) allowed) (sym c.in-Some.is)
    (target_with_group lines r.target r.who r.target_group (members_of_view c.in-Some.runas.users) (members_of_view c.in-Some.runas.groups)
    (mapped_nonempty_list_is_not_empty (member_in_tables c.in-Some.runas.users.tables.now) c.in-Some.runas.users.rows.now c.is_empty.result c.is_empty.ensures c.if-is_empty.false)
    (mapped_nonempty_list_is_not_empty (member_in_tables c.in-Some.runas.groups.tables.now) c.in-Some.runas.groups.rows.now c.is_empty-else-not-branch.result c.is_empty-else-not-branch.ensures c.if-is_empty-3.false)
    (subst (DecidesWhetherListAllows Runas lines (is_user_atom_match r.target) (members_of_view c.in-Some.runas.users)) c.if-not-branch.false c.in_ok-allows_requested_user.ensures.permits) allowed p))
    c.allows_requested_group-else-is_empty-3.ensures.permits
