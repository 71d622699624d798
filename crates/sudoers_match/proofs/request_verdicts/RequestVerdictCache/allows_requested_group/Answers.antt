use Rattle.sudoers_match.proofs.Common.{DecidesWhetherRunasGroupsAllow, Group, Runas, Some, ap, false, is_group_absent_or_among, is_runas_group_atom_match, is_allowed_by_verdict_or_own_group, members_of_view, subst, sym, ◌∙◌}
use Rattle.sudoers_match_list.proofs.Said.{one}
use Rattle.sudoers_match.proofs.Runases.{group_permits}
use Rattle.sudoers_match.proofs.request_verdicts.RequestVerdictCache.allows_requested_group.Goals as goal

pub returns-in-Deny-clause-permits : goal.returns-in-Deny-clause-permits
returns-in-Deny-clause-permits c =
    let lines = c.args.asked.now.policy.now in
    let target = c.args.asked.now.request.now.target in
    let ms = members_of_view c.args.groups.now in
    let g : Group = c.in-Some.group in
    subst (λ o. DecidesWhetherRunasGroupsAllow lines target o ms false) (sym c.in-Some.is)
    (group_permits lines target (λ v o h ns. one Runas lines (is_runas_group_atom_match h) ns v o) g ms c.in_ok-hit.hit c.from_last_hit.result c.in_ok-hit.ensures.hit c.from_last_hit.ensures
    false (ap (λ v. is_allowed_by_verdict_or_own_group v (is_group_absent_or_among target.groups (Some g))) (sym c.in-Deny.is)))

pub returns-in-Unsaid-clause-permits : goal.returns-in-Unsaid-clause-permits
returns-in-Unsaid-clause-permits c =
    let lines = c.args.asked.now.policy.now in
    let target = c.args.asked.now.request.now.target in
    let ms = members_of_view c.args.groups.now in
    let g : Group = c.in-Some.group in
    subst (λ o. DecidesWhetherRunasGroupsAllow lines target o ms c.args.self.now.own) (sym c.in-Some.is)
    (group_permits lines target (λ v o h ns. one Runas lines (is_runas_group_atom_match h) ns v o) g ms c.in_ok-hit.hit c.from_last_hit.result c.in_ok-hit.ensures.hit c.from_last_hit.ensures
    c.args.self.now.own (c.requires.question.own ∙ ap (is_group_absent_or_among target.groups) c.in-Some.is
    ∙ ap (λ v. is_allowed_by_verdict_or_own_group v (is_group_absent_or_among target.groups (Some g))) (sym c.in-Unsaid.is)))
