use Rattle.std.proofs.Common.{Some, sym, subst, ap, ◌∙◌}
use Rattle.sudoers_match_member.specs.Hits.{is_name_equal_ignoring_case}
use Rattle.sudoers_undecided.specs.declared.decided_aliases.PartStanding.{PartStanding}
use Rattle.sudoers_undecided.specs.internal.Counted.{IsRunasUsersStanding}
use Rattle.sudoers_undecided.proofs.Standings.{default_user_stands}
use Rattle.sudoers_undecided.proofs.asked_request.AskedRequest.standing_of_runas_users.Goals as goal

pub returns-in-Some : goal.returns-in-Some
returns-in-Some c =
    let asked = c.args.self.now in
    let st = c.standing_of_runas_users.result in
    subst (λ o. IsRunasUsersStanding asked.policy.now asked.request.now asked.scopes.now o st) (sym c.in-Some.is)
    (subst (λ lines. IsRunasUsersStanding lines asked.request.now asked.scopes.now (Some c.in-Some.runas) st) c.definition_numbers.ensures (c.standing_of_runas_users.ensures asked.scopes.now))

pub returns-in-None : goal.returns-in-None
returns-in-None c =
    let asked = c.args.self.now in
    let st : PartStanding = record { holds = c.is_same_name_ignoring_case.result; could_turn = c.have_lists.result } in
    subst (λ o. IsRunasUsersStanding asked.policy.now asked.request.now asked.scopes.now o st) (sym c.in-None.is)
    (default_user_stands asked.policy.now asked.request.now asked.scopes.now asked.default.now st c.requires.default (λ s. (c.requires.scopes s, c.requires.only_scopes s)) (c.is_same_name_ignoring_case.ensures ∙ ap (is_name_equal_ignoring_case asked.default.now) c.as_slice.ensures)
    (c.have_lists.ensures.wanted asked.policy.now asked.request.now) (c.have_lists.ensures.turned asked.policy.now asked.request.now c.requires.turned_scopes))
