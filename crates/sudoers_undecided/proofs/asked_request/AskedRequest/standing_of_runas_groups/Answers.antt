use Rattle.std.proofs.Common.{Some, sym, subst}
use Rattle.sudoers_undecided.specs.internal.Counted.{IsRunasGroupsStanding}
use Rattle.sudoers_undecided.proofs.asked_request.AskedRequest.standing_of_runas_groups.Goals as goal

pub returns-in-Some : goal.returns-in-Some
returns-in-Some c =
    let asked = c.args.self.now in
    let st = c.standing_of_runas_groups.result in
    subst (λ o. IsRunasGroupsStanding asked.policy.now asked.request.now o st) (sym c.in-Some.is)
    (subst (λ lines. IsRunasGroupsStanding lines asked.request.now (Some c.in-Some.runas) st) c.definition_numbers.ensures c.standing_of_runas_groups.ensures)
