use Rattle.std.proofs.Common.{◌≡◌, ◌⊎◌, inl, IfErr, Ok, Err, ap, refl, rules, subst, sym, ◌∙◌}
use Rattle.sudoers_match_member.specs.declared.people_and_commands.Who.{Who as WhoOf}
use Rattle.sudoers_match_list.specs.declared.verdict.AskFault.TheVariants.{NoMemory}
use Rattle.sudoers_match.specs.Default.{IsRunasDefault}
use Rattle.sudoers_list_people.specs.declared.fault.WhoFault.{WhoFault}
use Rattle.sudoers_list_people.specs.Asked.{request_or_who_fault}
use Rattle.sudoers_ask.specs.declared.question.QuestionFault.{QuestionFault}
use Rattle.sudoers_ask.specs.declared.question.QuestionFault.TheVariants.{Ask, Who}
use Rattle.sudoers_ask.specs.Outcome.{IsMemoryFault, IsUserOutcome, optional_name_of_view, target_name}
use Rattle.sudoers_ask.proofs.Outcomes.{request_refused, who_refused}
use Rattle.sudoers_ask.proofs.Requests.{request_keeps_who}
use Rattle.sudoers_ask.proofs.user_answer.make_user_request.Goals as goal

pub returns-in_err-who-clause-fault : goal.returns-in_err-who-clause-fault
returns-in_err-who-clause-fault c =
    let fault : WhoFault = c.in_err-who.field-0.0 in
    let same : c.from_residual.result ≡ Err (Who fault) = search rules in
    subst (λ r. IfErr r (λ (f : QuestionFault). IsMemoryFault f ⊎ IsUserOutcome c.args.policy.now c.args.people.now c.args.question.now c.args.user.now (Err f))) (sym same)
    (who_refused c.args.policy.now c.args.people.now c.args.question.now c.args.user.now fault c.in_err-who.ensures.fault)

pub returns-in_err-default-clause-fault : goal.returns-in_err-default-clause-fault
returns-in_err-default-clause-fault c =
    let same : c.from_residual-in_err-default.result ≡ Err (Ask NoMemory) = search rules in
    subst (λ r. IfErr r (λ (f : QuestionFault). IsMemoryFault f ⊎ IsUserOutcome c.args.policy.now c.args.people.now c.args.question.now c.args.user.now (Err f))) (sym same)
    (inl (inl refl))

pub returns-in_err-request-clause-fault : goal.returns-in_err-request-clause-fault
returns-in_err-request-clause-fault c =
    let fault : WhoFault = c.in_err-request.field-0.0 in
    let same : c.from_residual-in_err-request.result ≡ Err (Who fault) = search rules in
    subst (λ r. IfErr r (λ (f : QuestionFault). IsMemoryFault f ⊎ IsUserOutcome c.args.policy.now c.args.people.now c.args.question.now c.args.user.now (Err f))) (sym same)
    (request_refused c.args.policy.now c.args.people.now c.args.question.now c.args.user.now c.in_ok-who.who c.in_ok-who.ensures.who c.in_ok-default.default.now c.in_ok-default.ensures
    c.choose_target_name-target.result.now c.choose_target_name-target.ensures fault c.in_err-request.ensures.fault)

pub returns-clause-request : goal.returns-clause-request
returns-clause-request c =
    let q = c.args.question.now in
    let people = c.args.people.now in
    let who = c.in_ok-who.who in
    let default = c.in_ok-default.default.now in
    let r = c.in_ok-request.request in
    let target = c.choose_target_name-target.result.now in
    let group = optional_name_of_view q.group in
    let asks : request_or_who_fault people who target group q.words.now q.moment.now ≡ Ok r = c.in_ok-request.ensures.request in
    let keeps : r.who ≡ who = request_keeps_who people who target group q.words.now q.moment.now r asks in
    record {
      who = c.in_ok-who.ensures.who ∙ ap Ok (sym keeps);
      is_default = subst (λ (w : WhoOf). IsRunasDefault c.args.policy.now w default) (sym keeps) c.in_ok-default.ensures;
      asks = ap (λ (w : WhoOf). request_or_who_fault people w (target_name (optional_name_of_view q.target) group c.args.user.now default) group q.words.now q.moment.now) keeps
          ∙ ap (λ t. request_or_who_fault people who t group q.words.now q.moment.now) (sym c.choose_target_name-target.ensures) ∙ asks;
    }
