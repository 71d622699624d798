use Rattle.std.proofs.Common.{◌≡◌, ◌⊎◌, inl, inr, IfErr, List, Err, rules, subst, sym}
use Rattle.sudoers_tree.specs.Line.{Line}
use Rattle.sudoers_check.specs.Chains.{HasCyclicAliasReachedFromSpecOrDefaults}
use Rattle.sudoers_match_list.specs.declared.verdict.AskFault.TheVariants.{Cycle}
use Rattle.sudoers_list_people.specs.People.{People}
use Rattle.sudoers_ask.specs.declared.question.CommandQuestion.{CommandQuestion}
use Rattle.sudoers_ask.specs.declared.question.QuestionFault.{QuestionFault}
use Rattle.sudoers_ask.specs.declared.question.QuestionFault.TheVariants.{Ask}
use Rattle.sudoers_ask.specs.Outcome.{IsMemoryFault, IsUserOutcome}
use Rattle.sudoers_ask.specs.Why.{IsWhyText}
use Rattle.sudoers_ask.proofs.Ready.{ready_with_its_own}
use Rattle.sudoers_ask.proofs.why.explain_user_answer.Goals as goal

pub explain_answer_to_user-requires : goal.explain_answer_to_user-requires
explain_answer_to_user-requires c = record { ready = ready_with_its_own c.args.policy.now.walk.lines c.args.people.now c.args.question.now c.in_ok-asked.asked c.in_ok-asked.ensures.ready }

pub returns-clause-why : goal.returns-clause-why
returns-clause-why c =
    let ready = c.in_ok-asked.ensures.ready in
    let asked = c.in_ok-asked.asked in
    let why = c.in_ok-why.why in
    subst (λ (q : CommandQuestion). IsWhyText c.args.policy.now c.args.people.now q c.args.user.now why.text.items why.is_allowed) ready.of_question
    (subst (λ (p : People). IsWhyText c.args.policy.now p asked.question.now c.args.user.now why.text.items why.is_allowed) ready.of_people c.in_ok-why.ensures.why)

pub returns-in_err-why-clause-fault : goal.returns-in_err-why-clause-fault
returns-in_err-why-clause-fault c =
    let lines : List Line = c.args.policy.now.walk.lines in
    let ready = c.in_ok-asked.ensures.ready in
    let asked = c.in_ok-asked.asked in
    let fault : QuestionFault = c.in_err-why.field-0.0 in
    let same : c.from_residual-in_err-why.result ≡ Err fault = search rules in
    subst (λ r. IfErr r (λ (f : QuestionFault). IsMemoryFault f ⊎ (((f ≡ Ask Cycle) × HasCyclicAliasReachedFromSpecOrDefaults lines) ⊎ IsUserOutcome lines c.args.people.now c.args.question.now c.args.user.now (Err f)))) (sym same)
    (elim c.in_err-why.ensures.fault as (λ _. IsMemoryFault fault ⊎ (((fault ≡ Ask Cycle) × HasCyclicAliasReachedFromSpecOrDefaults lines) ⊎ IsUserOutcome lines c.args.people.now c.args.question.now c.args.user.now (Err fault))) [
      | inl memory ↦ inl memory
      | inr told ↦ inr (inr (subst (λ (q : CommandQuestion). IsUserOutcome lines c.args.people.now q c.args.user.now (Err fault)) ready.of_question
          (subst (λ (p : People). IsUserOutcome lines p asked.question.now c.args.user.now (Err fault)) ready.of_people told)))
    ])
