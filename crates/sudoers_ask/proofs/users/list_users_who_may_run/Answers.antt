use Rattle.std.proofs.Common.{◌≡◌, ◌⊎◌, inl, inr, IfErr, List, Err, rules, subst, sym}
use Rattle.sudoers_tree.specs.Line.{Line}
use Rattle.sudoers_check.specs.Chains.{HasCyclicAliasReachedFromSpecOrDefaults}
use Rattle.sudoers_match_list.specs.declared.verdict.AskFault.TheVariants.{Cycle}
use Rattle.sudoers_list_people.specs.People.{People}
use Rattle.sudoers_ask.specs.declared.question.CommandQuestion.{CommandQuestion}
use Rattle.sudoers_ask.specs.declared.question.QuestionFault.{QuestionFault}
use Rattle.sudoers_ask.specs.declared.question.QuestionFault.TheVariants.{Ask}
use Rattle.sudoers_ask.specs.Outcome.{IsMemoryFault}
use Rattle.sudoers_ask.specs.Users.{IsFaultOfFirstUser, IsTextOfUsers}
use Rattle.sudoers_ask.proofs.Ready.{ready_with_its_own}
use Rattle.sudoers_ask.proofs.users.list_users_who_may_run.Goals as goal

pub list_users_of_question-requires : goal.list_users_of_question-requires
list_users_of_question-requires c = record { ready = ready_with_its_own c.args.policy.now.walk.lines c.args.people.now c.args.question.now c.in_ok-asked.asked c.in_ok-asked.ensures.ready }

pub returns-clause-users : goal.returns-clause-users
returns-clause-users c =
    let ready = c.in_ok-asked.ensures.ready in
    let users = c.in_ok-users.users in
    subst (λ (q : CommandQuestion). IsTextOfUsers c.args.policy.now c.args.people.now q c.args.denied users.text.items users.is_any_allowed) ready.of_question
    (subst (λ (p : People). IsTextOfUsers c.args.policy.now p c.in_ok-asked.asked.question.now c.args.denied users.text.items users.is_any_allowed) ready.of_people c.in_ok-users.ensures.users)

pub returns-in_err-users-clause-fault : goal.returns-in_err-users-clause-fault
returns-in_err-users-clause-fault c =
    let policy = c.args.policy.now in
    let lines : List Line = policy.walk.lines in
    let ready = c.in_ok-asked.ensures.ready in
    let fault : QuestionFault = c.in_err-users.field-0.0 in
    let same : c.from_residual-in_err-users.result ≡ Err fault = search rules in
    subst (λ r. IfErr r (λ (f : QuestionFault). IsMemoryFault f ⊎ (((f ≡ Ask Cycle) × HasCyclicAliasReachedFromSpecOrDefaults lines) ⊎ IsFaultOfFirstUser policy c.args.people.now c.args.question.now c.args.denied f))) (sym same)
    (elim c.in_err-users.ensures.fault as (λ _. IsMemoryFault fault ⊎ (((fault ≡ Ask Cycle) × HasCyclicAliasReachedFromSpecOrDefaults lines) ⊎ IsFaultOfFirstUser policy c.args.people.now c.args.question.now c.args.denied fault)) [
      | inl memory ↦ inl memory
      | inr told ↦ inr (inr (subst (λ (q : CommandQuestion). IsFaultOfFirstUser policy c.args.people.now q c.args.denied fault) ready.of_question
          (subst (λ (p : People). IsFaultOfFirstUser policy p c.in_ok-asked.asked.question.now c.args.denied fault) ready.of_people told)))
    ])
