use Rattle.std.proofs.Common.{◌≡◌, ◌⊎◌, inl, inr, IfErr, List, Ok, Err, option_map, rules, subst, sym}
use Rattle.std.specs.Result.{IsErrAnd}
use Rattle.sudoers_tree.specs.Line.{Line}
use Rattle.sudoers_match.specs.declared.spellings.CommandSpellings.{CommandSpellings}
use Rattle.sudoers_match.specs.Spellings.{is_spelled_command_match}
use Rattle.sudoers_list.specs.Reason.{IsReasonTextByTest}
use Rattle.sudoers_match.specs.Found.{answer_without_member_and_settings}
use Rattle.sudoers_match_list.specs.declared.verdict.AskFault.TheVariants.{NoMemory}
use Rattle.sudoers_ask.specs.declared.question.QuestionFault.{QuestionFault}
use Rattle.sudoers_ask.specs.declared.question.QuestionFault.TheVariants.{Ask}
use Rattle.sudoers_ask.specs.Outcome.{IsMemoryFault, IsUserOutcome}
use Rattle.sudoers_ask.proofs.Outcomes.{memory_refused}
use Rattle.sudoers_ask.proofs.Parts.{answered_request_is_outcome}
use Rattle.sudoers_ask.proofs.Ready.{ready_answer, ready_default, ready_found, ready_itself, ready_outcome}
use Rattle.sudoers_ask.proofs.why.explain_answer_to_user.Goals as goal

pub ask_user-requires : goal.ask_user-requires
ask_user-requires c = ready_itself c.args.policy.now.walk.lines c.args.asked.now.people.now c.args.asked.now.question.now c.args.asked.now c.requires.ready

pub explain_answer-requires-clause-same : goal.explain_answer-requires-clause-same
explain_answer-requires-clause-same c =
    c.requires.ready.walk

pub explain_answer-requires-clause-default : goal.explain_answer-requires-clause-default
explain_answer-requires-clause-default c =
    ready_default c.args.policy.now.walk.lines c.args.asked.now.people.now c.args.asked.now.question.now c.args.asked.now c.requires.ready c.in_ok-answer.answer.request.who c.in_ok-answer.answer.default.now c.in_ok-answer.ensures.request.is_default

pub explain_answer-requires-clause-answer : goal.explain_answer-requires-clause-answer
explain_answer-requires-clause-answer c =
    ready_answer c.args.policy.now.walk.lines c.args.asked.now.people.now c.args.asked.now.question.now c.args.asked.now c.requires.ready c.in_ok-answer.answer.request (option_map answer_without_member_and_settings c.in_ok-answer.answer.found) c.in_ok-answer.ensures.answer

pub explain_answer-requires-clause-found : goal.explain_answer-requires-clause-found
explain_answer-requires-clause-found c =
    ready_found c.args.policy.now.walk.lines c.args.asked.now.people.now c.args.asked.now.question.now c.args.asked.now c.requires.ready c.in_ok-answer.answer.found c.in_ok-answer.ensures.found

pub explain_answer-requires-clause-own_default : goal.explain_answer-requires-clause-own_default
explain_answer-requires-clause-own_default c =
    c.in_ok-answer.ensures.request.is_default

pub returns-in_err-answer-clause-fault : goal.returns-in_err-answer-clause-fault
returns-in_err-answer-clause-fault c =
    let lines : List Line = c.args.policy.now.walk.lines in
    let fault : QuestionFault = c.in_err-answer.field-0.0 in
    let same : c.from_residual.result ≡ Err fault = search rules in
    subst (λ r. IfErr r (λ (f : QuestionFault). IsMemoryFault f ⊎ IsUserOutcome lines c.args.asked.now.people.now c.args.asked.now.question.now c.args.user.now (Err f))) (sym same)
    (elim c.in_err-answer.ensures.fault as (λ _. IsMemoryFault fault ⊎ IsUserOutcome lines c.args.asked.now.people.now c.args.asked.now.question.now c.args.user.now (Err fault)) [
      | inl memory ↦ inl memory
      | inr told ↦ inr (ready_outcome lines c.args.asked.now.people.now c.args.asked.now.question.now c.args.asked.now c.requires.ready c.args.user.now (Err fault) told)
    ])

pub returns-clause-why : goal.returns-clause-why
returns-clause-why c =
    let people = c.args.asked.now.people.now in
    let q = c.args.asked.now.question.now in
    let user = c.args.user.now in
    let lines : List Line = c.args.policy.now.walk.lines in
    let asked = c.args.asked.now in
    let ready = c.requires.ready in
    let a = c.in_ok-answer.answer in
    let answer = option_map answer_without_member_and_settings a.found in
    record {
      told = record { request = a.request; default = a.default.now; answer = answer };
      asked = ready_outcome lines people q asked ready user (Ok (record { request = a.request; default = a.default.now; answer = answer }))
          (answered_request_is_outcome asked.walk asked.people.now asked.question.now user a.request a.default.now answer c.in_ok-answer.ensures.request c.in_ok-answer.ensures.short c.in_ok-answer.ensures.answer);
      reason = subst (λ (command : CommandSpellings). IsReasonTextByTest c.args.policy.now (is_spelled_command_match command) a.request answer c.in_ok-why.why.text.items) ready.command c.in_ok-why.ensures.reason;
      tells = c.in_ok-why.ensures.tells;
    }

pub returns-in_err-why-clause-fault : goal.returns-in_err-why-clause-fault
returns-in_err-why-clause-fault c =
    let memory : IsErrAnd c.from_residual-in_err-why.result (λ (fault : QuestionFault). fault ≡ Ask NoMemory) = c.from_residual-in_err-why.ensures.1 in
    memory_refused _ c.from_residual-in_err-why.result memory (λ fault is. inl is)
