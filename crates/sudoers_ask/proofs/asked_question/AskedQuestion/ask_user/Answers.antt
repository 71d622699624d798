use Rattle.sudoers_match.specs.declared.specs_for_users.SpecOnLine.{SpecOnLine}
use Rattle.std.proofs.Common.{◌≡◌, ◌⊎◌, IfErr, Err, List, option_map, rules, subst, sym}
use Rattle.sudoers_match_member.specs.declared.request.Request.{Request}
use Rattle.sudoers_match_list.specs.declared.verdict.AskFault.{AskFault}
use Rattle.sudoers_match.specs.declared.spellings.CommandSpellings.{CommandSpellings}
use Rattle.sudoers_match.specs.Answer.{IsAnswerByCommandTest}
use Rattle.sudoers_match.specs.Found.{answer_without_member_and_settings}
use Rattle.sudoers_match.specs.ForRequest.{AreSpecsForRequest}
use Rattle.sudoers_match.specs.Spellings.{is_spelled_command_match}
use Rattle.sudoers_ask.specs.declared.question.QuestionFault.{QuestionFault}
use Rattle.sudoers_ask.specs.declared.question.QuestionFault.TheVariants.{Ask}
use Rattle.sudoers_ask.specs.Outcome.{IsMemoryFault, IsUserOutcome}
use Rattle.sudoers_ask.proofs.Outcomes.{answer_refused}
use Rattle.sudoers_ask.proofs.asked_question.AskedQuestion.ask_user.Goals as goal

pub find_answer_in_specs-requires-clause-specs : goal.find_answer_in_specs-requires-clause-specs
find_answer_in_specs-requires-clause-specs c =
    let r : Request = c.in_ok-made.made.request in
    let self = c.args.self.now in
    subst (λ (specs : List SpecOnLine). AreSpecsForRequest self.walk (is_spelled_command_match self.command) r specs) (sym c.as_slice-specs.ensures.value)
    (subst (λ (command : CommandSpellings). AreSpecsForRequest self.walk (is_spelled_command_match command) r self.specs.items) (sym c.requires.command)
    (c.requires.specs c.args.user.now r c.in_ok-made.made.default.now c.in_ok-made.ensures.request))

pub returns-in_err-found-clause-fault : goal.returns-in_err-found-clause-fault
returns-in_err-found-clause-fault c =
    let fault : AskFault = c.in_err-found.field-0.0 in
    let same : c.from_residual-in_err-found.result ≡ Err (Ask fault) = search rules in
    subst (λ r. IfErr r (λ (f : QuestionFault). IsMemoryFault f ⊎ IsUserOutcome c.args.self.now.walk c.args.self.now.people.now c.args.self.now.question.now c.args.user.now (Err f))) (sym same)
    (answer_refused c.args.self.now.walk c.args.self.now.people.now c.args.self.now.question.now c.args.user.now c.in_ok-made.made.request c.in_ok-made.made.default.now c.in_ok-made.ensures.request
    fault c.in_err-found.ensures.fault)

pub returns-clause-answer : goal.returns-clause-answer
returns-clause-answer c =
    let r : Request = c.in_ok-made.made.request in
    subst (λ (command : CommandSpellings). IsAnswerByCommandTest c.args.self.now.walk (is_spelled_command_match command) r (option_map answer_without_member_and_settings c.in_ok-found.found))
    c.requires.command c.in_ok-found.ensures.answer
