-- A question that is ready, and what its users are answered.
use Rattle.std.proofs.Common.{◌∙◌, ℕ, List, Option, IfSome, ap, subst, sym}
use Rattle.sudoers_tree.specs.Line.{Line}
use Rattle.sudoers_match_member.specs.declared.people_and_commands.Who.{Who}
use Rattle.sudoers_match_member.specs.declared.request.Request.{Request}
use Rattle.sudoers_match.specs.declared.answer_of_row.AnswerWithMemberAndSettings.{AnswerWithMemberAndSettings}
use Rattle.sudoers_match.specs.declared.spellings.CommandSpellings.{CommandSpellings}
use Rattle.sudoers_match.specs.Answer.{Answer, IsAnswerByCommandTest}
use Rattle.sudoers_match.specs.Default.{IsRunasDefault}
use Rattle.sudoers_match.specs.Found.{HasMemberAndSettingsFromLines}
use Rattle.sudoers_match.specs.Spellings.{is_spelled_command_match}
use Rattle.sudoers_list_people.specs.People.{People}
use Rattle.sudoers_ask.specs.declared.asked_question.AskedQuestion.{AskedQuestion}
use Rattle.sudoers_ask.specs.declared.question.CommandQuestion.{CommandQuestion}
use Rattle.sudoers_ask.specs.Outcome.{IsAnswerToQuestion, IsUserOutcome, UserOutcome}
use Rattle.sudoers_ask.specs.Same.{spelled_command_of_question}
use Rattle.sudoers_ask.specs.internal.Asked.{IsReadyQuestion}

module _ (lines : List Line) (people : People) (q : CommandQuestion) (a : AskedQuestion) (ready : IsReadyQuestion lines people q a) where
  pub ready_with_its_own : IsReadyQuestion lines a.people.now a.question.now a
  ready_with_its_own =
      subst (λ (p : People). IsReadyQuestion lines p a.question.now a) (sym ready.of_people)
      (subst (λ (x : CommandQuestion). IsReadyQuestion lines people x a) (sym ready.of_question) ready)

  pub ready_itself : IsReadyQuestion a.walk a.people.now a.question.now a
  ready_itself = subst (λ (ls : List Line). IsReadyQuestion ls a.people.now a.question.now a) (sym ready.walk) ready_with_its_own

  pub ready_outcome : (user : List ℕ) (outcome : UserOutcome) → IsUserOutcome a.walk a.people.now a.question.now user outcome → IsUserOutcome lines people q user outcome
  ready_outcome user outcome is =
      subst (λ (x : CommandQuestion). IsUserOutcome lines people x user outcome) ready.of_question
      (subst (λ (p : People). IsUserOutcome lines p a.question.now user outcome) ready.of_people
      (subst (λ (ls : List Line). IsUserOutcome ls a.people.now a.question.now user outcome) ready.walk is))

  pub ready_answer : (r : Request) (answer : Option Answer) → IsAnswerToQuestion a.walk a.question.now r answer → IsAnswerByCommandTest lines (is_spelled_command_match a.command) r answer
  ready_answer r answer is =
      subst (λ (ls : List Line). IsAnswerByCommandTest ls (is_spelled_command_match a.command) r answer) ready.walk
      (subst (λ (command : CommandSpellings). IsAnswerByCommandTest a.walk (is_spelled_command_match command) r answer) (ap spelled_command_of_question ready.of_question ∙ sym ready.command) is)

  pub ready_default : (who : Who) (name : List ℕ) → IsRunasDefault a.walk who name → IsRunasDefault lines who name
  ready_default who name is = subst (λ (ls : List Line). IsRunasDefault ls who name) ready.walk is

  pub ready_found : (found : Option AnswerWithMemberAndSettings) → IfSome found (HasMemberAndSettingsFromLines a.walk) → IfSome found (HasMemberAndSettingsFromLines lines)
  ready_found found is = subst (λ (ls : List Line). IfSome found (HasMemberAndSettingsFromLines ls)) ready.walk is
