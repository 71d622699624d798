-- Why a user may run a command, or may not, as a text.
use Rattle.std.specs.Prelude.{◌≡◌, ℕ, Bool, List, Ok}
use Rattle.sudoers_tree.specs.Load.{LoadedPolicy}
use Rattle.sudoers_list_people.specs.People.{People}
use Rattle.sudoers_match.specs.Spellings.{is_spelled_command_match}
use Rattle.sudoers_list.specs.Reason.{IsReasonTextByTest}
use Rattle.sudoers_ask.specs.declared.question.CommandQuestion.{CommandQuestion}
use Rattle.sudoers_ask.specs.Outcome.{AnsweredRequest, IsUserOutcome}
use Rattle.sudoers_ask.specs.Same.{spelled_command_of_question}
use Rattle.sudoers_ask.specs.Users.{is_answer_allowing}

-- The text is the reason of the answer to the user with this name. `allowed` says whether he may run the command.
pub record IsWhyText (policy : LoadedPolicy) (people : People) (q : CommandQuestion) (user text : List ℕ) (allowed : Bool) : Type 0 where
  pub told : AnsweredRequest
  pub asked : IsUserOutcome policy.walk.lines people q user (Ok told)
  pub reason : IsReasonTextByTest policy (is_spelled_command_match (spelled_command_of_question q)) told.request told.answer text
  pub tells : allowed ≡ is_answer_allowing told.answer
