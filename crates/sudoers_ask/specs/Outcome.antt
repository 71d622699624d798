-- What a user asks of a policy, and its answer.
use Rattle.std.specs.Prelude.{◌≡◌, ◌⊎◌, ◌<◌, ◌≤◌, not, ℕ, Bool, true, false, List, length, Option, Some, None, Result, Ok, Err}
use Rattle.std.specs.Borrow.{Bor}
use Rattle.std.specs.Option.{option_map}
use Rattle.sudoers_tree.specs.Line.{Line}
use Rattle.sudoers_match_member.specs.declared.people_and_commands.Who.{Who}
use Rattle.sudoers_match_member.specs.declared.request.Request.{Request}
use Rattle.sudoers_match_list.specs.declared.verdict.AskFault.TheVariants.{NoMemory, TooLong}
use Rattle.sudoers_match.specs.declared.specs_for_users.SpecOnLine.{SpecOnLine}
use Rattle.sudoers_match.specs.Answer.{Answer, IsAnswerByCommandTest, joined_arguments_limit, words_joined_with_spaces}
use Rattle.sudoers_match.specs.ForRequest.{AreSpecsForRequest}
use Rattle.sudoers_match.specs.Default.{IsRunasDefault}
use Rattle.sudoers_match.specs.Spellings.{is_spelled_command_match}
use Rattle.sudoers_list_people.specs.declared.fault.WhoFault.{WhoFault}
use Rattle.sudoers_list_people.specs.declared.fault.WhoFault.TheVariants as who
use Rattle.sudoers_list_people.specs.People.{People}
use Rattle.sudoers_list_people.specs.Person.{interfaces_of_text, short_name_of_host, who_or_who_fault}
use Rattle.sudoers_list_people.specs.Asked.{argument_words_after_first, command_of_words, request_or_who_fault}
use Rattle.sudoers_ask.specs.declared.question.CommandQuestion.{CommandQuestion}
use Rattle.sudoers_ask.specs.declared.question.QuestionFault.{QuestionFault}
use Rattle.sudoers_ask.specs.declared.question.QuestionFault.TheVariants as question
use Rattle.sudoers_ask.specs.Same.{spelled_command_of_question}

-- a request, as whom a command runs for its user where nothing else is said, and the answer
pub record AnsweredRequest : Type 0 where
  pub request : Request
  pub default : List ℕ
  pub answer : Option Answer

abbrev pub UserOutcome : Type 0
UserOutcome = Result AnsweredRequest QuestionFault

abbrev pub optional_name_of_view : Option (Bor (List ℕ)) → Option (List ℕ)
optional_name_of_view name = option_map (λ (n : Bor (List ℕ)). n.now) name

-- As whom the command is to run: as the user who is named. With a group alone it is the user himself, and else the user whom
-- `runas_default` names.
abbrev pub target_name : Option (List ℕ) → Option (List ℕ) → List ℕ → List ℕ → List ℕ
target_name (Some target) group user default = target
target_name None (Some group) user default = user
target_name None None user default = default

-- Of all rows the last gives the answer that fits the request with one of the spellings of the command.
abbrev pub IsAnswerToQuestion : List Line → CommandQuestion → Request → Option Answer → Type 0
IsAnswerToQuestion lines q = IsAnswerByCommandTest lines (is_spelled_command_match (spelled_command_of_question q))

-- The answer to the request is that of the last row that fits. If its arguments are too long, the outcome is `TooLong`.
abbrev pub IsOutcomeOfAnswer : List Line → CommandQuestion → List ℕ → Request → UserOutcome → Type 0
IsOutcomeOfAnswer lines q default r (Ok told) =
    (length (words_joined_with_spaces r.args) ≤ joined_arguments_limit) × (told.request ≡ r) × (told.default ≡ default) × IsAnswerToQuestion lines q r told.answer
IsOutcomeOfAnswer lines q default r (Err fault) = (fault ≡ question.Ask TooLong) × (joined_arguments_limit < length (words_joined_with_spaces r.args))

abbrev pub IsOutcomeOfRequest : List Line → CommandQuestion → List ℕ → Result Request WhoFault → UserOutcome → Type 0
IsOutcomeOfRequest lines q default (Ok r) outcome = IsOutcomeOfAnswer lines q default r outcome
IsOutcomeOfRequest lines q default (Err said) outcome = outcome ≡ Err (question.Who said)

pub record IsOutcomeOfWho (lines : List Line) (people : People) (q : CommandQuestion) (user : List ℕ) (asks : Who) (outcome : UserOutcome) : Type 0 where
  pub default : List ℕ
  pub is_default : IsRunasDefault lines asks default
  pub asked : IsOutcomeOfRequest lines q default
      (request_or_who_fault people asks (target_name (optional_name_of_view q.target) (optional_name_of_view q.group) user default) (optional_name_of_view q.group) q.words.now q.moment.now)
      outcome

abbrev pub IsOutcomeOfWhoOrFault : List Line → People → CommandQuestion → List ℕ → Result Who WhoFault → UserOutcome → Type 0
IsOutcomeOfWhoOrFault lines people q user (Ok asks) outcome = IsOutcomeOfWho lines people q user asks outcome
IsOutcomeOfWhoOrFault lines people q user (Err said) outcome = outcome ≡ Err (question.Who said)

-- The user with this name asks the question of the policy.
abbrev pub IsUserOutcome : List Line → People → CommandQuestion → List ℕ → UserOutcome → Type 0
IsUserOutcome lines people q user outcome =
    IsOutcomeOfWhoOrFault lines people q user (who_or_who_fault people user q.host.now q.interfaces.now) outcome

-- want of memory, which may come whatever is asked
abbrev pub IsMemoryFault : QuestionFault → Type 0
IsMemoryFault fault = (fault ≡ question.Ask NoMemory) ⊎ (fault ≡ question.Who who.NoMemory)

-- ---- what all requests of a question have in common

-- The request is for the host and the command of the question.
pub record IsRequestForQuestion (q : CommandQuestion) (r : Request) : Type 0 where
  pub long : r.who.long_host ≡ q.host.now
  pub short : r.who.short_host ≡ short_name_of_host q.host.now
  pub interfaces : interfaces_of_text q.interfaces.now ≡ Some r.who.interfaces
  pub command : r.command ≡ command_of_words q.words.now
  pub args : r.args ≡ argument_words_after_first q.words.now

-- The request is that of the user with this name, and this is as whom a command runs for him where nothing else is said.
pub record IsUserRequest (lines : List Line) (people : People) (q : CommandQuestion) (user : List ℕ) (r : Request) (default : List ℕ) : Type 0 where
  pub who : who_or_who_fault people user q.host.now q.interfaces.now ≡ Ok r.who
  pub is_default : IsRunasDefault lines r.who default
  pub asks : request_or_who_fault people r.who (target_name (optional_name_of_view q.target) (optional_name_of_view q.group) user default) (optional_name_of_view q.group) q.words.now q.moment.now ≡ Ok r

-- Whoever asks, each user specification matters that has a row that fits his request.
abbrev pub AreSpecsForQuestion : List Line → People → CommandQuestion → List SpecOnLine → Type 0
AreSpecsForQuestion lines people q specs = (user : List ℕ) (r : Request) (default : List ℕ) → IsUserRequest lines people q user r default
    → AreSpecsForRequest lines (is_spelled_command_match (spelled_command_of_question q)) r specs

-- All users ask for one target: a user who is named, or the one as whom commands run for all where nothing else is said.
abbrev pub is_target_common : Bool → Option (List ℕ) → Option (List ℕ) → Bool
is_target_common has_default (Some target) group = true
is_target_common has_default None (Some group) = false
is_target_common has_default None None = not has_default
