-- The users of a machine whom a policy lets run a command, as a text (sudo(8), the option `-l`).
use Rattle.std.specs.Prelude.{◌≡◌, ◌==◌, ◌||◌, ℕ, Bool, true, false, List, [], ◌∷◌, ◌++◌, codes, Option, Some, None, Ok, Err, MatchBool, if◌then◌else◌}
use Rattle.std.specs.List.{flat_map, list_any}
use Rattle.std.specs.Option.{option_map, is_some}
use Rattle.sudoers_grammar.specs.declared.node.Atom.{Atom}
use Rattle.sudoers_tree.specs.Load.{LoadedPolicy}
use Rattle.sudoers_match_list.specs.Alike.{IsPointwiseRelated}
use Rattle.sudoers_match_member.specs.declared.request.Request.{Request}
use Rattle.sudoers_match.specs.Answer.{Answer}
use Rattle.sudoers_match.specs.Found.{answer_without_member_and_settings}
use Rattle.sudoers_match.specs.Spellings.{is_spelled_command_match}
use Rattle.sudoers_list_people.specs.People.{People}
use Rattle.sudoers_list_people.specs.declared.account_and_group_row_types.PasswdAccount.{PasswdAccount}
use Rattle.sudoers_list.specs.Reason.{IsReasonTextByTest}
use Rattle.sudoers_ask.specs.declared.question.CommandQuestion.{CommandQuestion}
use Rattle.sudoers_ask.specs.declared.question.QuestionFault.{QuestionFault}
use Rattle.sudoers_ask.specs.declared.user_answer.UserAnswer.{UserAnswer}
use Rattle.sudoers_ask.specs.Outcome.{AnsweredRequest, IsUserOutcome}
use Rattle.sudoers_ask.specs.Same.{spelled_command_of_question}

-- what is held of an answered request
abbrev pub answered_request_of_view : UserAnswer → AnsweredRequest
answered_request_of_view a = record { request = a.request; default = a.default.now; answer = option_map answer_without_member_and_settings a.found }

abbrev pub is_answer_allowing : Option Answer → Bool
is_answer_allowing None = false
is_answer_allowing (Some answer) = answer.allow

-- the text with the prefix before each of its lines; `begins` says whether the text begins a line
abbrev pub text_with_prefixed_lines : Bool → List ℕ → List ℕ → List ℕ
text_with_prefixed_lines begins prefix [] = []
text_with_prefixed_lines true prefix (b ∷ bs) = prefix ++ b ∷ text_with_prefixed_lines (b == 10) prefix bs
text_with_prefixed_lines false prefix (b ∷ bs) = b ∷ text_with_prefixed_lines (b == 10) prefix bs

-- A user is shown whom the answer allows; with `denied` one whom a rule denies, too.
abbrev pub is_user_shown : Bool → Option Answer → Bool
is_user_shown denied answer = is_answer_allowing answer || (if denied then is_some answer else false)

-- The text is the reason of the answer, with the name of the user before each line.
pub record IsReasonOfUserByTest (policy : LoadedPolicy) (test : Atom → Bool) (name : List ℕ) (request : Request) (answer : Option Answer) (text : List ℕ) : Type 0 where
  pub reason : List ℕ
  pub is_reason : IsReasonTextByTest policy test request answer reason
  pub says : text ≡ text_with_prefixed_lines true (name ++ codes ": ") reason

-- what is written of a user, and whether he may run the command
pub record UserPart : Type 0 where
  pub text : List ℕ
  pub allowed : Bool

-- The part of the user with this name.
pub record IsPartOfUser (policy : LoadedPolicy) (people : People) (q : CommandQuestion) (denied : Bool) (name : List ℕ) (part : UserPart) : Type 0 where
  pub told : AnsweredRequest
  pub asked : IsUserOutcome policy.walk.lines people q name (Ok told)
  pub text : MatchBool (is_user_shown denied told.answer) (IsReasonOfUserByTest policy (is_spelled_command_match (spelled_command_of_question q)) name told.request told.answer part.text) (part.text ≡ [])
  pub allowed : part.allowed ≡ is_answer_allowing told.answer

abbrev pub ArePartsOfUsers : LoadedPolicy → People → CommandQuestion → Bool → List PasswdAccount → List UserPart → Type 0
ArePartsOfUsers policy people q denied accounts parts = IsPointwiseRelated (λ (account : PasswdAccount) part. IsPartOfUser policy people q denied account.name part) accounts parts

-- The text has the part of each user of passwd, in the order of its rows. `allowed` says whether one of them may run the command.
pub record IsTextOfUsers (policy : LoadedPolicy) (people : People) (q : CommandQuestion) (denied : Bool) (text : List ℕ) (allowed : Bool) : Type 0 where
  pub parts : List UserPart
  pub are_parts : ArePartsOfUsers policy people q denied people.accounts parts
  pub says : text ≡ flat_map (λ (part : UserPart). part.text) parts
  pub tells : allowed ≡ list_any (λ (part : UserPart). part.allowed) parts

-- The fault is that of the first user whose question has one.
pub record IsFaultOfFirstUser (policy : LoadedPolicy) (people : People) (q : CommandQuestion) (denied : Bool) (fault : QuestionFault) : Type 0 where
  pub before : List PasswdAccount
  pub account : PasswdAccount
  pub after : List PasswdAccount
  pub stands : people.accounts ≡ before ++ account ∷ after
  pub parts : List UserPart
  pub are_parts : ArePartsOfUsers policy people q denied before parts
  pub asked : IsUserOutcome policy.walk.lines people q account.name (Err fault)
