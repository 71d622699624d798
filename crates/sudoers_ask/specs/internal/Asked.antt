-- A device of the proof, which no public contract cites: a question that users may ask.
use Rattle.std.specs.Prelude.{◌≡◌, ℕ, false, List, []}
use Rattle.sudoers_tree.specs.Line.{Line}
use Rattle.sudoers_match_list.specs.Flat.{SignedAtom}
use Rattle.sudoers_match_member.specs.declared.request.Request.{Request}
use Rattle.sudoers_match.specs.Default.{runas_defaults_of_lines}
use Rattle.sudoers_match.specs.Rows.{PrivilegeRow}
use Rattle.sudoers_list_people.specs.People.{People}
use Rattle.sudoers_undecided.specs.declared.request_part.RequestPart.{RequestPart}
use Rattle.sudoers_undecided.specs.MatchTests.{match_tests_of_request, undecided_by_files_or_paths}
use Rattle.sudoers_undecided.specs.UndecidedAnswer.{IsUndecidedInAnswer}
use Rattle.sudoers_ask.specs.declared.asked_question.AskedQuestion.{AskedQuestion}
use Rattle.sudoers_ask.specs.declared.question.CommandQuestion.{CommandQuestion}
use Rattle.sudoers_ask.specs.Outcome.{AreSpecsForQuestion, IsUserRequest}
use Rattle.sudoers_ask.specs.Same.{spelled_command_of_question}

-- No member could have changed the answer to the request.
abbrev pub HasNothingUndecided : List Line → Request → Type 0
HasNothingUndecided lines r = (row : PrivilegeRow) (p : RequestPart) (s : SignedAtom) → IsUndecidedInAnswer lines (undecided_by_files_or_paths r) (match_tests_of_request r) r row p s → ⊥

-- It is this question to these lines, for these people, and what it says of them is so.
pub record IsReadyQuestion (lines : List Line) (people : People) (q : CommandQuestion) (a : AskedQuestion) : Type 0 where
  pub walk : a.walk ≡ lines
  pub of_people : a.people.now ≡ people
  pub of_question : a.question.now ≡ q
  pub command : a.command ≡ spelled_command_of_question q
  pub default : a.has_default ≡ false → runas_defaults_of_lines lines ≡ []
  pub specs : AreSpecsForQuestion lines people q a.specs.items
  pub open_to : a.is_open ≡ false → (user : List ℕ) (r : Request) (default : List ℕ) → IsUserRequest lines people q user r default → HasNothingUndecided lines r
