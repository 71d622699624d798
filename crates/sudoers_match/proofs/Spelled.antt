-- A command with one spelling.
use Rattle.sudoers_match.proofs.Common.{Atom, Bool, List, Request, [], ap, command_with_joined_arguments_of_request, is_command_atom_match, is_request_command_match, ◌∙◌, ◌≡◌}
use Rattle.sudoers_match.proofs.Common.{Err, IfOk, IsAnswerByCommandTest, IsAnswerToRequest, Line, Ok, Option, Result, answer_without_member_and_settings, option_map, subst}
use Rattle.std.specs.Prelude.{◌||◌}
use Rattle.sudoers_match.specs.declared.answer_of_row.AnswerWithMemberAndSettings.{AnswerWithMemberAndSettings}
use Rattle.std.specs.List.{list_any}
use Rattle.sudoers_match_member.specs.declared.people_and_commands.CommandLine.{CommandLine}
use Rattle.sudoers_match.specs.declared.spellings.CommandSpellings.{CommandSpellings}
use Rattle.sudoers_match.specs.Spellings.{is_spelled_command_match}

abbrev match_of_spellings : List CommandLine → CommandLine → Atom → Bool
match_of_spellings others command a = list_any (λ (other : CommandLine). is_command_atom_match other a) others || is_command_atom_match command a

-- The command of a request is its sole spelling.
pub sole_spelling_is_request_command : (s : CommandSpellings) (r : Request) → s.command ≡ command_with_joined_arguments_of_request r → s.others ≡ [] → is_spelled_command_match s ≡ is_request_command_match r
sole_spelling_is_request_command s r command others =
    ap (λ (os : List CommandLine). match_of_spellings os s.command) others ∙ ap (λ (c : CommandLine). is_command_atom_match c) command

module _ {E : Type 0} (lines : List Line) (s : CommandSpellings) (r : Request) (command : s.command ≡ command_with_joined_arguments_of_request r) (others : s.others ≡ []) where
  pub sole_spelling_answers : (result : Result (Option AnswerWithMemberAndSettings) E)
      → IfOk result (λ found. IsAnswerByCommandTest lines (is_spelled_command_match s) r (option_map answer_without_member_and_settings found))
      → IfOk result (λ found. IsAnswerToRequest lines r (option_map answer_without_member_and_settings found))
  sole_spelling_answers (Ok found) is =
      subst (λ (test : Atom → Bool). IsAnswerByCommandTest lines test r (option_map answer_without_member_and_settings found)) (sole_spelling_is_request_command s r command others) is
  sole_spelling_answers (Err e) is = tt
