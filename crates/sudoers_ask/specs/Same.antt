-- The spellings of a command, where folders have two names.
use Rattle.std.specs.Prelude.{◌&&◌, ◌==◌, ℕ, Bool, false, List, [], ◌∷◌, ◌++◌, take, drop, length, Option, Some, None, if◌then◌else◌}
use Rattle.std.specs.List.{flat_map}
use Rattle.std.specs.Str.{bytes_eq}
use Rattle.sudoers_match_member.specs.declared.people_and_commands.CommandLine.{CommandLine}
use Rattle.sudoers_match.specs.declared.spellings.CommandSpellings.{CommandSpellings}
use Rattle.sudoers_match.specs.Answer.{words_joined_with_spaces}
use Rattle.sudoers_list_people.specs.Asked.{argument_words_after_first, command_of_words}
use Rattle.sudoers_ask.specs.declared.question.CommandQuestion.{CommandQuestion}
use Rattle.sudoers_ask.specs.declared.question.FolderPair.{FolderPair}

abbrev pub begins_with_slash : List ℕ → Bool
begins_with_slash [] = false
begins_with_slash (b ∷ bs) = b == 47

-- what stands behind the folder in the path, from its `/` on, if the path is below the folder
abbrev pub rest_below_folder : List ℕ → List ℕ → Option (List ℕ)
rest_below_folder folder path = if bytes_eq (take (length folder) path) folder && begins_with_slash (drop (length folder) path) then Some (drop (length folder) path) else None

abbrev pub command_below_folder : List ℕ → List ℕ → Option (List ℕ) → List CommandLine
command_below_folder folder args None = []
command_below_folder folder args (Some rest) = record { path = folder ++ rest; args = args } ∷ []

-- the command with one folder in place of the other
abbrev pub commands_by_pair : List ℕ → List ℕ → FolderPair → List CommandLine
commands_by_pair path args pair =
    command_below_folder pair.second.now args (rest_below_folder pair.first.now path) ++ command_below_folder pair.first.now args (rest_below_folder pair.second.now path)

abbrev pub commands_by_pairs : List ℕ → List ℕ → List FolderPair → List CommandLine
commands_by_pairs path args pairs = flat_map (commands_by_pair path args) pairs

-- the command of a question, with its arguments joined by single spaces, and its other spellings by the pairs of folders
abbrev pub spelled_command_of_question : CommandQuestion → CommandSpellings
spelled_command_of_question q = record {
  command = record { path = command_of_words q.words.now; args = words_joined_with_spaces (argument_words_after_first q.words.now) };
  others = commands_by_pairs (command_of_words q.words.now) (words_joined_with_spaces (argument_words_after_first q.words.now)) q.same.now;
}
