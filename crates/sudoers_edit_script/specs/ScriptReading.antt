-- How a script is read: what each physical line says, which lines may follow which, and the first fault.
use Rattle.std.specs.Prelude.{◌≡◌, ◌⊎◌, ℕ, ◌+◌, ◌-◌, ◌*◌, Bool, true, false, ◌||◌, ◌==◌, nat_lt, nat_le, if◌then◌else◌, List, [], ◌∷◌, ◌++◌, length, take, drop, codes, Option, Some, None, Result, Ok, Err, option_and_then}
use Rattle.std.specs.Option.{ok_or, option_map_or}
use Rattle.std.specs.Str.{bytes_eq}
use Rattle.sudoers_text.specs.Ended.{ends_in_lf}
use Rattle.sudoers_grammar.specs.declared.node.Kind.{Kind}
use Rattle.sudoers_grammar.specs.declared.node.Kind.TheVariants as kind_of
use Rattle.sudoers_grammar.specs.Piece.{value_of_matching_row}
use Rattle.sudoers_edit_script.specs.Physical.{byte_joined_to_first_line, physical_lines}
use Rattle.sudoers_edit_script.specs.Script.{edit_limit, word_for_alias_kind, is_spellable_word}
use Rattle.sudoers_edit_script.specs.declared.edit_awaiting_text.EditAwaitingText.{EditAwaitingText}
use Rattle.sudoers_edit_script.specs.declared.edit_awaiting_text.EditAwaitingText.TheVariants as draft
use Rattle.sudoers_edit_script.specs.declared.edit.Edit.{Edit}
use Rattle.sudoers_edit_script.specs.declared.edit.Edit.TheVariants.{Insert, Delete, Move, AddMember, DropMember, AddDef, DropDef, Rename, EndLine, OpenEnd, Prune}
use Rattle.sudoers_edit_script.specs.declared.command_words.EditCommand.{EditCommand}
use Rattle.sudoers_edit_script.specs.declared.command_words.EditCommand.TheVariants as by
use Rattle.sudoers_edit_script.specs.declared.script_line.CommandFlaw.{CommandFlaw}
use Rattle.sudoers_edit_script.specs.declared.script_line.CommandFlaw.TheVariants as flaw
use Rattle.sudoers_edit_script.specs.declared.script_line.ParsedScriptLine.{ParsedScriptLine}
use Rattle.sudoers_edit_script.specs.declared.script_line.ParsedScriptLine.TheVariants as says
use Rattle.sudoers_edit_script.specs.declared.script_reader.ScriptFault.{ScriptFault}
use Rattle.sudoers_edit_script.specs.declared.script_reader.ScriptFault.TheVariants as faults

-- NUMBERS

-- the number that further digits make of it, from 1 to 2 ^ 32
abbrev pub place_number_from_digits : ℕ → List ℕ → Option ℕ
place_number_from_digits so_far [] = Some so_far
place_number_from_digits so_far (b ∷ bytes) =
    if nat_lt b 48 || nat_lt 57 b then None
    else (if (so_far * 10 + (b - 48) == 0) || nat_lt 4294967296 (so_far * 10 + (b - 48)) then None
    else place_number_from_digits (so_far * 10 + (b - 48)) bytes)

-- a place is one below its number
abbrev pub place_below_number : ℕ → Option ℕ
place_below_number value = if value == 0 then None else Some (value - 1)

-- the place that a word stands for: decimal, from 1 to 2 ^ 32, without leading zeros
abbrev pub place_of_word : List ℕ → Option ℕ
place_of_word word = option_and_then place_below_number (place_number_from_digits 0 word)

-- LINES

-- the pieces between single spaces
abbrev pub words_between_spaces : List ℕ → List (List ℕ)
words_between_spaces [] = [] ∷ []
words_between_spaces (b ∷ bytes) = if b == 32 then [] ∷ words_between_spaces bytes else byte_joined_to_first_line b (words_between_spaces bytes)

-- the words for the kinds
abbrev pub alias_kinds_by_word : List (List ℕ × Kind)
alias_kinds_by_word =
    (word_for_alias_kind kind_of.User, kind_of.User) ∷ (word_for_alias_kind kind_of.Runas, kind_of.Runas) ∷ (word_for_alias_kind kind_of.Host, kind_of.Host)
    ∷ (word_for_alias_kind kind_of.Cmnd, kind_of.Cmnd) ∷ []

-- the words for the commands
abbrev pub commands_by_word : List (List ℕ × EditCommand)
commands_by_word =
    (codes "insert", by.Insert) ∷ (codes "delete", by.Delete) ∷ (codes "move", by.Move) ∷ (codes "add", by.AddMember)
    ∷ (codes "drop", by.DropMember) ∷ (codes "adddef", by.AddDef) ∷ (codes "dropdef", by.DropDef) ∷ (codes "rename", by.Rename)
    ∷ (codes "endline", by.EndLine) ∷ (codes "openend", by.OpenEnd) ∷ (codes "prune", by.Prune) ∷ []

-- the words behind the first word of a command are one place
abbrev pub parsed_single_place : List (List ℕ) → Result ℕ CommandFlaw
parsed_single_place (word ∷ []) = ok_or (place_of_word word) flaw.Number
parsed_single_place _ = Err flaw.Word

abbrev pub both_places_or_flaw : Option ℕ → Option ℕ → Result (ℕ × ℕ) CommandFlaw
both_places_or_flaw (Some first) (Some second) = Ok (first, second)
both_places_or_flaw _ _ = Err flaw.Number

-- they are two places
abbrev pub parsed_two_places : List (List ℕ) → Result (ℕ × ℕ) CommandFlaw
parsed_two_places (word ∷ next ∷ []) = both_places_or_flaw (place_of_word word) (place_of_word next)
parsed_two_places _ = Err flaw.Word

abbrev pub alias_of_kind_or_flaw : List ℕ → List ℕ → Option Kind → Result (Kind × List ℕ × List ℕ) CommandFlaw
alias_of_kind_or_flaw name more (Some kind) = if is_spellable_word name then Ok (kind, name, more) else Err flaw.Word
alias_of_kind_or_flaw name more None = Err flaw.Word

-- they are the kind and the name of an alias, and one word more
abbrev pub parsed_alias_and_word : List (List ℕ) → Result (Kind × List ℕ × List ℕ) CommandFlaw
parsed_alias_and_word (word ∷ name ∷ more ∷ []) = alias_of_kind_or_flaw name more (value_of_matching_row alias_kinds_by_word word)
parsed_alias_and_word _ = Err flaw.Word

-- what they make a command say, or their flaw
abbrev pub line_made_of_value_or_flawed : {A : Type 0} → (A → ParsedScriptLine) → Result A CommandFlaw → ParsedScriptLine
line_made_of_value_or_flawed say (Ok x) = say x
line_made_of_value_or_flawed say (Err f) = says.Flawed f

-- a command of one word
abbrev pub parsed_command_without_arguments : Edit → List (List ℕ) → ParsedScriptLine
parsed_command_without_arguments edit [] = says.Whole edit
parsed_command_without_arguments edit (word ∷ more) = says.Flawed flaw.Word

-- what `add` says, by the words behind it
abbrev pub parsed_add_command : List (List ℕ) → ParsedScriptLine
parsed_add_command more =
    line_made_of_value_or_flawed (λ alias. line_made_of_value_or_flawed (λ at. says.Begin (draft.AddMember alias.0 alias.1 at)) (ok_or (place_of_word alias.2) flaw.Number)) (parsed_alias_and_word more)

-- what `drop` says
abbrev pub parsed_drop_command : List (List ℕ) → ParsedScriptLine
parsed_drop_command more =
    line_made_of_value_or_flawed (λ alias. line_made_of_value_or_flawed (λ at. says.Whole (DropMember alias.0 alias.1 at)) (ok_or (place_of_word alias.2) flaw.Number)) (parsed_alias_and_word more)

-- what `rename` says
abbrev pub parsed_rename_command : List (List ℕ) → ParsedScriptLine
parsed_rename_command more = line_made_of_value_or_flawed (λ alias. if is_spellable_word alias.2 then says.Whole (Rename alias.0 alias.1 alias.2) else says.Flawed flaw.Word) (parsed_alias_and_word more)

-- what a command of an ended line says where this file is set, by the words behind its first
abbrev pub parsed_command_arguments : ℕ → EditCommand → List (List ℕ) → ParsedScriptLine
parsed_command_arguments file by.Insert more = line_made_of_value_or_flawed (λ at. says.Begin (draft.Insert file at)) (parsed_single_place more)
parsed_command_arguments file by.Delete more = line_made_of_value_or_flawed (λ at. says.Whole (Delete file at)) (parsed_single_place more)
parsed_command_arguments file by.Move more = line_made_of_value_or_flawed (λ places. says.Whole (Move file places.0 places.1)) (parsed_two_places more)
parsed_command_arguments file by.AddMember more = parsed_add_command more
parsed_command_arguments file by.DropMember more = parsed_drop_command more
parsed_command_arguments file by.AddDef more = line_made_of_value_or_flawed (λ places. says.Begin (draft.AddDef file places.0 places.1)) (parsed_two_places more)
parsed_command_arguments file by.DropDef more = line_made_of_value_or_flawed (λ places. says.Whole (DropDef file places.0 places.1)) (parsed_two_places more)
parsed_command_arguments file by.Rename more = parsed_rename_command more
parsed_command_arguments file by.EndLine more = parsed_command_without_arguments (EndLine file) more
parsed_command_arguments file by.OpenEnd more = parsed_command_without_arguments (OpenEnd file) more
parsed_command_arguments file by.Prune more = parsed_command_without_arguments Prune more

-- the same, if the line ends in LF and begins with the word of a command
abbrev pub parsed_command_if_line_ends_in_lf : ℕ → Bool → List (List ℕ) → Option EditCommand → ParsedScriptLine
parsed_command_if_line_ends_in_lf file ended more None = says.Other
parsed_command_if_line_ends_in_lf file true more (Some command) = parsed_command_arguments file command more
parsed_command_if_line_ends_in_lf file false more (Some command) = says.Flawed flaw.Word

-- what a line whose first word is `file` says, by the words behind it: the line ends in LF, and they are one
abbrev pub parsed_file_line : Bool → List (List ℕ) → ParsedScriptLine
parsed_file_line true (word ∷ []) = says.File (place_of_word word)
parsed_file_line _ _ = says.Other

abbrev pub parsed_words_of_line : ℕ → Bool → List (List ℕ) → ParsedScriptLine
parsed_words_of_line file ended [] = says.Other
parsed_words_of_line file ended (word ∷ more) =
    if bytes_eq word (codes "file") then parsed_file_line ended more else parsed_command_if_line_ends_in_lf file ended more (value_of_matching_row commands_by_word word)

-- the line without the LF that it ends in
abbrev pub line_without_final_lf : List ℕ → List ℕ
line_without_final_lf line = if ends_in_lf line then take (length line - 1) line else line

-- what a line says where this file is set, by its first byte or by its words
abbrev pub parsed_script_line : ℕ → List ℕ → ParsedScriptLine
parsed_script_line file [] = says.Other
parsed_script_line file (b ∷ bytes) =
    if b == 124 then (if ends_in_lf (b ∷ bytes) then says.More else says.Unended)
    else (if b == 62 then (if ends_in_lf (b ∷ bytes) then says.Last else says.Unended)
    else parsed_words_of_line file (ends_in_lf (b ∷ bytes)) (words_between_spaces (line_without_final_lf (b ∷ bytes))))

-- the text that a payload line stands for: with its LF behind `|`, without behind `>`
abbrev pub text_of_payload_line : ParsedScriptLine → List ℕ → List ℕ
text_of_payload_line says.More line = drop 1 line
text_of_payload_line says.Last line = drop 1 (line_without_final_lf line)
text_of_payload_line _ line = []

-- the edits of a command name lines
abbrev pub is_file_scoped_command : EditCommand → Bool
is_file_scoped_command by.AddMember = false
is_file_scoped_command by.DropMember = false
is_file_scoped_command by.Rename = false
is_file_scoped_command by.Prune = false
is_file_scoped_command _ = true

-- a word is that of a command whose edits name lines
abbrev pub is_file_scoped_word : List ℕ → Bool
is_file_scoped_word word = option_map_or is_file_scoped_command (value_of_matching_row commands_by_word word) false

-- the first of these words is
abbrev pub are_words_of_file_scoped_command : List (List ℕ) → Bool
are_words_of_file_scoped_command [] = false
are_words_of_file_scoped_command (word ∷ more) = is_file_scoped_word word

-- the first word of a line is
abbrev pub is_line_with_file_scoped_command : List ℕ → Bool
is_line_with_file_scoped_command line = are_words_of_file_scoped_command (words_between_spaces (line_without_final_lf line))

-- SCRIPTS

-- the edit that a command begins, with its text
abbrev pub edit_completed_with_text : EditAwaitingText → List ℕ → Edit
edit_completed_with_text (draft.Insert file at) text = Insert file at text
edit_completed_with_text (draft.AddMember kind name at) text = AddMember kind name at text
edit_completed_with_text (draft.AddDef file line at) text = AddDef file line at text

-- Between two lines of a script a command has to come. Behind a `file` line, which stands on this line, a command has to come
-- that names lines of this file; there is no file if the number of the `file` line is none. Behind a command that wants a text, and
-- that stands on this line, the first line of the text has to come. Behind a part of a text, which is this, more of it may come.
pub data ScriptPosition : Type 0 where
  Between : ScriptPosition
  Filed : Option ℕ → ℕ → ScriptPosition
  Begun : EditAwaitingText → ℕ → ScriptPosition
  Going : EditAwaitingText → List ℕ → ScriptPosition

-- what the lines behind give, by where they stand, by the file that is set, and by how many commands stand before them
abbrev pub ResultByPositionFileAndCount : Type 0
ResultByPositionFileAndCount = ScriptPosition → ℕ → ℕ → Result (List Edit) ScriptFault

-- an edit before those that the lines behind give
abbrev pub edit_before_result : Edit → Result (List Edit) ScriptFault → Result (List Edit) ScriptFault
edit_before_result edit (Ok edits) = Ok (edit ∷ edits)
edit_before_result edit (Err fault) = Err fault

-- one command more, if there is room
abbrev pub result_within_edit_limit : ℕ → Result (List Edit) ScriptFault → Result (List Edit) ScriptFault
result_within_edit_limit count result = if nat_le edit_limit count then Err faults.TooMany else result

-- the fault of a line with a flaw
abbrev pub fault_of_flawed_line : CommandFlaw → ℕ → ScriptFault
fault_of_flawed_line flaw.Word line = faults.BadWord line
fault_of_flawed_line flaw.Number line = faults.BadNumber line

-- Where a command has to come and the file `last` is set stands a `file` line, of this file or of a number that is none.
abbrev pub result_at_file_line : ResultByPositionFileAndCount → ℕ → ℕ → ℕ → Option ℕ → Result (List Edit) ScriptFault
result_at_file_line rest last line count None = rest (Filed None line) last count
result_at_file_line rest last line count (Some file) = if file == last then Err (faults.BadWord line) else rest (Filed (Some file) line) last count

-- Where a command has to come and the file `last` is set, behind so many commands, this line stands.
abbrev pub result_at_command_line : ResultByPositionFileAndCount → ℕ → ℕ → ℕ → ParsedScriptLine → Result (List Edit) ScriptFault
result_at_command_line rest last line count (says.Begin begun) = result_within_edit_limit count (rest (Begun begun line) last (count + 1))
result_at_command_line rest last line count (says.Whole edit) = result_within_edit_limit count (edit_before_result edit (rest Between last (count + 1)))
result_at_command_line rest last line count (says.Flawed f) = result_within_edit_limit count (Err (fault_of_flawed_line f line))
result_at_command_line rest last line count (says.File file) = result_at_file_line rest last line count file
result_at_command_line rest last line count _ = Err (faults.BadWord line)

-- Right behind a `file` line, which stands on the line `at`, stands a line that names lines, or another. The function says what
-- that line and those behind it give where a file is set.
abbrev pub result_after_file_line : (ℕ → Result (List Edit) ScriptFault) → ℕ → Option ℕ → Bool → Result (List Edit) ScriptFault
result_after_file_line gives at file false = Err (faults.BadWord at)
result_after_file_line gives at None true = Err (faults.BadNumber at)
result_after_file_line gives at (Some file) true = gives file

-- Right behind a command that wants a text, and that stands on the line `at`, this line stands, with this text.
abbrev pub result_at_first_payload_line : ResultByPositionFileAndCount → ℕ → ℕ → ℕ → EditAwaitingText → ℕ → List ℕ → ParsedScriptLine → Result (List Edit) ScriptFault
result_at_first_payload_line rest last line count begun at text says.More = rest (Going begun text) last count
result_at_first_payload_line rest last line count begun at text says.Last = edit_before_result (edit_completed_with_text begun text) (rest Between last count)
result_at_first_payload_line rest last line count begun at text says.Unended = Err (faults.BadWord line)
result_at_first_payload_line rest last line count begun at text _ = Err (faults.NoPayload at)

-- Behind the first part of a text this line stands: more of the text, its end, or the next command.
abbrev pub result_at_later_payload_line : ResultByPositionFileAndCount → ℕ → ℕ → ℕ → EditAwaitingText → List ℕ → List ℕ → ParsedScriptLine → Result (List Edit) ScriptFault
result_at_later_payload_line rest last line count begun so_far text says.More = rest (Going begun (so_far ++ text)) last count
result_at_later_payload_line rest last line count begun so_far [] says.Last = Err (faults.BadWord line)
result_at_later_payload_line rest last line count begun so_far (b ∷ text) says.Last = edit_before_result (edit_completed_with_text begun (so_far ++ b ∷ text)) (rest Between last count)
result_at_later_payload_line rest last line count begun so_far text says.Unended = Err (faults.BadWord line)
result_at_later_payload_line rest last line count begun so_far text said = edit_before_result (edit_completed_with_text begun so_far) (result_at_command_line rest last line count said)

-- the edits of the lines from a place in a script on, whose first has this number, or the first fault
abbrev pub edits_from_position : List (List ℕ) → ℕ → ScriptPosition → ℕ → ℕ → Result (List Edit) ScriptFault
edits_from_position [] line Between last count = Ok []
edits_from_position [] line (Filed file at) last count = Err (faults.BadWord at)
edits_from_position [] line (Begun begun at) last count = Err (faults.NoPayload at)
edits_from_position [] line (Going begun so_far) last count = Ok (edit_completed_with_text begun so_far ∷ [])
edits_from_position (text ∷ lines) line Between last count = result_at_command_line (edits_from_position lines (line + 1)) last line count (parsed_script_line last text)
edits_from_position (text ∷ lines) line (Filed file at) last count =
    result_after_file_line (λ f. result_at_command_line (edits_from_position lines (line + 1)) f line count (parsed_script_line f text)) at file (is_line_with_file_scoped_command text)
edits_from_position (text ∷ lines) line (Begun begun at) last count =
    result_at_first_payload_line (edits_from_position lines (line + 1)) last line count begun at (text_of_payload_line (parsed_script_line last text) text) (parsed_script_line last text)
edits_from_position (text ∷ lines) line (Going begun so_far) last count =
    result_at_later_payload_line (edits_from_position lines (line + 1)) last line count begun so_far (text_of_payload_line (parsed_script_line last text) text) (parsed_script_line last text)

-- the edits that a text spells, or its first fault
abbrev pub edits_spelled_by_text : List ℕ → Result (List Edit) ScriptFault
edits_spelled_by_text text = edits_from_position (physical_lines text) 1 Between 0 0

-- a fault that is told: the stated one, or want of memory
abbrev pub IsFaultOrNoMemory : {A : Type 0} → ScriptFault → Result A ScriptFault → Type 0
IsFaultOrNoMemory faults.NoMemory wanted = Unit {0}
IsFaultOrNoMemory (faults.BadWord line) wanted = wanted ≡ Err (faults.BadWord line)
IsFaultOrNoMemory (faults.BadNumber line) wanted = wanted ≡ Err (faults.BadNumber line)
IsFaultOrNoMemory (faults.NoPayload line) wanted = wanted ≡ Err (faults.NoPayload line)
IsFaultOrNoMemory faults.TooMany wanted = wanted ≡ Err faults.TooMany

abbrev pub MatchesScriptReading : Result (List Edit) ScriptFault → Result (List Edit) ScriptFault → Type 0
MatchesScriptReading (Ok edits) wanted = wanted ≡ Ok edits
MatchesScriptReading (Err fault) wanted = IsFaultOrNoMemory fault wanted

-- A fault that is told when this line is read.
abbrev pub IsFaultFoundWhenReadingLine : ℕ → Result (List Edit) ScriptFault → Type 0
IsFaultFoundWhenReadingLine line (Ok edits) = ⊥
IsFaultFoundWhenReadingLine line (Err (faults.BadWord at)) = (at ≡ line) ⊎ (at + 1 ≡ line)
IsFaultFoundWhenReadingLine line (Err (faults.BadNumber at)) = at ≡ line
IsFaultFoundWhenReadingLine line (Err (faults.NoPayload at)) = at + 1 ≡ line
IsFaultFoundWhenReadingLine line (Err faults.TooMany) = Unit {0}
IsFaultFoundWhenReadingLine line (Err faults.NoMemory) = ⊥
