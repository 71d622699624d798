-- A device of the proof of reading, which no public contract cites: where the code stands, as the definitions have it.
use Rattle.std.specs.Prelude.{ℕ, ◌+◌, List, [], ◌∷◌, ◌++◌, length, Result, Ok, Err}
use Rattle.sudoers_edit_script.specs.ScriptReading.{ScriptPosition, Between, Filed, Begun, Going, ResultByPositionFileAndCount, words_between_spaces, edits_from_position}
use Rattle.sudoers_edit_script.specs.declared.edit.Edit.{Edit}
use Rattle.sudoers_edit_script.specs.declared.script_reader.ScriptReaderState.{ScriptReaderState}
use Rattle.sudoers_edit_script.specs.declared.script_reader.ScriptReaderState.TheVariants as open_at
use Rattle.sudoers_edit_script.specs.declared.script_reader.ScriptReader.{ScriptReader}
use Rattle.sudoers_edit_script.specs.declared.script_reader.ScriptFault.{ScriptFault}

-- the words behind the first, of a rest that is empty or begins with a space
abbrev pub words_behind_leading_space : List ℕ → List (List ℕ)
words_behind_leading_space [] = []
words_behind_leading_space (b ∷ bytes) = words_between_spaces bytes

abbrev pub position_of_reader_state : ScriptReaderState → ScriptPosition
position_of_reader_state open_at.Nothing = Between
position_of_reader_state (open_at.Filed file line) = Filed file line
position_of_reader_state (open_at.Begun begun line) = Begun begun line
position_of_reader_state (open_at.Going begun text) = Going begun text

-- an edit whose text is being read counts as a command, and is no edit yet
abbrev pub command_count_with_open : ScriptReaderState → ℕ → ℕ
command_count_with_open open_at.Nothing count = count
command_count_with_open (open_at.Filed file line) count = count
command_count_with_open (open_at.Begun begun line) count = count + 1
command_count_with_open (open_at.Going begun text) count = count + 1

-- these edits, and then those that the lines behind give
abbrev pub result_after_edits : List Edit → Result (List Edit) ScriptFault → Result (List Edit) ScriptFault
result_after_edits edits (Ok more) = Ok (edits ++ more)
result_after_edits edits (Err fault) = Err fault

-- the edits read so far, and then those that the rest gives from here
abbrev pub result_from_reader_state : ResultByPositionFileAndCount → ScriptReader → Result (List Edit) ScriptFault
result_from_reader_state rest reading = result_after_edits reading.edits (rest (position_of_reader_state reading.pending) reading.file (command_count_with_open reading.pending (length reading.edits)))

-- the edits read so far, and then those of these lines
abbrev pub result_of_remaining_lines : ScriptReader → List (List ℕ) → Result (List Edit) ScriptFault
result_of_remaining_lines reading lines = result_from_reader_state (edits_from_position lines reading.line) reading
