-- The one spelling of a list of edits, and what writing it gives.
use Rattle.std.specs.Prelude.{◌≡◌, ◌⊎◌, ℕ, ◌+◌, ◌-◌, ◌^◌, ◌<◌, ◌≤◌, ◌==◌, nat_lt, Bool, true, false, not, ◌&&◌, ◌||◌, List, [], ◌∷◌, ◌++◌, length, take, if◌then◌else◌, codes, Option, Some, None, Result, Ok, Err}
use Rattle.std.specs.List.{flat_map, list_any, prefix_len}
use Rattle.std.specs.Option.{unwrap_or}
use Rattle.std.specs.Fmt.{decimal}
use Rattle.sudoers_text.specs.Ended.{ends_in_lf}
use Rattle.sudoers_grammar.specs.declared.node.Kind.{Kind}
use Rattle.sudoers_grammar.specs.declared.node.Kind.TheVariants as kind_of
use Rattle.sudoers_edit_script.specs.Physical.{physical_lines}
use Rattle.sudoers_edit_script.specs.declared.edit.Edit.{Edit}
use Rattle.sudoers_edit_script.specs.declared.edit.Edit.TheVariants.{Insert, Delete, Move, AddMember, DropMember, AddDef, DropDef, Rename, EndLine, OpenEnd, Prune}
use Rattle.sudoers_edit_script.specs.declared.script_reader.ScriptFault.{ScriptFault}
use Rattle.sudoers_edit_script.specs.declared.script_reader.ScriptFault.TheVariants as faults

-- the most edits that a script has
abbrev pub edit_limit : ℕ
edit_limit = 65536

-- a line of a text: `|` before one with its LF; `>` before one without, and LF behind it
abbrev pub payload_line_of_text_line : List ℕ → List ℕ
payload_line_of_text_line line = if ends_in_lf line then 124 ∷ line else 62 ∷ line ++ 10 ∷ []

-- each line of a text; a lone `>` for the empty one
abbrev pub payload_of_text : List ℕ → List ℕ
payload_of_text [] = 62 ∷ 10 ∷ []
payload_of_text (b ∷ bytes) = flat_map payload_line_of_text_line (physical_lines (b ∷ bytes))

-- the number of a line, of a place or of a file in a script: it counts from 1
abbrev pub one_based_decimal : ℕ → List ℕ
one_based_decimal at = decimal (at + 1)

-- the word for a kind
abbrev pub word_for_alias_kind : Kind → List ℕ
word_for_alias_kind kind_of.User = codes "user"
word_for_alias_kind kind_of.Runas = codes "runas"
word_for_alias_kind kind_of.Host = codes "host"
word_for_alias_kind kind_of.Cmnd = codes "cmnd"

-- the words of the line of an edit's command
abbrev pub command_words_of_edit : Edit → List (List ℕ)
command_words_of_edit (Insert file at text) = codes "insert" ∷ one_based_decimal at ∷ []
command_words_of_edit (Delete file at) = codes "delete" ∷ one_based_decimal at ∷ []
command_words_of_edit (Move file from to) = codes "move" ∷ one_based_decimal from ∷ one_based_decimal to ∷ []
command_words_of_edit (AddMember kind name at splice) = codes "add" ∷ word_for_alias_kind kind ∷ name ∷ one_based_decimal at ∷ []
command_words_of_edit (DropMember kind name at) = codes "drop" ∷ word_for_alias_kind kind ∷ name ∷ one_based_decimal at ∷ []
command_words_of_edit (AddDef file line at splice) = codes "adddef" ∷ one_based_decimal line ∷ one_based_decimal at ∷ []
command_words_of_edit (DropDef file line at) = codes "dropdef" ∷ one_based_decimal line ∷ one_based_decimal at ∷ []
command_words_of_edit (Rename kind name fresh) = codes "rename" ∷ word_for_alias_kind kind ∷ name ∷ fresh ∷ []
command_words_of_edit (EndLine file) = codes "endline" ∷ []
command_words_of_edit (OpenEnd file) = codes "openend" ∷ []
command_words_of_edit Prune = codes "prune" ∷ []

-- the words with one space between them
abbrev pub words_joined_by_spaces : List (List ℕ) → List ℕ
words_joined_by_spaces [] = []
words_joined_by_spaces (word ∷ []) = word
words_joined_by_spaces (word ∷ next ∷ words) = word ++ 32 ∷ words_joined_by_spaces (next ∷ words)

-- the lines of the text that an edit brings
abbrev pub payload_lines_of_edit : Edit → List ℕ
payload_lines_of_edit (Insert file at text) = payload_of_text text
payload_lines_of_edit (AddMember kind name at splice) = payload_of_text splice
payload_lines_of_edit (AddDef file line at splice) = payload_of_text splice
payload_lines_of_edit _ = []

abbrev pub spelling_of_edit : Edit → List ℕ
spelling_of_edit edit = words_joined_by_spaces (command_words_of_edit edit) ++ 10 ∷ payload_lines_of_edit edit

-- FILES

-- the file whose lines an edit names, if it names any
abbrev pub file_number_named_by_edit : Edit → Option ℕ
file_number_named_by_edit (Insert file at text) = Some file
file_number_named_by_edit (Delete file at) = Some file
file_number_named_by_edit (Move file from to) = Some file
file_number_named_by_edit (AddDef file line at splice) = Some file
file_number_named_by_edit (DropDef file line at) = Some file
file_number_named_by_edit (EndLine file) = Some file
file_number_named_by_edit (OpenEnd file) = Some file
file_number_named_by_edit _ = None

-- the line that sets the file of the commands after it
abbrev pub script_line_setting_file_number : ℕ → List ℕ
script_line_setting_file_number file = words_joined_by_spaces (codes "file" ∷ one_based_decimal file ∷ []) ++ 10 ∷ []

-- what stands before the command of an edit in this file, if in any, where the file `last` was set last
abbrev pub file_line_before_edit : ℕ → Option ℕ → List ℕ
file_line_before_edit last None = []
file_line_before_edit last (Some file) = if file == last then [] else script_line_setting_file_number file

-- the file that is set after an edit where the file `last` was set before it
abbrev pub file_number_set_after_edit : ℕ → Edit → ℕ
file_number_set_after_edit last edit = unwrap_or (file_number_named_by_edit edit) last

-- the edits, one after another, where the file `last` was set last
abbrev pub spelling_of_edits_with_file_set : ℕ → List Edit → List ℕ
spelling_of_edits_with_file_set last [] = []
spelling_of_edits_with_file_set last (edit ∷ edits) = file_line_before_edit last (file_number_named_by_edit edit) ++ (spelling_of_edit edit ++ spelling_of_edits_with_file_set (file_number_set_after_edit last edit) edits)

-- the same after edits
abbrev pub file_number_set_after_edits : ℕ → List Edit → ℕ
file_number_set_after_edits last [] = last
file_number_set_after_edits last (edit ∷ edits) = file_number_set_after_edits (file_number_set_after_edit last edit) edits

-- the edits, one after another; at first the file 0 is set
abbrev pub spelling_of_edits : List Edit → List ℕ
spelling_of_edits edits = spelling_of_edits_with_file_set 0 edits

-- EDITS THAT HAVE A SPELLING

-- one or more bytes other than space and LF
abbrev pub is_spellable_word : List ℕ → Bool
is_spellable_word [] = false
is_spellable_word (b ∷ bytes) = not (list_any (λ c. (c == 32) || (c == 10)) (b ∷ bytes))

-- the names in it are words
abbrev pub has_word_names : Edit → Bool
has_word_names (AddMember kind name at splice) = is_spellable_word name
has_word_names (DropMember kind name at) = is_spellable_word name
has_word_names (Rename kind name fresh) = is_spellable_word name && is_spellable_word fresh
has_word_names _ = true

-- Its numbers fit the words for them.
abbrev pub HasFittingNumbers : Edit → Type 0
HasFittingNumbers (Insert file at text) = (file + 1 ≤ 2 ^ 32) × (at + 1 ≤ 2 ^ 32)
HasFittingNumbers (Delete file at) = (file + 1 ≤ 2 ^ 32) × (at + 1 ≤ 2 ^ 32)
HasFittingNumbers (Move file from to) = (file + 1 ≤ 2 ^ 32) × (from + 1 ≤ 2 ^ 32) × (to + 1 ≤ 2 ^ 32)
HasFittingNumbers (AddMember kind name at splice) = at + 1 ≤ 2 ^ 32
HasFittingNumbers (DropMember kind name at) = at + 1 ≤ 2 ^ 32
HasFittingNumbers (AddDef file line at splice) = (file + 1 ≤ 2 ^ 32) × (line + 1 ≤ 2 ^ 32) × (at + 1 ≤ 2 ^ 32)
HasFittingNumbers (DropDef file line at) = (file + 1 ≤ 2 ^ 32) × (line + 1 ≤ 2 ^ 32) × (at + 1 ≤ 2 ^ 32)
HasFittingNumbers (EndLine file) = file + 1 ≤ 2 ^ 32
HasFittingNumbers (OpenEnd file) = file + 1 ≤ 2 ^ 32
HasFittingNumbers _ = Unit {0}

abbrev pub HaveFittingNumbers : List Edit → Type 0
HaveFittingNumbers [] = Unit {0}
HaveFittingNumbers (edit ∷ edits) = HasFittingNumbers edit × HaveFittingNumbers edits

abbrev pub IsSpellable : Edit → Type 0
IsSpellable edit = HasFittingNumbers edit × (has_word_names edit ≡ true)

abbrev pub AreSpellable : List Edit → Type 0
AreSpellable [] = Unit {0}
AreSpellable (edit ∷ edits) = IsSpellable edit × AreSpellable edits

-- Of these edits so many stand before the first with a name that is no word. If that one is among those that a script may
-- have, it has no spelling, and its line is the one behind their lines, counted from 1; else only the count can be too large.
abbrev pub script_or_fault_at_bad_name : ℕ → List Edit → Result (List ℕ) ScriptFault
script_or_fault_at_bad_name named edits =
    if nat_lt named edit_limit && nat_lt named (length edits)
    then Err (faults.BadWord (length (physical_lines (spelling_of_edits (take named edits))) + 1))
    else (if nat_lt edit_limit (length edits) then Err faults.TooMany else Ok (spelling_of_edits edits))

-- the text of a list of edits, or the first fault
abbrev pub script_or_first_fault : List Edit → Result (List ℕ) ScriptFault
script_or_first_fault edits = script_or_fault_at_bad_name (prefix_len has_word_names edits) edits

-- FRONTS

-- These physical lines are a front of a script: the first lines of the spelling of a list of edits within the limit.
pub record IsScriptPrefix (lines : List (List ℕ)) : Type 0 where
  pub more : List (List ℕ)
  pub edits : List Edit
  pub spellable : AreSpellable edits
  pub few : length edits ≤ edit_limit
  pub whole : lines ++ more ≡ physical_lines (spelling_of_edits edits)

-- This line, counted from 1, is the first with which these lines are no front of a script.
pub record IsFirstBadScriptLine (line : ℕ) (lines : List (List ℕ)) : Type 0 where
  pub counted : 0 < line
  pub within : line ≤ length lines
  pub before : IsScriptPrefix (take (line - 1) lines)
  pub dead : IsScriptPrefix (take line lines) → ⊥

-- Up to this line, counted from 1, these lines are a front of a script, and no script; and no line follows, or one
-- with which they are no front.
pub record IsUnfinishedScriptUpToLine (line : ℕ) (lines : List (List ℕ)) : Type 0 where
  pub counted : 0 < line
  pub within : line ≤ length lines
  pub front : IsScriptPrefix (take line lines)
  pub alone : (edits : List Edit) → AreSpellable edits → length edits ≤ edit_limit → take line lines ≡ physical_lines (spelling_of_edits edits) → ⊥
  pub ends : (line ≡ length lines) ⊎ (IsScriptPrefix (take (line + 1) lines) → ⊥)

-- The lines before this one are a script with as many edits as there may be.
pub record HasMaxEditsBeforeLine (line : ℕ) (lines : List (List ℕ)) : Type 0 where
  pub edits : List Edit
  pub spellable : AreSpellable edits
  pub full : length edits ≡ edit_limit
  pub whole : take (line - 1) lines ≡ physical_lines (spelling_of_edits edits)
