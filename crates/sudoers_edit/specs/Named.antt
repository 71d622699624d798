-- Edits all of whose names have a spelling.
use Rattle.std.specs.Prelude.{◌≡◌, ℕ, true, nat_lt, if◌then◌else◌, List, [], ◌∷◌, length, Result, Ok, Err}
use Rattle.sudoers_edit_script.specs.Script.{edit_limit, has_word_names, spelling_of_edits}
use Rattle.sudoers_edit_script.specs.declared.edit.Edit.{Edit}
use Rattle.sudoers_edit_script.specs.declared.script_reader.ScriptFault.{ScriptFault}
use Rattle.sudoers_edit_script.specs.declared.script_reader.ScriptFault.TheVariants.{TooMany}

abbrev pub HaveSpellableNames : List Edit → Type 0
HaveSpellableNames [] = Unit {0}
HaveSpellableNames (edit ∷ edits) = (has_word_names edit ≡ true) × HaveSpellableNames edits

-- their spelling, unless they are too many
abbrev pub spelling_or_too_many : List Edit → Result (List ℕ) ScriptFault
spelling_or_too_many edits = if nat_lt edit_limit (length edits) then Err TooMany else Ok (spelling_of_edits edits)
