-- Steps of reading.
use Rattle.std.proofs.Common.{◌≡◌, ℕ, ◌+◌, List, [], ◌∷◌, ◌++◌, length, refl, sym, ap, ◌∙◌, append_assoc}
use Rattle.std.specs.Prelude.{Result, Ok, Err, OnOk, IfErr}
use Rattle.std.proofs.lemmas.List.{length-append}
use Rattle.sudoers_edit_script.specs.declared.edit_awaiting_text.EditAwaitingText.{EditAwaitingText}
use Rattle.sudoers_edit_script.specs.declared.edit.Edit.{Edit}
use Rattle.sudoers_edit_script.specs.declared.script_line.ParsedScriptLine.{ParsedScriptLine}
use Rattle.sudoers_edit_script.specs.declared.script_line.ParsedScriptLine.TheVariants as says
use Rattle.sudoers_edit_script.specs.declared.script_reader.ScriptFault.{ScriptFault}
use Rattle.sudoers_edit_script.specs.declared.script_reader.ScriptReader.{ScriptReader}
use Rattle.sudoers_edit_script.specs.ScriptReading.{ResultByPositionFileAndCount, edit_before_result, edit_completed_with_text, result_at_command_line, result_at_later_payload_line, IsFaultOrNoMemory}
use Rattle.sudoers_edit_script.specs.internal.ScriptStanding.{result_after_edits, result_from_reader_state}

-- an edit more stands behind those so far
pub edit_before_result_joins_edits_so_far : (edits : List Edit) (edit : Edit) (r : Result (List Edit) ScriptFault) → result_after_edits edits (edit_before_result edit r) ≡ result_after_edits (edits ++ edit ∷ []) r
edit_before_result_joins_edits_so_far edits edit (Ok more) = ap Ok (sym (append_assoc edits (edit ∷ []) more))
edit_before_result_joins_edits_so_far edits edit (Err fault) = refl

-- The line is none of a text.
pub record IsNoPayloadLine (said : ParsedScriptLine) : Type 0 where
  pub more : said ≡ says.More → ⊥
  pub last : said ≡ says.Last → ⊥
  pub unended : said ≡ says.Unended → ⊥

-- it stands behind a text as behind nothing
pub command_after_text_completes_open_edit : (rest : ResultByPositionFileAndCount) (last line count : ℕ) (begun : EditAwaitingText) (so_far text : List ℕ) (said : ParsedScriptLine) → IsNoPayloadLine said
    → result_at_later_payload_line rest last line count begun so_far text said ≡ edit_before_result (edit_completed_with_text begun so_far) (result_at_command_line rest last line count said)
command_after_text_completes_open_edit rest last line count begun so_far text says.More none = absurd (none.more refl)
command_after_text_completes_open_edit rest last line count begun so_far [] says.Last none = absurd (none.last refl)
command_after_text_completes_open_edit rest last line count begun so_far (b ∷ text) says.Last none = absurd (none.last refl)
command_after_text_completes_open_edit rest last line count begun so_far text says.Unended none = absurd (none.unended refl)
command_after_text_completes_open_edit rest last line count begun so_far text (says.Begin other) none = refl
command_after_text_completes_open_edit rest last line count begun so_far text (says.Whole edit) none = refl
command_after_text_completes_open_edit rest last line count begun so_far text (says.Flawed f) none = refl
command_after_text_completes_open_edit rest last line count begun so_far text (says.File file) none = refl
command_after_text_completes_open_edit rest last line count begun so_far text says.Other none = refl

-- the same behind the edits so far
command_after_text_adds_open_edit : (rest : ResultByPositionFileAndCount) (edits : List Edit) (last line : ℕ) (begun : EditAwaitingText) (so_far text : List ℕ) (said : ParsedScriptLine) → IsNoPayloadLine said
    → result_after_edits edits (result_at_later_payload_line rest last line (length edits + 1) begun so_far text said)
    ≡ result_after_edits (edits ++ edit_completed_with_text begun so_far ∷ []) (result_at_command_line rest last line (length (edits ++ edit_completed_with_text begun so_far ∷ [])) said)
command_after_text_adds_open_edit rest edits last line begun so_far text said none =
    let e : length edits + 1 ≡ length (edits ++ edit_completed_with_text begun so_far ∷ []) = sym (length-append edits (edit_completed_with_text begun so_far ∷ [])) in
    ap (result_after_edits edits) (command_after_text_completes_open_edit rest last line (length edits + 1) begun so_far text said none)
    ∙ edit_before_result_joins_edits_so_far edits (edit_completed_with_text begun so_far) (result_at_command_line rest last line (length edits + 1) said)
    ∙ ap (λ (n : ℕ). result_after_edits (edits ++ edit_completed_with_text begun so_far ∷ []) (result_at_command_line rest last line n said)) e

-- what taking such a line as a command does
pub command_after_text_keeps_reader_state : (result : Result (Unit {0}) ScriptFault) (edits more : List Edit) (last line : ℕ) (begun : EditAwaitingText) (so_far text : List ℕ) (said : ParsedScriptLine) (new : ScriptReader)
    → IsNoPayloadLine said → more ≡ edits ++ edit_completed_with_text begun so_far ∷ []
    → OnOk result ((rest : ResultByPositionFileAndCount) → result_after_edits more (result_at_command_line rest last line (length more) said) ≡ result_from_reader_state rest new)
    → OnOk result ((rest : ResultByPositionFileAndCount) → result_after_edits edits (result_at_later_payload_line rest last line (length edits + 1) begun so_far text said) ≡ result_from_reader_state rest new)
command_after_text_keeps_reader_state (Ok _) edits more last line begun so_far text said new none e h =
    λ rest. command_after_text_adds_open_edit rest edits last line begun so_far text said none
    ∙ ap (λ (es : List Edit). result_after_edits es (result_at_command_line rest last line (length es) said)) (sym e) ∙ h rest
command_after_text_keeps_reader_state (Err _) edits more last line begun so_far text said new none e h = h

-- and which fault it tells
pub command_after_text_keeps_reported_fault : (result : Result (Unit {0}) ScriptFault) (edits more : List Edit) (last line : ℕ) (begun : EditAwaitingText) (so_far text : List ℕ) (said : ParsedScriptLine)
    → IsNoPayloadLine said → more ≡ edits ++ edit_completed_with_text begun so_far ∷ []
    → IfErr result (λ fault. (rest : ResultByPositionFileAndCount) → IsFaultOrNoMemory fault (result_after_edits more (result_at_command_line rest last line (length more) said)))
    → IfErr result (λ fault. (rest : ResultByPositionFileAndCount) → IsFaultOrNoMemory fault (result_after_edits edits (result_at_later_payload_line rest last line (length edits + 1) begun so_far text said)))
command_after_text_keeps_reported_fault (Ok _) edits more last line begun so_far text said none e h = h
command_after_text_keeps_reported_fault (Err fault) edits more last line begun so_far text said none e h =
    λ rest. rw (command_after_text_adds_open_edit rest edits last line begun so_far text said none, ← e) (h rest)
