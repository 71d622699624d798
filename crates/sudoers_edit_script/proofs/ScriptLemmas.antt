-- What is read as edits is their spelling.
use Rattle.std.proofs.Common.{◌≡◌, ℕ, ◌+◌, ◌^◌, ◌<◌, ◌≤◌, Bool, true, false, List, [], ◌∷◌, ◌++◌, length, drop, Option, Some, None, refl, sym, ap, subst, ◌∙◌, arith, inl, inr, append_assoc}
use Rattle.std.specs.Prelude.{Result, Ok, Err, IfOk, nat_le, ◌==◌}
use Rattle.std.proofs.lemmas.Bool.{true≢false, cases_Bool, leb-false, eqb-true}
use Rattle.sudoers_text.specs.Ended.{ends_in_lf}
use Rattle.sudoers_edit_script.specs.Physical.{physical_lines}
use Rattle.sudoers_edit_script.specs.Script.{payload_of_text, payload_lines_of_edit, spelling_of_edit, file_number_named_by_edit, script_line_setting_file_number, file_number_set_after_edit, spelling_of_edits_with_file_set, spelling_of_edits, IsSpellable, AreSpellable, edit_limit}
use Rattle.sudoers_edit_script.specs.ScriptReading.{ScriptPosition, Between, Filed, Begun, Going, ResultByPositionFileAndCount, edit_before_result, result_within_edit_limit, edit_completed_with_text, fault_of_flawed_line, result_at_file_line, result_at_command_line, result_after_file_line, result_at_first_payload_line, result_at_later_payload_line, edits_from_position, parsed_script_line, is_line_with_file_scoped_command, text_of_payload_line, line_without_final_lf, edits_spelled_by_text, MatchesScriptReading}
use Rattle.sudoers_edit_script.specs.declared.edit_awaiting_text.EditAwaitingText.{EditAwaitingText}
use Rattle.sudoers_edit_script.specs.declared.edit.Edit.{Edit}
use Rattle.sudoers_edit_script.specs.declared.script_line.ParsedScriptLine.{ParsedScriptLine}
use Rattle.sudoers_edit_script.specs.declared.script_line.ParsedScriptLine.TheVariants as says
use Rattle.sudoers_edit_script.specs.declared.script_reader.ScriptFault.{ScriptFault}
use Rattle.sudoers_edit_script.specs.declared.script_reader.ScriptFault.TheVariants as faults
use Rattle.sudoers_edit_script.proofs.FileLemmas.{IsFileOfFirstEdit, edit_in_set_file_is_spelled_directly, edit_in_other_file_needs_file_line, text_of_edit_keeps_file_set}
use Rattle.sudoers_edit_script.proofs.PhysicalLemmas.{IsPhysicalLine, ArePhysicalLines, text_of_joined_lines, physical_lines_are_lines_of_text}
use Rattle.sudoers_edit_script.proofs.LineLemmas.{command_line_of_edit, edit_with_text_has_its_command, edit_without_payload_is_its_command_line, texted_edit_is_command_line_and_payload, IsCommandLineOfEdit, DoesLineMeanParsed, line_means_what_it_parses_to, file_command_line_names_set_file, file_line_has_no_file_command, text_of_angle_line_is_read_back}
use Rattle.sudoers_edit_script.proofs.PayloadLemmas.{appended_ended_text_ends_in_lf, payload_line_extends_spelling_of_open_edit, line_is_not_empty, line_after_bar_is_line, ended_line_has_bar_line_as_payload, payload_of_unended_line_is_angle_line}

-- what has been read of a `file` line, or of an edit that is open
abbrev pub text_read_at_position : ScriptPosition → List ℕ
text_read_at_position Between = []
text_read_at_position (Filed None at) = []
text_read_at_position (Filed (Some file) at) = script_line_setting_file_number file
text_read_at_position (Begun begun at) = command_line_of_edit (edit_completed_with_text begun [])
text_read_at_position (Going begun so_far) = spelling_of_edit (edit_completed_with_text begun so_far)

-- an edit that is open counts, and is none yet
abbrev pub open_edit_count_at_position : ScriptPosition → ℕ
open_edit_count_at_position Between = 0
open_edit_count_at_position (Filed file at) = 0
open_edit_count_at_position (Begun begun at) = 1
open_edit_count_at_position (Going begun so_far) = 1

-- The edit that is begun has a spelling, and needs no `file` line where this file is set.
abbrev pub IsOpenEditInSetFile : ℕ → EditAwaitingText → Type 0
IsOpenEditInSetFile last begun = IsSpellable (edit_completed_with_text begun []) × (file_number_set_after_edit last (edit_completed_with_text begun []) ≡ last)

-- A `file` line sets another file than this one. An edit that is open needs none, and its text so far ends in LF.
abbrev pub IsPositionWithFileSet : ℕ → ScriptPosition → Type 0
IsPositionWithFileSet last Between = Unit {0}
IsPositionWithFileSet last (Filed None at) = Unit {0}
IsPositionWithFileSet last (Filed (Some file) at) = ((file == last) ≡ false) × (file + 1 ≤ 2 ^ 32)
IsPositionWithFileSet last (Begun begun at) = IsOpenEditInSetFile last begun
IsPositionWithFileSet last (Going begun so_far) = IsOpenEditInSetFile last begun × (ends_in_lf so_far ≡ true)

-- The first of the edits is the open one, or names lines of the file that the `file` line sets.
abbrev pub IsFirstEditAtPosition : ScriptPosition → List Edit → Type 0
IsFirstEditAtPosition Between edits = Unit {0}
IsFirstEditAtPosition (Filed None at) edits = ⊥
IsFirstEditAtPosition (Filed (Some file) at) edits = IsFileOfFirstEdit (Some file) edits
IsFirstEditAtPosition (Begun begun at) edits = IsFileOfFirstEdit (file_number_named_by_edit (edit_completed_with_text begun [])) edits
IsFirstEditAtPosition (Going begun so_far) edits = IsFileOfFirstEdit (file_number_named_by_edit (edit_completed_with_text begun [])) edits

-- These lines, behind what has been read before them, spell these edits where this file is set.
pub record SpellsEditsFromPosition (standing : ScriptPosition) (last : ℕ) (lines : List (List ℕ)) (edits : List Edit) (count : ℕ) : Type 0 where
  pub text : text_read_at_position standing ++ text_of_joined_lines lines ≡ spelling_of_edits_with_file_set last edits
  pub head : IsFirstEditAtPosition standing edits
  pub few : length edits + count ≤ 65536 + open_edit_count_at_position standing
  pub spellable : AreSpellable edits

-- what the lines behind give is spelled by them
abbrev pub ReadsOnlySpelledEdits : ResultByPositionFileAndCount → List (List ℕ) → Type 0
ReadsOnlySpelledEdits rest lines =
    (standing : ScriptPosition) (last count : ℕ) (edits : List Edit) → last + 1 ≤ 2 ^ 32 → IsPositionWithFileSet last standing → count ≤ 65536
    → rest standing last count ≡ Ok edits → SpellsEditsFromPosition standing last lines edits count

-- edits that begin with this one come from those behind it
edits_with_edit_before_have_rest_read : (edit : Edit) (r : Result (List Edit) ScriptFault) (edits : List Edit) → edit_before_result edit r ≡ Ok edits → (more : List Edit) × (r ≡ Ok more) × (edits ≡ edit ∷ more)
edits_with_edit_before_have_rest_read edit (Ok more) edits e = let same : edits ≡ edit ∷ more = cc in (more, refl, same)
edits_with_edit_before_have_rest_read edit (Err fault) edits e = cc

-- where a command gives edits there was room for it
edits_within_limit_imply_room : (count : ℕ) (r : Result (List Edit) ScriptFault) (edits : List Edit) → result_within_edit_limit count r ≡ Ok edits → (count < 65536) × (r ≡ Ok edits)
edits_within_limit_imply_room count r edits e =
    elim (cases_Bool (nat_le 65536 count)) [
      | inl t ↦ let no : Err faults.TooMany ≡ Ok edits = rw t at e in cc
      | inr f ↦ (leb-false 65536 count f, rw f at e)
    ]

-- COMMANDS

-- the line of a command that is all of its edit, and the lines behind it, spell what they give
whole_command_line_spells_its_edits : (edit : Edit) (rest : ResultByPositionFileAndCount) (lines : List (List ℕ)) (l : List ℕ) (last count : ℕ) (edits : List Edit) → last + 1 ≤ 2 ^ 32
    → IsCommandLineOfEdit last edit l → payload_lines_of_edit edit ≡ [] → ReadsOnlySpelledEdits rest lines
    → result_within_edit_limit count (edit_before_result edit (rest Between last (count + 1))) ≡ Ok edits → SpellsEditsFromPosition Between last (l ∷ lines) edits count
whole_command_line_spells_its_edits edit rest lines l last count edits set told whole behind e =
    let r = edits_within_limit_imply_room count (edit_before_result edit (rest Between last (count + 1))) edits e in
    let b = edits_with_edit_before_have_rest_read edit (rest Between last (count + 1)) edits r.1 in
    let s = behind Between last (count + 1) b.0 set tt (omega (arith, r.0)) b.1 in
    subst (λ (es : List Edit). SpellsEditsFromPosition Between last (l ∷ lines) es count) (sym b.2) (record {
      text =
          ap (λ (z : List ℕ). z ++ text_of_joined_lines lines) (told.0 ∙ edit_without_payload_is_its_command_line edit whole) ∙ ap (λ (z : List ℕ). spelling_of_edit edit ++ z) s.text
          ∙ sym (edit_in_set_file_is_spelled_directly last edit b.0 told.2);
      head = tt;
      few = omega (arith, s.few);
      spellable = (told.1, s.spellable);
    })

-- a `file` line that gives edits sets another file
edits_after_file_line_imply_other_file : (rest : ResultByPositionFileAndCount) (last line count file : ℕ) (edits : List Edit) → result_at_file_line rest last line count (Some file) ≡ Ok edits
    → ((file == last) ≡ false) × (rest (Filed (Some file) line) last count ≡ Ok edits)
edits_after_file_line_imply_other_file rest last line count file edits e =
    elim (cases_Bool (file == last)) [
      | inl t ↦ let no : Err (faults.BadWord line) ≡ Ok edits = rw t at e in cc
      | inr f ↦ (f, rw f at e)
    ]

-- a line where a command has to come, and the lines behind it, spell what they give
line_between_commands_spells_its_edits : (rest : ResultByPositionFileAndCount) (lines : List (List ℕ)) (l : List ℕ) (last line count : ℕ) (edits : List Edit) (said : ParsedScriptLine) → last + 1 ≤ 2 ^ 32
    → DoesLineMeanParsed last said l → ReadsOnlySpelledEdits rest lines → count ≤ 65536
    → result_at_command_line rest last line count said ≡ Ok edits → SpellsEditsFromPosition Between last (l ∷ lines) edits count
line_between_commands_spells_its_edits rest lines l last line count edits (says.Begin begun) set told behind fits e =
    let r = edits_within_limit_imply_room count (rest (Begun begun line) last (count + 1)) edits e in
    let s = behind (Begun begun line) last (count + 1) edits set (told.1, told.2) (omega (arith, r.0)) r.1 in
    record {
      text = ap (λ (z : List ℕ). z ++ text_of_joined_lines lines) told.0 ∙ s.text;
      head = tt;
      few = omega (arith, s.few);
      spellable = s.spellable;
    }
line_between_commands_spells_its_edits rest lines l last line count edits (says.Whole edit) set told behind fits e =
    whole_command_line_spells_its_edits edit rest lines l last count edits set told.0 told.1 behind e
line_between_commands_spells_its_edits rest lines l last line count edits (says.File (Some file)) set told behind fits e =
    let o = edits_after_file_line_imply_other_file rest last line count file edits e in
    let s = behind (Filed (Some file) line) last count edits set (o.0, told.1) fits o.1 in
    record {
      text = ap (λ (z : List ℕ). z ++ text_of_joined_lines lines) told.0 ∙ s.text;
      head = tt;
      few = omega (arith, s.few);
      spellable = s.spellable;
    }
line_between_commands_spells_its_edits rest lines l last line count edits (says.File None) set told behind fits e =
    let s = behind (Filed None line) last count edits set tt fits e in
    absurd s.head
line_between_commands_spells_its_edits rest lines l last line count edits (says.Flawed f) set told behind fits e = let r = (edits_within_limit_imply_room count (Err (fault_of_flawed_line f line)) edits e).1 in cc
line_between_commands_spells_its_edits rest lines l last line count edits says.More set told behind fits e = cc
line_between_commands_spells_its_edits rest lines l last line count edits says.Last set told behind fits e = cc
line_between_commands_spells_its_edits rest lines l last line count edits says.Unended set told behind fits e = cc
line_between_commands_spells_its_edits rest lines l last line count edits says.Other set told behind fits e = cc

-- the first edit that such a line gives, if it names lines, is in the file that is set
first_file_edit_is_in_set_file : (rest : ResultByPositionFileAndCount) (lines : List (List ℕ)) (l : List ℕ) (last line count : ℕ) (edits : List Edit) (said : ParsedScriptLine) → last + 1 ≤ 2 ^ 32
    → DoesLineMeanParsed last said l → is_line_with_file_scoped_command l ≡ true → ReadsOnlySpelledEdits rest lines → count ≤ 65536
    → result_at_command_line rest last line count said ≡ Ok edits → IsFileOfFirstEdit (Some last) edits
first_file_edit_is_in_set_file rest lines l last line count edits (says.Begin begun) set told names behind fits e =
    let r = edits_within_limit_imply_room count (rest (Begun begun line) last (count + 1)) edits e in
    let s = behind (Begun begun line) last (count + 1) edits set (told.1, told.2) (omega (arith, r.0)) r.1 in
    subst (λ (file : Option ℕ). IsFileOfFirstEdit file edits) (file_command_line_names_set_file last (edit_completed_with_text begun []) l told names) s.head
first_file_edit_is_in_set_file rest lines l last line count edits (says.Whole edit) set told names behind fits e =
    let r = edits_within_limit_imply_room count (edit_before_result edit (rest Between last (count + 1))) edits e in
    let b = edits_with_edit_before_have_rest_read edit (rest Between last (count + 1)) edits r.1 in
    subst (λ (es : List Edit). IsFileOfFirstEdit (Some last) es) (sym b.2) (file_command_line_names_set_file last edit l told.0 names)
first_file_edit_is_in_set_file rest lines l last line count edits (says.File (Some file)) set told names behind fits e =
    absurd (true≢false (sym names ∙ ap is_line_with_file_scoped_command told.0 ∙ file_line_has_no_file_command file told.1))
first_file_edit_is_in_set_file rest lines l last line count edits (says.File None) set told names behind fits e =
    let s = behind (Filed None line) last count edits set tt fits e in
    absurd s.head
first_file_edit_is_in_set_file rest lines l last line count edits (says.Flawed f) set told names behind fits e = let r = (edits_within_limit_imply_room count (Err (fault_of_flawed_line f line)) edits e).1 in cc
first_file_edit_is_in_set_file rest lines l last line count edits says.More set told names behind fits e = cc
first_file_edit_is_in_set_file rest lines l last line count edits says.Last set told names behind fits e = cc
first_file_edit_is_in_set_file rest lines l last line count edits says.Unended set told names behind fits e = cc
first_file_edit_is_in_set_file rest lines l last line count edits says.Other set told names behind fits e = cc

-- a line right behind a `file` line, and the lines behind it, spell what they give
line_after_file_line_spells_its_edits : (rest : ResultByPositionFileAndCount) (lines : List (List ℕ)) (l : List ℕ) (last line count at : ℕ) (file : Option ℕ) (edits : List Edit) (names : Bool)
    → is_line_with_file_scoped_command l ≡ names → IsPositionWithFileSet last (Filed file at) → ReadsOnlySpelledEdits rest lines → count ≤ 65536
    → result_after_file_line (λ f. result_at_command_line rest f line count (parsed_script_line f l)) at file names ≡ Ok edits → SpellsEditsFromPosition (Filed file at) last (l ∷ lines) edits count
line_after_file_line_spells_its_edits rest lines l last line count at file edits false names fair behind fits e = cc
line_after_file_line_spells_its_edits rest lines l last line count at None edits true names fair behind fits e = cc
line_after_file_line_spells_its_edits rest lines l last line count at (Some file) edits true names fair behind fits e =
    let s = line_between_commands_spells_its_edits rest lines l file line count edits (parsed_script_line file l) fair.1 (line_means_what_it_parses_to file l fair.1) behind fits e in
    let head : IsFileOfFirstEdit (Some file) edits = first_file_edit_is_in_set_file rest lines l file line count edits (parsed_script_line file l) fair.1 (line_means_what_it_parses_to file l fair.1) names behind fits e in
    record {
      text = ap (λ (z : List ℕ). script_line_setting_file_number file ++ z) s.text ∙ sym (edit_in_other_file_needs_file_line last file edits head fair.0);
      head = head;
      few = s.few;
      spellable = s.spellable;
    }

-- THE FIRST LINE OF A TEXT

-- the first line of a text, with its LF
first_ended_payload_line_spells_edits : (lines : List (List ℕ)) (l t : List ℕ) (begun : EditAwaitingText) (last at count : ℕ) (edits : List Edit) → l ≡ 124 ∷ t → ends_in_lf t ≡ true → IsPhysicalLine l
    → SpellsEditsFromPosition (Going begun t) last lines edits count → SpellsEditsFromPosition (Begun begun at) last (l ∷ lines) edits count
first_ended_payload_line_spells_edits lines l t begun last at count edits e h is s =
    let line : IsPhysicalLine t = line_after_bar_is_line t h (subst (λ (z : List ℕ). IsPhysicalLine z) e is) in
    record {
      text =
          sym (append_assoc (command_line_of_edit (edit_completed_with_text begun [])) l (text_of_joined_lines lines))
          ∙ ap (λ (z : List ℕ). (command_line_of_edit (edit_completed_with_text begun []) ++ z) ++ text_of_joined_lines lines) (e ∙ sym (ended_line_has_bar_line_as_payload t line h))
          ∙ ap (λ (z : List ℕ). z ++ text_of_joined_lines lines) (sym (texted_edit_is_command_line_and_payload begun t))
          ∙ s.text;
      head = s.head;
      few = s.few;
      spellable = s.spellable;
    }

-- a text of one line, without LF
only_unended_payload_line_spells_edits : (lines : List (List ℕ)) (l t : List ℕ) (begun : EditAwaitingText) (last at count : ℕ) (more : List Edit) → l ≡ 62 ∷ t ++ 10 ∷ [] → IsPhysicalLine l
    → IsOpenEditInSetFile last begun → SpellsEditsFromPosition Between last lines more count → SpellsEditsFromPosition (Begun begun at) last (l ∷ lines) (edit_completed_with_text begun t ∷ more) count
only_unended_payload_line_spells_edits lines l t begun last at count more e is n s =
    let text : l ≡ payload_of_text t = e ∙ sym (payload_of_unended_line_is_angle_line t (subst (λ (z : List ℕ). IsPhysicalLine z) e is)) in
    record {
      text =
          sym (append_assoc (command_line_of_edit (edit_completed_with_text begun [])) l (text_of_joined_lines lines))
          ∙ ap (λ (z : List ℕ). (command_line_of_edit (edit_completed_with_text begun []) ++ z) ++ text_of_joined_lines lines) text
          ∙ ap (λ (z : List ℕ). z ++ text_of_joined_lines lines) (sym (texted_edit_is_command_line_and_payload begun t))
          ∙ ap (λ (z : List ℕ). spelling_of_edit (edit_completed_with_text begun t) ++ z) s.text
          ∙ sym (edit_in_set_file_is_spelled_directly last (edit_completed_with_text begun t) more (text_of_edit_keeps_file_set last begun t n.1));
      head = (edit_with_text_has_its_command begun t).file;
      few = omega (arith, s.few);
      spellable = ((edit_with_text_has_its_command begun t).spellable n.0, s.spellable);
    }

-- a line right behind a command that wants a text, and the lines behind it, spell what they give
first_payload_line_spells_its_edits : (rest : ResultByPositionFileAndCount) (lines : List (List ℕ)) (l : List ℕ) (last line count : ℕ) (begun : EditAwaitingText) (at : ℕ) (edits : List Edit) (said : ParsedScriptLine)
    → last + 1 ≤ 2 ^ 32 → DoesLineMeanParsed last said l → IsPhysicalLine l → ReadsOnlySpelledEdits rest lines → IsOpenEditInSetFile last begun → count ≤ 65536
    → result_at_first_payload_line rest last line count begun at (text_of_payload_line said l) said ≡ Ok edits → SpellsEditsFromPosition (Begun begun at) last (l ∷ lines) edits count
first_payload_line_spells_its_edits rest lines l last line count begun at edits says.More set told is behind n fits e =
    let same : drop 1 l ≡ told.0 = ap (drop 1) told.1 in
    let read : rest (Going begun told.0) last count ≡ Ok edits = rw same at e in
    first_ended_payload_line_spells_edits lines l told.0 begun last at count edits told.1 told.2 is (behind (Going begun told.0) last count edits set (n, told.2) fits read)
first_payload_line_spells_its_edits rest lines l last line count begun at edits says.Last set told is behind n fits e =
    let same : drop 1 (line_without_final_lf l) ≡ told.0 = ap (λ (z : List ℕ). drop 1 (line_without_final_lf z)) told.1 ∙ text_of_angle_line_is_read_back told.0 in
    let read : edit_before_result (edit_completed_with_text begun told.0) (rest Between last count) ≡ Ok edits =
    ap (λ (z : List ℕ). edit_before_result (edit_completed_with_text begun z) (rest Between last count)) (sym same) ∙ e in
    let b = edits_with_edit_before_have_rest_read (edit_completed_with_text begun told.0) (rest Between last count) edits read in
    subst (λ (es : List Edit). SpellsEditsFromPosition (Begun begun at) last (l ∷ lines) es count) (sym b.2)
    (only_unended_payload_line_spells_edits lines l told.0 begun last at count b.0 told.1 is n (behind Between last count b.0 set tt fits b.1))
first_payload_line_spells_its_edits rest lines l last line count begun at edits (says.Begin _) set told is behind n fits e = cc
first_payload_line_spells_its_edits rest lines l last line count begun at edits (says.Whole _) set told is behind n fits e = cc
first_payload_line_spells_its_edits rest lines l last line count begun at edits (says.Flawed _) set told is behind n fits e = cc
first_payload_line_spells_its_edits rest lines l last line count begun at edits (says.File _) set told is behind n fits e = cc
first_payload_line_spells_its_edits rest lines l last line count begun at edits says.Unended set told is behind n fits e = cc
first_payload_line_spells_its_edits rest lines l last line count begun at edits says.Other set told is behind n fits e = cc

-- A LATER LINE

-- one line more of a text, with its LF
later_ended_payload_line_spells_edits : (lines : List (List ℕ)) (l t : List ℕ) (begun : EditAwaitingText) (last count : ℕ) (so_far : List ℕ) (edits : List Edit) → l ≡ 124 ∷ t
    → ends_in_lf t ≡ true → IsPhysicalLine l → ends_in_lf so_far ≡ true → SpellsEditsFromPosition (Going begun (so_far ++ t)) last lines edits count
    → SpellsEditsFromPosition (Going begun so_far) last (l ∷ lines) edits count
later_ended_payload_line_spells_edits lines l t begun last count so_far edits e h is ended s =
    let line : IsPhysicalLine t = line_after_bar_is_line t h (subst (λ (z : List ℕ). IsPhysicalLine z) e is) in
    record {
      text = payload_line_extends_spelling_of_open_edit so_far l t begun lines ended (line_is_not_empty t line) (e ∙ sym (ended_line_has_bar_line_as_payload t line h)) ∙ s.text;
      head = s.head;
      few = s.few;
      spellable = s.spellable;
    }

-- the last line of a text, without LF
last_payload_line_spells_edits : (lines : List (List ℕ)) (l t : List ℕ) (begun : EditAwaitingText) (last count : ℕ) (so_far : List ℕ) (more : List Edit) → l ≡ 62 ∷ t ++ 10 ∷ []
    → (t ≡ [] → ⊥) → IsPhysicalLine l → IsOpenEditInSetFile last begun → ends_in_lf so_far ≡ true → SpellsEditsFromPosition Between last lines more count
    → SpellsEditsFromPosition (Going begun so_far) last (l ∷ lines) (edit_completed_with_text begun (so_far ++ t) ∷ more) count
last_payload_line_spells_edits lines l t begun last count so_far more e some is n ended s =
    let text : l ≡ payload_of_text t = e ∙ sym (payload_of_unended_line_is_angle_line t (subst (λ (z : List ℕ). IsPhysicalLine z) e is)) in
    record {
      text = payload_line_extends_spelling_of_open_edit so_far l t begun lines ended some text ∙ ap (λ (z : List ℕ). spelling_of_edit (edit_completed_with_text begun (so_far ++ t)) ++ z) s.text
          ∙ sym (edit_in_set_file_is_spelled_directly last (edit_completed_with_text begun (so_far ++ t)) more (text_of_edit_keeps_file_set last begun (so_far ++ t) n.1));
      head = (edit_with_text_has_its_command begun (so_far ++ t)).file;
      few = omega (arith, s.few);
      spellable = ((edit_with_text_has_its_command begun (so_far ++ t)).spellable n.0, s.spellable);
    }

-- a last line that gives edits is not empty
last_payload_line_read_is_not_empty : (rest : ResultByPositionFileAndCount) (last line count : ℕ) (begun : EditAwaitingText) (so_far t : List ℕ) (edits : List Edit)
    → result_at_later_payload_line rest last line count begun so_far t says.Last ≡ Ok edits
    → (t ≡ [] → ⊥) × (edit_before_result (edit_completed_with_text begun (so_far ++ t)) (rest Between last count) ≡ Ok edits)
last_payload_line_read_is_not_empty rest last line count begun so_far [] edits e = cc
last_payload_line_read_is_not_empty rest last line count begun so_far (b ∷ t) edits e = (λ z. cc, e)

-- a line that is none of the text, behind it
command_after_payload_spells_its_edits : (rest : ResultByPositionFileAndCount) (lines : List (List ℕ)) (l : List ℕ) (last line count : ℕ) (begun : EditAwaitingText) (so_far : List ℕ) (edits : List Edit) (said : ParsedScriptLine)
    → last + 1 ≤ 2 ^ 32 → DoesLineMeanParsed last said l → ReadsOnlySpelledEdits rest lines → IsOpenEditInSetFile last begun → count ≤ 65536
    → edit_before_result (edit_completed_with_text begun so_far) (result_at_command_line rest last line count said) ≡ Ok edits → SpellsEditsFromPosition (Going begun so_far) last (l ∷ lines) edits count
command_after_payload_spells_its_edits rest lines l last line count begun so_far edits said set told behind n fits e =
    let b = edits_with_edit_before_have_rest_read (edit_completed_with_text begun so_far) (result_at_command_line rest last line count said) edits e in
    let s = line_between_commands_spells_its_edits rest lines l last line count b.0 said set told behind fits b.1 in
    subst (λ (es : List Edit). SpellsEditsFromPosition (Going begun so_far) last (l ∷ lines) es count) (sym b.2) (record {
      text = ap (λ (z : List ℕ). spelling_of_edit (edit_completed_with_text begun so_far) ++ z) s.text
          ∙ sym (edit_in_set_file_is_spelled_directly last (edit_completed_with_text begun so_far) b.0 (text_of_edit_keeps_file_set last begun so_far n.1));
      head = (edit_with_text_has_its_command begun so_far).file;
      few = omega (arith, s.few);
      spellable = ((edit_with_text_has_its_command begun so_far).spellable n.0, s.spellable);
    })

-- a line behind a part of a text, and the lines behind it, spell what they give
later_payload_line_spells_its_edits : (rest : ResultByPositionFileAndCount) (lines : List (List ℕ)) (l : List ℕ) (last line count : ℕ) (begun : EditAwaitingText) (so_far : List ℕ) (edits : List Edit) (said : ParsedScriptLine) → last + 1 ≤ 2 ^ 32 → DoesLineMeanParsed last said l
    → IsPhysicalLine l → ReadsOnlySpelledEdits rest lines → IsOpenEditInSetFile last begun → ends_in_lf so_far ≡ true → count ≤ 65536
    → result_at_later_payload_line rest last line count begun so_far (text_of_payload_line said l) said ≡ Ok edits
    → SpellsEditsFromPosition (Going begun so_far) last (l ∷ lines) edits count
later_payload_line_spells_its_edits rest lines l last line count begun so_far edits says.More set told is behind n ended fits e =
    let same : drop 1 l ≡ told.0 = ap (drop 1) told.1 in
    let read : rest (Going begun (so_far ++ told.0)) last count ≡ Ok edits = rw same at e in
    later_ended_payload_line_spells_edits lines l told.0 begun last count so_far edits told.1 told.2 is ended
    (behind (Going begun (so_far ++ told.0)) last count edits set (n, appended_ended_text_ends_in_lf so_far told.0 told.2) fits read)
later_payload_line_spells_its_edits rest lines l last line count begun so_far edits says.Last set told is behind n ended fits e =
    let same : drop 1 (line_without_final_lf l) ≡ told.0 = ap (λ (z : List ℕ). drop 1 (line_without_final_lf z)) told.1 ∙ text_of_angle_line_is_read_back told.0 in
    let read : result_at_later_payload_line rest last line count begun so_far told.0 says.Last ≡ Ok edits =
    ap (λ (z : List ℕ). result_at_later_payload_line rest last line count begun so_far z says.Last) (sym same) ∙ e in
    let o = last_payload_line_read_is_not_empty rest last line count begun so_far told.0 edits read in
    let b = edits_with_edit_before_have_rest_read (edit_completed_with_text begun (so_far ++ told.0)) (rest Between last count) edits o.1 in
    subst (λ (es : List Edit). SpellsEditsFromPosition (Going begun so_far) last (l ∷ lines) es count) (sym b.2)
    (last_payload_line_spells_edits lines l told.0 begun last count so_far b.0 told.1 o.0 is n ended (behind Between last count b.0 set tt fits b.1))
later_payload_line_spells_its_edits rest lines l last line count begun so_far edits says.Unended set told is behind n ended fits e = cc
later_payload_line_spells_its_edits rest lines l last line count begun so_far edits (says.Begin other) set told is behind n ended fits e =
    command_after_payload_spells_its_edits rest lines l last line count begun so_far edits (says.Begin other) set told behind n fits e
later_payload_line_spells_its_edits rest lines l last line count begun so_far edits (says.Whole edit) set told is behind n ended fits e =
    command_after_payload_spells_its_edits rest lines l last line count begun so_far edits (says.Whole edit) set told behind n fits e
later_payload_line_spells_its_edits rest lines l last line count begun so_far edits (says.Flawed f) set told is behind n ended fits e =
    command_after_payload_spells_its_edits rest lines l last line count begun so_far edits (says.Flawed f) set told behind n fits e
later_payload_line_spells_its_edits rest lines l last line count begun so_far edits (says.File file) set told is behind n ended fits e =
    command_after_payload_spells_its_edits rest lines l last line count begun so_far edits (says.File file) set told behind n fits e
later_payload_line_spells_its_edits rest lines l last line count begun so_far edits says.Other set told is behind n ended fits e =
    command_after_payload_spells_its_edits rest lines l last line count begun so_far edits says.Other set told behind n fits e

-- ALL LINES

-- no line spells what is open
end_of_lines_spells_nothing_more : (line : ℕ) (standing : ScriptPosition) (last count : ℕ) (edits : List Edit) → IsPositionWithFileSet last standing → count ≤ 65536
    → edits_from_position [] line standing last count ≡ Ok edits → SpellsEditsFromPosition standing last [] edits count
end_of_lines_spells_nothing_more line Between last count edits fair fits e =
    let same : [] ≡ edits = cc in
    subst (λ (es : List Edit). SpellsEditsFromPosition Between last [] es count) same (record { text = refl; head = tt; few = omega arith; spellable = tt })
end_of_lines_spells_nothing_more line (Filed file at) last count edits fair fits e = cc
end_of_lines_spells_nothing_more line (Begun begun at) last count edits fair fits e = cc
end_of_lines_spells_nothing_more line (Going begun so_far) last count edits fair fits e =
    let same : edit_completed_with_text begun so_far ∷ [] ≡ edits = cc in
    subst (λ (es : List Edit). SpellsEditsFromPosition (Going begun so_far) last [] es count) same (record {
      text = sym (edit_in_set_file_is_spelled_directly last (edit_completed_with_text begun so_far) [] (text_of_edit_keeps_file_set last begun so_far fair.0.1));
      head = (edit_with_text_has_its_command begun so_far).file;
      few = omega arith;
      spellable = ((edit_with_text_has_its_command begun so_far).spellable fair.0.0, tt);
    })

-- one line, by where it stands
line_before_spelled_lines_spells_edits : (l : List ℕ) (lines : List (List ℕ)) (line : ℕ) → IsPhysicalLine l → ReadsOnlySpelledEdits (edits_from_position lines (line + 1)) lines
    → ReadsOnlySpelledEdits (edits_from_position (l ∷ lines) line) (l ∷ lines)
line_before_spelled_lines_spells_edits l lines line is behind Between last count edits set fair fits e =
    line_between_commands_spells_its_edits (edits_from_position lines (line + 1)) lines l last line count edits (parsed_script_line last l) set (line_means_what_it_parses_to last l set) behind fits e
line_before_spelled_lines_spells_edits l lines line is behind (Filed file at) last count edits set fair fits e =
    line_after_file_line_spells_its_edits (edits_from_position lines (line + 1)) lines l last line count at file edits (is_line_with_file_scoped_command l) refl fair behind fits e
line_before_spelled_lines_spells_edits l lines line is behind (Begun begun at) last count edits set fair fits e =
    first_payload_line_spells_its_edits (edits_from_position lines (line + 1)) lines l last line count begun at edits (parsed_script_line last l) set (line_means_what_it_parses_to last l set) is behind fair fits e
line_before_spelled_lines_spells_edits l lines line is behind (Going begun so_far) last count edits set fair fits e =
    later_payload_line_spells_its_edits (edits_from_position lines (line + 1)) lines l last line count begun so_far edits (parsed_script_line last l) set (line_means_what_it_parses_to last l set) is behind fair.0 fair.1 fits e

-- lines spell the edits that they give
pub lines_spell_edits_read_from_them : (lines : List (List ℕ)) → ArePhysicalLines lines → (line : ℕ) → ReadsOnlySpelledEdits (edits_from_position lines line) lines
lines_spell_edits_read_from_them [] each line = λ standing last count edits set fair fits e. end_of_lines_spells_nothing_more line standing last count edits fair fits e
lines_spell_edits_read_from_them (l ∷ lines) each line = line_before_spelled_lines_spells_edits l lines line each.0 (lines_spell_edits_read_from_them lines each.1 (line + 1))

-- THE LAW: what is read as a list of edits is its spelling
pub text_read_as_edits_is_their_spelling : (text : List ℕ) (edits : List Edit) → edits_spelled_by_text text ≡ Ok edits → (text ≡ spelling_of_edits edits) × (length edits ≤ edit_limit) × AreSpellable edits
text_read_as_edits_is_their_spelling text edits e =
    let p = physical_lines_are_lines_of_text text in
    let s = lines_spell_edits_read_from_them (physical_lines text) p.0 1 Between 0 0 edits (omega arith) tt (omega arith) e in
    (sym p.2 ∙ s.text, omega (arith, s.few), s.spellable)

-- so what a reading tells as edits is their spelling
pub edits_of_reading_are_spelled_by_text : (result : Result (List Edit) ScriptFault) (text : List ℕ) → MatchesScriptReading result (edits_spelled_by_text text) → IfOk result (λ edits. (text ≡ spelling_of_edits edits) × (length edits ≤ edit_limit))
edits_of_reading_are_spelled_by_text (Ok edits) text h = let r = text_read_as_edits_is_their_spelling text edits h in (r.0, r.1)
edits_of_reading_are_spelled_by_text (Err fault) text h = tt

-- a text of no bytes is empty
pub text_of_length_zero_is_empty : (text : List ℕ) → (length text == 0) ≡ true → text ≡ []
text_of_length_zero_is_empty [] h = refl
text_of_length_zero_is_empty (b ∷ bs) h = let z : length (b ∷ bs) ≡ 0 = eqb-true (length (b ∷ bs)) 0 h in absurd (omega arith)
