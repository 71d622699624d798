-- A spelling is read as the edits that it spells.
use Rattle.std.proofs.Common.{◌≡◌, ℕ, ◌+◌, ◌^◌, ◌<◌, ◌≤◌, Bool, true, false, not, List, [], ◌∷◌, ◌++◌, length, Option, Some, refl, sym, ap, subst, ◌∙◌, arith, inl, inr, append_assoc, append-nil}
use Rattle.std.specs.Prelude.{Result, Ok, Err, nat_le, if◌then◌else◌}
use Rattle.std.specs.List.{flat_map}
use Rattle.std.specs.Option.{is_some}
use Rattle.std.proofs.lemmas.Bool.{true≢false, cases_Bool, lt-leb, or_parts}
use Rattle.sudoers_text.specs.Ended.{ends_in_lf, has_inner_line_without_lf}
use Rattle.sudoers_edit_script.specs.Physical.{physical_lines}
use Rattle.sudoers_edit_script.specs.Script.{payload_of_text, payload_line_of_text_line, payload_lines_of_edit, spelling_of_edit, file_number_named_by_edit, script_line_setting_file_number, file_number_set_after_edit, spelling_of_edits_with_file_set, spelling_of_edits, IsSpellable, AreSpellable, edit_limit}
use Rattle.sudoers_edit_script.specs.ScriptReading.{Between, Filed, Begun, Going, ResultByPositionFileAndCount, edit_before_result, result_within_edit_limit, edit_completed_with_text, result_at_command_line, result_after_file_line, result_at_first_payload_line, result_at_later_payload_line, edits_from_position, parsed_script_line, text_of_payload_line, edits_spelled_by_text}
use Rattle.sudoers_edit_script.specs.declared.edit_awaiting_text.EditAwaitingText.{EditAwaitingText}
use Rattle.sudoers_edit_script.specs.declared.edit.Edit.{Edit}
use Rattle.sudoers_edit_script.specs.declared.script_line.ParsedScriptLine.{ParsedScriptLine}
use Rattle.sudoers_edit_script.specs.declared.script_line.ParsedScriptLine.TheVariants as says
use Rattle.sudoers_edit_script.specs.declared.script_reader.ScriptFault.{ScriptFault}
use Rattle.sudoers_edit_script.specs.declared.script_reader.ScriptFault.TheVariants as faults
use Rattle.sudoers_edit_script.proofs.FileLemmas.{NeedsFileLine, edit_needs_file_line_or_none, file_set_after_edit_fits, file_line_sets_file_of_its_edit, edit_spelling_begins_with_command_line}
use Rattle.sudoers_edit_script.proofs.PhysicalLemmas.{IsPhysicalLine, ArePhysicalLines, text_of_joined_lines, physical_lines_are_lines_of_text, unended_line_has_no_lf}
use Rattle.sudoers_edit_script.proofs.ReadingLemmas.{IsNoPayloadLine, command_after_text_completes_open_edit}
use Rattle.sudoers_edit_script.proofs.LineLemmas.{command_line_of_edit, parsed_line_of_edit, property_of_texted_and_whole_edits_holds, edit_with_text_has_its_command, command_line_of_edit_is_read_back, file_line_is_read_back, command_line_names_file_if_edit_does, file_line_is_first_physical_line, bar_line_is_first_physical_line, bar_line_parses_as_further_payload, angle_line_is_first_physical_line, angle_line_parses_as_last_payload, text_of_angle_line_is_read_back}

-- with room for one command more
result_below_edit_limit_is_kept : (count : ℕ) (r : Result (List Edit) ScriptFault) → count < 65536 → result_within_edit_limit count r ≡ r
result_below_edit_limit_is_kept count r h = let e : nat_le 65536 count ≡ false = lt-leb 65536 count h in rw e refl

-- The lines behind give these edits where a command has to come and this file is set.
abbrev ReadsAsEditsBetweenCommands : List ℕ → ℕ → ℕ → List Edit → Type 0
ReadsAsEditsBetweenCommands rest last count edits = (line : ℕ) → edits_from_position (physical_lines rest) line Between last count ≡ Ok edits

-- The lines behind give these edits behind the text of an edit, whatever it is.
abbrev ReadsAsEditsAfterPayload : List ℕ → ℕ → ℕ → List Edit → Type 0
ReadsAsEditsAfterPayload rest last count edits =
    (line : ℕ) (begun : EditAwaitingText) (so_far : List ℕ) → edits_from_position (physical_lines rest) line (Going begun so_far) last count ≡ Ok (edit_completed_with_text begun so_far ∷ edits)

-- a line that is a command or a `file` line, behind a text
command_line_after_payload_is_read : (text : List ℕ) (lines : List (List ℕ)) (line last count : ℕ) (begun : EditAwaitingText) (so_far : List ℕ) (edits : List Edit)
    → IsNoPayloadLine (parsed_script_line last text) → edits_from_position (text ∷ lines) line Between last count ≡ Ok edits
    → edits_from_position (text ∷ lines) line (Going begun so_far) last count ≡ Ok (edit_completed_with_text begun so_far ∷ edits)
command_line_after_payload_is_read text lines line last count begun so_far edits none e =
    command_after_text_completes_open_edit (edits_from_position lines (line + 1)) last line count begun so_far (text_of_payload_line (parsed_script_line last text) text) (parsed_script_line last text) none
    ∙ ap (edit_before_result (edit_completed_with_text begun so_far)) e

-- the command of an edit that wants a text is no line of one
begun_command_is_no_payload_line : (said : ParsedScriptLine) (begun : EditAwaitingText) → said ≡ says.Begin begun → IsNoPayloadLine said
begun_command_is_no_payload_line said begun e = record { more = λ f. cc; last = λ f. cc; unended = λ f. cc }

-- nor is one that is all of its edit
whole_command_is_no_payload_line : (said : ParsedScriptLine) (edit : Edit) → said ≡ says.Whole edit → IsNoPayloadLine said
whole_command_is_no_payload_line said edit e = record { more = λ f. cc; last = λ f. cc; unended = λ f. cc }

-- so a command is none
parsed_command_is_no_payload_line : (edit : Edit) → IsNoPayloadLine (parsed_line_of_edit edit)
parsed_command_is_no_payload_line edit =
    property_of_texted_and_whole_edits_holds (λ e. IsNoPayloadLine (parsed_line_of_edit e)) (λ begun text. begun_command_is_no_payload_line (parsed_line_of_edit (edit_completed_with_text begun text)) begun (edit_with_text_has_its_command begun text).said) (λ e said lines. whole_command_is_no_payload_line (parsed_line_of_edit e) e said) edit

-- nor is a `file` line
parsed_file_line_is_no_payload_line : (said : ParsedScriptLine) (file : Option ℕ) → said ≡ says.File file → IsNoPayloadLine said
parsed_file_line_is_no_payload_line said file e = record { more = λ f. cc; last = λ f. cc; unended = λ f. cc }

-- The first line of a spelling, which is none of a text, and the lines behind it.
pub record BeginsWithNonpayloadLine (last : ℕ) (text : List ℕ) : Type 0 where
  pub line : List ℕ
  pub more : List (List ℕ)
  pub lines : physical_lines text ≡ line ∷ more
  pub none : IsNoPayloadLine (parsed_script_line last line)

-- the lines of a spelling that begins with a `file` line
file_line_and_command_are_first_lines : (file : ℕ) (edit : Edit) (rest : List ℕ) → file + 1 ≤ 2 ^ 32 → IsSpellable edit
    → physical_lines (script_line_setting_file_number file ++ (spelling_of_edit edit ++ rest)) ≡ script_line_setting_file_number file ∷ command_line_of_edit edit ∷ physical_lines (payload_lines_of_edit edit ++ rest)
file_line_and_command_are_first_lines file edit rest fits h =
    file_line_is_first_physical_line file (spelling_of_edit edit ++ rest) fits ∙ ap (λ (ls : List (List ℕ)). script_line_setting_file_number file ∷ ls) (edit_spelling_begins_with_command_line edit rest h)

-- a file that a `file` line sets has a number that fits
pub file_set_by_file_line_fits : (last : ℕ) (edit : Edit) (s : NeedsFileLine last (file_number_named_by_edit edit)) → last + 1 ≤ 2 ^ 32 → IsSpellable edit → s.to + 1 ≤ 2 ^ 32
file_set_by_file_line_fits last edit s fits h = subst (λ (f : ℕ). f + 1 ≤ 2 ^ 32) (file_line_sets_file_of_its_edit last edit s) (file_set_after_edit_fits last edit fits h.0)

-- a spelling begins with such a line
pub spelling_begins_with_nonpayload_line : (last : ℕ) (edit : Edit) (edits : List Edit) → last + 1 ≤ 2 ^ 32 → IsSpellable edit → BeginsWithNonpayloadLine last (spelling_of_edits_with_file_set last (edit ∷ edits))
spelling_begins_with_nonpayload_line last edit edits fits h =
    let rest : List ℕ = spelling_of_edits_with_file_set (file_number_set_after_edit last edit) edits in
    elim (edit_needs_file_line_or_none last (file_number_named_by_edit edit)) [
      | inl u ↦ record {
        line = command_line_of_edit edit;
        more = physical_lines (payload_lines_of_edit edit ++ rest);
        lines = ap (λ (z : List ℕ). physical_lines (z ++ (spelling_of_edit edit ++ rest))) u.none ∙ edit_spelling_begins_with_command_line edit rest h;
        none = subst IsNoPayloadLine (sym (command_line_of_edit_is_read_back last edit h)
            ∙ ap (λ (f : ℕ). parsed_script_line f (command_line_of_edit edit)) u.same) (parsed_command_is_no_payload_line edit);
      }
      | inr s ↦ record {
        line = script_line_setting_file_number s.to;
        more = command_line_of_edit edit ∷ physical_lines (payload_lines_of_edit edit ++ rest);
        lines = ap (λ (z : List ℕ). physical_lines (z ++ (spelling_of_edit edit ++ rest))) s.line ∙ file_line_and_command_are_first_lines s.to edit rest (file_set_by_file_line_fits last edit s fits h) h;
        none = parsed_file_line_is_no_payload_line (parsed_script_line last (script_line_setting_file_number s.to)) (Some s.to) (file_line_is_read_back last s.to (file_set_by_file_line_fits last edit s fits h));
      }
    ]

-- a spelling that gives its edits where a command has to come gives them behind a text too
spelling_read_between_is_read_after_payload : (edits : List Edit) (last count : ℕ) → last + 1 ≤ 2 ^ 32 → AreSpellable edits → ReadsAsEditsBetweenCommands (spelling_of_edits_with_file_set last edits) last count edits
    → ReadsAsEditsAfterPayload (spelling_of_edits_with_file_set last edits) last count edits
spelling_read_between_is_read_after_payload [] last count fits n h = λ line begun so_far. refl
spelling_read_between_is_read_after_payload (edit ∷ edits) last count fits n h =
    λ line begun so_far.
    let b = spelling_begins_with_nonpayload_line last edit edits fits n.0 in
    ap (λ (ls : List (List ℕ)). edits_from_position ls line (Going begun so_far) last count) b.lines
    ∙ command_line_after_payload_is_read b.line b.more line last count begun so_far (edit ∷ edits) b.none
    (sym (ap (λ (ls : List (List ℕ)). edits_from_position ls line Between last count) b.lines) ∙ h line)

-- behind a `file` line the line of an edit in its file is read with that file set
edit_after_file_line_is_read : (edit : Edit) (last : ℕ) (s : NeedsFileLine last (file_number_named_by_edit edit)) (ls : List (List ℕ)) (line count : ℕ) → s.to + 1 ≤ 2 ^ 32 → IsSpellable edit
    → edits_from_position (script_line_setting_file_number s.to ∷ command_line_of_edit edit ∷ ls) line Between last count ≡ edits_from_position (command_line_of_edit edit ∷ ls) (line + 1) Between s.to count
edit_after_file_line_is_read edit last s ls line count fits h =
    let rest : ResultByPositionFileAndCount = edits_from_position (command_line_of_edit edit ∷ ls) (line + 1) in
    let gives : ℕ → Result (List Edit) ScriptFault = λ f. result_at_command_line (edits_from_position ls (line + 1 + 1)) f (line + 1) count (parsed_script_line f (command_line_of_edit edit)) in
    ap (result_at_command_line rest last line count) (file_line_is_read_back last s.to fits)
    ∙ ap (λ (b : Bool). if b then Err (faults.BadWord line) else rest (Filed (Some s.to) line) last count) s.other
    ∙ ap (result_after_file_line gives line (Some s.to)) (command_line_names_file_if_edit_does edit h ∙ ap is_some s.is)

-- PAYLOADS

-- a line with its LF in a payload
ended_line_has_bar_payload_line : (k : List ℕ) → ends_in_lf k ≡ true → payload_line_of_text_line k ≡ 124 ∷ k
ended_line_has_bar_payload_line k h = rw h refl

-- a line without LF in a payload
unended_line_has_angle_payload_line : (k : List ℕ) → ends_in_lf k ≡ false → payload_line_of_text_line k ≡ 62 ∷ k ++ 10 ∷ []
unended_line_has_angle_payload_line k h = rw h refl

-- a line with its LF, and more behind
ended_payload_begins_with_bar_line : (k : List ℕ) (ks : List (List ℕ)) (rest : List ℕ) → IsPhysicalLine k → ends_in_lf k ≡ true → physical_lines (flat_map payload_line_of_text_line (k ∷ ks) ++ rest) ≡ (124 ∷ k) ∷ physical_lines (flat_map payload_line_of_text_line ks ++ rest)
ended_payload_begins_with_bar_line k ks rest is ended =
    ap (λ (z : List ℕ). physical_lines ((z ++ flat_map payload_line_of_text_line ks) ++ rest)) (ended_line_has_bar_payload_line k ended)
    ∙ ap physical_lines (append_assoc (124 ∷ k) (flat_map payload_line_of_text_line ks) rest)
    ∙ bar_line_is_first_physical_line k (flat_map payload_line_of_text_line ks ++ rest) is ended

-- the last line, without LF
unended_payload_begins_with_angle_line : (k rest : List ℕ) → IsPhysicalLine k → ends_in_lf k ≡ false → physical_lines (flat_map payload_line_of_text_line (k ∷ []) ++ rest) ≡ (62 ∷ k ++ 10 ∷ []) ∷ physical_lines rest
unended_payload_begins_with_angle_line k rest is unended =
    ap (λ (z : List ℕ). physical_lines (z ++ rest)) (append-nil (payload_line_of_text_line k) ∙ unended_line_has_angle_payload_line k unended)
    ∙ angle_line_is_first_physical_line k rest (unended_line_has_no_lf k is unended)

-- a line with LF grows a text
later_bar_line_extends_open_text : (rest : ResultByPositionFileAndCount) (last line count : ℕ) (begun : EditAwaitingText) (so_far k : List ℕ) (said : ParsedScriptLine) → said ≡ says.More
    → result_at_later_payload_line rest last line count begun so_far (text_of_payload_line said (124 ∷ k)) said ≡ rest (Going begun (so_far ++ k)) last count
later_bar_line_extends_open_text rest last line count begun so_far k said e = rw e refl

-- a line with LF begins a text
first_bar_line_begins_open_text : (rest : ResultByPositionFileAndCount) (last line count : ℕ) (begun : EditAwaitingText) (at : ℕ) (k : List ℕ) (said : ParsedScriptLine) → said ≡ says.More
    → result_at_first_payload_line rest last line count begun at (text_of_payload_line said (124 ∷ k)) said ≡ rest (Going begun k) last count
first_bar_line_begins_open_text rest last line count begun at k said e = rw e refl

-- a line without LF ends a text
nonempty_last_line_completes_open_edit : (rest : ResultByPositionFileAndCount) (last line count : ℕ) (begun : EditAwaitingText) (so_far k : List ℕ) → IsPhysicalLine k
    → result_at_later_payload_line rest last line count begun so_far k says.Last ≡ edit_before_result (edit_completed_with_text begun (so_far ++ k)) (rest Between last count)
nonempty_last_line_completes_open_edit rest last line count begun so_far [] is = absurd is
nonempty_last_line_completes_open_edit rest last line count begun so_far (b ∷ bs) is = refl

-- so it does as it is spelled
later_angle_line_completes_open_edit : (rest : ResultByPositionFileAndCount) (last line count : ℕ) (begun : EditAwaitingText) (so_far k : List ℕ) → IsPhysicalLine k
    → result_at_later_payload_line rest last line count begun so_far (text_of_payload_line (parsed_script_line last (62 ∷ k ++ 10 ∷ [])) (62 ∷ k ++ 10 ∷ [])) (parsed_script_line last (62 ∷ k ++ 10 ∷ [])) ≡ edit_before_result (edit_completed_with_text begun (so_far ++ k)) (rest Between last count)
later_angle_line_completes_open_edit rest last line count begun so_far k is =
    ap (λ (s : ParsedScriptLine). result_at_later_payload_line rest last line count begun so_far (text_of_payload_line s (62 ∷ k ++ 10 ∷ [])) s) (angle_line_parses_as_last_payload last k)
    ∙ ap (λ (t : List ℕ). result_at_later_payload_line rest last line count begun so_far t says.Last) (text_of_angle_line_is_read_back k)
    ∙ nonempty_last_line_completes_open_edit rest last line count begun so_far k is

-- a line without LF alone is a text
first_angle_line_completes_open_edit : (rest : ResultByPositionFileAndCount) (last line count : ℕ) (begun : EditAwaitingText) (at : ℕ) (k : List ℕ)
    → result_at_first_payload_line rest last line count begun at (text_of_payload_line (parsed_script_line last (62 ∷ k ++ 10 ∷ [])) (62 ∷ k ++ 10 ∷ [])) (parsed_script_line last (62 ∷ k ++ 10 ∷ [])) ≡ edit_before_result (edit_completed_with_text begun k) (rest Between last count)
first_angle_line_completes_open_edit rest last line count begun at k =
    ap (λ (s : ParsedScriptLine). result_at_first_payload_line rest last line count begun at (text_of_payload_line s (62 ∷ k ++ 10 ∷ [])) s) (angle_line_parses_as_last_payload last k)
    ∙ ap (λ (t : List ℕ). result_at_first_payload_line rest last line count begun at t says.Last) (text_of_angle_line_is_read_back k)

-- a line without LF is the last
unended_line_has_no_line_after_it : (k next : List ℕ) (ks : List (List ℕ)) → ends_in_lf k ≡ false → has_inner_line_without_lf (k ∷ next ∷ ks) ≡ false → ⊥
unended_line_has_no_line_after_it k next ks u h = let p : true ≡ false = rw u at h in true≢false p

-- more lines of a text, behind these
later_payload_lines_are_read_back : (ks : List (List ℕ)) (rest : List ℕ) (last count : ℕ) (edits : List Edit) → ArePhysicalLines ks → has_inner_line_without_lf ks ≡ false
    → ReadsAsEditsBetweenCommands rest last count edits → ReadsAsEditsAfterPayload rest last count edits → (line : ℕ) (begun : EditAwaitingText) (so_far : List ℕ)
    → edits_from_position (physical_lines (flat_map payload_line_of_text_line ks ++ rest)) line (Going begun so_far) last count ≡ Ok (edit_completed_with_text begun (so_far ++ text_of_joined_lines ks) ∷ edits)
later_payload_lines_are_read_back [] rest last count edits each ended between going line begun so_far =
    going line begun so_far ∙ ap (λ (t : List ℕ). Ok (edit_completed_with_text begun t ∷ edits)) (sym (append-nil so_far))
later_payload_lines_are_read_back (k ∷ []) rest last count edits each ended between going line begun so_far =
    elim (cases_Bool (ends_in_lf k)) [
      | inl t ↦
          ap (λ (ls : List (List ℕ)). edits_from_position ls line (Going begun so_far) last count) (ended_payload_begins_with_bar_line k [] rest each.0 t)
          ∙ later_bar_line_extends_open_text (edits_from_position (physical_lines rest) (line + 1)) last line count begun so_far k (parsed_script_line last (124 ∷ k)) (bar_line_parses_as_further_payload last k t)
          ∙ going (line + 1) begun (so_far ++ k)
          ∙ ap (λ (t : List ℕ). Ok (edit_completed_with_text begun (so_far ++ t) ∷ edits)) (sym (append-nil k))
      | inr f ↦
          ap (λ (ls : List (List ℕ)). edits_from_position ls line (Going begun so_far) last count) (unended_payload_begins_with_angle_line k rest each.0 f)
          ∙ later_angle_line_completes_open_edit (edits_from_position (physical_lines rest) (line + 1)) last line count begun so_far k each.0
          ∙ ap (edit_before_result (edit_completed_with_text begun (so_far ++ k))) (between (line + 1))
          ∙ ap (λ (t : List ℕ). Ok (edit_completed_with_text begun (so_far ++ t) ∷ edits)) (sym (append-nil k))
    ]
later_payload_lines_are_read_back (k ∷ next ∷ ks) rest last count edits each ended between going line begun so_far =
    elim (cases_Bool (ends_in_lf k)) [
      | inl t ↦
          ap (λ (ls : List (List ℕ)). edits_from_position ls line (Going begun so_far) last count) (ended_payload_begins_with_bar_line k (next ∷ ks) rest each.0 t)
          ∙ later_bar_line_extends_open_text (edits_from_position (physical_lines (flat_map payload_line_of_text_line (next ∷ ks) ++ rest)) (line + 1)) last line count begun so_far k (parsed_script_line last (124 ∷ k)) (bar_line_parses_as_further_payload last k t)
          ∙ later_payload_lines_are_read_back (next ∷ ks) rest last count edits each.1 (or_parts (not (ends_in_lf k)) (has_inner_line_without_lf (next ∷ ks)) ended).1 between going (line + 1) begun (so_far ++ k)
          ∙ ap (λ (t : List ℕ). Ok (edit_completed_with_text begun t ∷ edits)) (append_assoc so_far k (text_of_joined_lines (next ∷ ks)))
      | inr f ↦ absurd (unended_line_has_no_line_after_it k next ks f ended)
    ]

-- the lines of a text, right behind its command
first_payload_lines_are_read_back : (ks : List (List ℕ)) (rest : List ℕ) (last count : ℕ) (edits : List Edit) → ArePhysicalLines ks → (ks ≡ [] → ⊥) → has_inner_line_without_lf ks ≡ false
    → ReadsAsEditsBetweenCommands rest last count edits → ReadsAsEditsAfterPayload rest last count edits → (line : ℕ) (begun : EditAwaitingText) (at : ℕ)
    → edits_from_position (physical_lines (flat_map payload_line_of_text_line ks ++ rest)) line (Begun begun at) last count ≡ Ok (edit_completed_with_text begun (text_of_joined_lines ks) ∷ edits)
first_payload_lines_are_read_back [] rest last count edits each some ended between going line begun at = absurd (some refl)
first_payload_lines_are_read_back (k ∷ []) rest last count edits each some ended between going line begun at =
    elim (cases_Bool (ends_in_lf k)) [
      | inl t ↦
          ap (λ (ls : List (List ℕ)). edits_from_position ls line (Begun begun at) last count) (ended_payload_begins_with_bar_line k [] rest each.0 t)
          ∙ first_bar_line_begins_open_text (edits_from_position (physical_lines rest) (line + 1)) last line count begun at k (parsed_script_line last (124 ∷ k)) (bar_line_parses_as_further_payload last k t)
          ∙ going (line + 1) begun k
          ∙ ap (λ (t : List ℕ). Ok (edit_completed_with_text begun t ∷ edits)) (sym (append-nil k))
      | inr f ↦
          ap (λ (ls : List (List ℕ)). edits_from_position ls line (Begun begun at) last count) (unended_payload_begins_with_angle_line k rest each.0 f)
          ∙ first_angle_line_completes_open_edit (edits_from_position (physical_lines rest) (line + 1)) last line count begun at k
          ∙ ap (edit_before_result (edit_completed_with_text begun k)) (between (line + 1))
          ∙ ap (λ (t : List ℕ). Ok (edit_completed_with_text begun t ∷ edits)) (sym (append-nil k))
    ]
first_payload_lines_are_read_back (k ∷ next ∷ ks) rest last count edits each some ended between going line begun at =
    elim (cases_Bool (ends_in_lf k)) [
      | inl t ↦
          ap (λ (ls : List (List ℕ)). edits_from_position ls line (Begun begun at) last count) (ended_payload_begins_with_bar_line k (next ∷ ks) rest each.0 t)
          ∙ first_bar_line_begins_open_text (edits_from_position (physical_lines (flat_map payload_line_of_text_line (next ∷ ks) ++ rest)) (line + 1)) last line count begun at k (parsed_script_line last (124 ∷ k)) (bar_line_parses_as_further_payload last k t)
          ∙ later_payload_lines_are_read_back (next ∷ ks) rest last count edits each.1 (or_parts (not (ends_in_lf k)) (has_inner_line_without_lf (next ∷ ks)) ended).1 between going (line + 1) begun k
      | inr f ↦ absurd (unended_line_has_no_line_after_it k next ks f ended)
    ]

-- a payload is read as its text
payload_is_read_back : (text rest : List ℕ) (last count : ℕ) (edits : List Edit) → ReadsAsEditsBetweenCommands rest last count edits → ReadsAsEditsAfterPayload rest last count edits
    → (line : ℕ) (begun : EditAwaitingText) (at : ℕ)
    → edits_from_position (physical_lines (payload_of_text text ++ rest)) line (Begun begun at) last count ≡ Ok (edit_completed_with_text begun text ∷ edits)
payload_is_read_back [] rest last count edits between going line begun at =
    ap (λ (ls : List (List ℕ)). edits_from_position ls line (Begun begun at) last count) (angle_line_is_first_physical_line [] rest refl)
    ∙ first_angle_line_completes_open_edit (edits_from_position (physical_lines rest) (line + 1)) last line count begun at []
    ∙ ap (edit_before_result (edit_completed_with_text begun [])) (between (line + 1))
payload_is_read_back (b ∷ bs) rest last count edits between going line begun at =
    let p = physical_lines_are_lines_of_text (b ∷ bs) in
    let some : physical_lines (b ∷ bs) ≡ [] → ⊥ = λ e. (let same : [] ≡ b ∷ bs = sym (ap text_of_joined_lines e) ∙ p.2 in cc) in
    first_payload_lines_are_read_back (physical_lines (b ∷ bs)) rest last count edits p.0 some p.1 between going line begun at
    ∙ ap (λ (t : List ℕ). Ok (edit_completed_with_text begun t ∷ edits)) p.2

-- An edit, where its file is set, and the lines behind it are read, with room for it.
abbrev IsEditReadBackInItsFile : ℕ → ℕ → List Edit → Edit → Type 0
IsEditReadBackInItsFile last count edits edit =
    IsSpellable edit → (rest : List ℕ) → ReadsAsEditsBetweenCommands rest (file_number_set_after_edit last edit) (count + 1) edits → ReadsAsEditsAfterPayload rest (file_number_set_after_edit last edit) (count + 1) edits
    → ReadsAsEditsBetweenCommands (spelling_of_edit edit ++ rest) (file_number_set_after_edit last edit) count (edit ∷ edits)

-- an edit with a text is read
edit_with_text_is_read_back : (last count : ℕ) (edits : List Edit) → count < 65536 → (begun : EditAwaitingText) (text : List ℕ) → IsEditReadBackInItsFile last count edits (edit_completed_with_text begun text)
edit_with_text_is_read_back last count edits fits begun text n rest between going line =
    let edit : Edit = edit_completed_with_text begun text in
    let t = edit_with_text_has_its_command begun text in
    let file : ℕ = file_number_set_after_edit last edit in
    let lines : ResultByPositionFileAndCount = edits_from_position (physical_lines (payload_of_text text ++ rest)) (line + 1) in
    ap (λ (ls : List (List ℕ)). edits_from_position ls line Between file count) (edit_spelling_begins_with_command_line edit rest n)
    ∙ ap (λ (z : List ℕ). result_at_command_line (edits_from_position (physical_lines (z ++ rest)) (line + 1)) file line count (parsed_script_line file (command_line_of_edit edit))) t.lines
    ∙ ap (result_at_command_line lines file line count) (command_line_of_edit_is_read_back last edit n ∙ t.said)
    ∙ result_below_edit_limit_is_kept count (lines (Begun begun line) file (count + 1)) fits
    ∙ payload_is_read_back text rest file (count + 1) edits between going (line + 1) begun line

-- so is one whose command is all of it
edit_without_text_is_read_back : (last count : ℕ) (edits : List Edit) → count < 65536 → (edit : Edit) → parsed_line_of_edit edit ≡ says.Whole edit → payload_lines_of_edit edit ≡ []
    → IsEditReadBackInItsFile last count edits edit
edit_without_text_is_read_back last count edits fits edit said none n rest between going line =
    let file : ℕ = file_number_set_after_edit last edit in
    let lines : ResultByPositionFileAndCount = edits_from_position (physical_lines rest) (line + 1) in
    ap (λ (ls : List (List ℕ)). edits_from_position ls line Between file count) (edit_spelling_begins_with_command_line edit rest n)
    ∙ ap (λ (z : List ℕ). result_at_command_line (edits_from_position (physical_lines (z ++ rest)) (line + 1)) file line count (parsed_script_line file (command_line_of_edit edit))) none
    ∙ ap (result_at_command_line lines file line count) (command_line_of_edit_is_read_back last edit n ∙ said)
    ∙ result_below_edit_limit_is_kept count (edit_before_result edit (lines Between file (count + 1))) fits
    ∙ ap (edit_before_result edit) (between (line + 1))

-- so each is
edit_is_read_back_in_its_file : (last count : ℕ) (edits : List Edit) → count < 65536 → (edit : Edit) → IsEditReadBackInItsFile last count edits edit
edit_is_read_back_in_its_file last count edits fits edit =
    property_of_texted_and_whole_edits_holds (IsEditReadBackInItsFile last count edits) (edit_with_text_is_read_back last count edits fits) (edit_without_text_is_read_back last count edits fits) edit

-- and so it is where its file is not set
edit_with_file_line_is_read_back : (last count : ℕ) (edit : Edit) (edits : List Edit) → last + 1 ≤ 2 ^ 32 → IsSpellable edit
    → ReadsAsEditsBetweenCommands (spelling_of_edit edit ++ spelling_of_edits_with_file_set (file_number_set_after_edit last edit) edits) (file_number_set_after_edit last edit) count (edit ∷ edits)
    → ReadsAsEditsBetweenCommands (spelling_of_edits_with_file_set last (edit ∷ edits)) last count (edit ∷ edits)
edit_with_file_line_is_read_back last count edit edits fits n gives line =
    let rest : List ℕ = spelling_of_edits_with_file_set (file_number_set_after_edit last edit) edits in
    elim (edit_needs_file_line_or_none last (file_number_named_by_edit edit)) [
      | inl u ↦
          ap (λ (z : List ℕ). edits_from_position (physical_lines (z ++ (spelling_of_edit edit ++ rest))) line Between last count) u.none
          ∙ subst (λ (f : ℕ). edits_from_position (physical_lines (spelling_of_edit edit ++ rest)) line Between f count ≡ Ok (edit ∷ edits)) u.same (gives line)
      | inr s ↦
          ap (λ (z : List ℕ). edits_from_position (physical_lines (z ++ (spelling_of_edit edit ++ rest))) line Between last count) s.line
          ∙ ap (λ (ls : List (List ℕ)). edits_from_position ls line Between last count) (file_line_and_command_are_first_lines s.to edit rest (file_set_by_file_line_fits last edit s fits n) n)
          ∙ edit_after_file_line_is_read edit last s (physical_lines (payload_lines_of_edit edit ++ rest)) line count (file_set_by_file_line_fits last edit s fits n) n
          ∙ sym (ap (λ (ls : List (List ℕ)). edits_from_position ls (line + 1) Between s.to count) (edit_spelling_begins_with_command_line edit rest n))
          ∙ subst (λ (f : ℕ). edits_from_position (physical_lines (spelling_of_edit edit ++ rest)) (line + 1) Between f count ≡ Ok (edit ∷ edits)) (file_line_sets_file_of_its_edit last edit s) (gives (line + 1))
    ]

-- a spelling is read, with room for it
spelling_with_file_set_is_read_back : (edits : List Edit) → AreSpellable edits → (last count : ℕ) → last + 1 ≤ 2 ^ 32 → length edits + count ≤ 65536
    → ReadsAsEditsBetweenCommands (spelling_of_edits_with_file_set last edits) last count edits
spelling_with_file_set_is_read_back [] n last count set fits = λ line. refl
spelling_with_file_set_is_read_back (edit ∷ edits) n last count set fits =
    let file : ℕ = file_number_set_after_edit last edit in
    let set_file : file + 1 ≤ 2 ^ 32 = file_set_after_edit_fits last edit set n.0.0 in
    let behind : ReadsAsEditsBetweenCommands (spelling_of_edits_with_file_set file edits) file (count + 1) edits = spelling_with_file_set_is_read_back edits n.1 file (count + 1) set_file (omega (arith, fits)) in
    edit_with_file_line_is_read_back last count edit edits set n.0
    (edit_is_read_back_in_its_file last count edits (omega (arith, fits)) edit n.0 (spelling_of_edits_with_file_set file edits) behind (spelling_read_between_is_read_after_payload edits file (count + 1) set_file n.1 behind))

-- THE LAW: the spelling of a list of edits is read as that list
pub spelling_of_edits_is_read_back : (edits : List Edit) → AreSpellable edits → length edits ≤ edit_limit → edits_spelled_by_text (spelling_of_edits edits) ≡ Ok edits
spelling_of_edits_is_read_back edits n fits = spelling_with_file_set_is_read_back edits n 0 0 (omega arith) (omega (arith, fits)) 1
