-- A spelling is whole lines, and none of them begins with `%`.
use Rattle.std.proofs.Common.{◌≡◌, ◌≢◌, ℕ, ◌+◌, ◌≤◌, ◌^◌, Bool, true, false, inl, inr, List, [], ◌∷◌, ◌++◌, slice_index, refl, sym, ap, subst, ◌∙◌, arith, append_assoc, append-nil}
use Rattle.std.specs.List.{flat_map, AllByRecursion}
use Rattle.sudoers_text.specs.Ended.{ends_in_lf}
use Rattle.sudoers_edit_script.specs.Physical.{physical_lines}
use Rattle.sudoers_edit_script.specs.Script.{payload_of_text, payload_line_of_text_line, payload_lines_of_edit, spelling_of_edit, file_number_named_by_edit, script_line_setting_file_number, file_line_before_edit, file_number_set_after_edit, spelling_of_edits_with_file_set, spelling_of_edits, IsSpellable, AreSpellable}
use Rattle.sudoers_edit_script.specs.ScriptReading.{edit_completed_with_text}
use Rattle.sudoers_edit_script.specs.declared.edit.Edit.{Edit}
use Rattle.sudoers_edit_script.specs.declared.edit.Edit.TheVariants.{Insert, Delete, Move, AddMember, DropMember, AddDef, DropDef, Rename, EndLine, OpenEnd, Prune}
use Rattle.sudoers_edit_script.proofs.FileLemmas.{edit_needs_file_line_or_none, file_set_after_edit_fits}
use Rattle.sudoers_edit_script.proofs.PhysicalLemmas.{ended_line_is_first_physical_line}
use Rattle.sudoers_edit_script.proofs.SpellingLemmas.{file_set_by_file_line_fits}
use Rattle.sudoers_edit_script.proofs.LineLemmas.{command_line_of_edit, property_of_texted_and_whole_edits_holds, edit_with_text_has_its_command, edit_spelling_is_command_line_and_payload, command_line_is_first_physical_line, file_line_is_first_physical_line}
use Rattle.sudoers_edit_script.proofs.OneSpelling.{AreLinesOfPayloadText, payload_text_lines, payload_text_lines_join_and_give_payload, payload_line_is_ended_line}

-- The line does not begin with `%`.
abbrev IsLineWithoutLeadingPercent : List ℕ → Type 0
IsLineWithoutLeadingPercent line = slice_index line 0 ≢ 37

-- The text is these lines, whatever follows it.
record IsWholeLinesWithoutPercent (text : List ℕ) : Type 0 where
  lines : List (List ℕ)
  before : (rest : List ℕ) → physical_lines (text ++ rest) ≡ lines ++ physical_lines rest
  plain : AllByRecursion IsLineWithoutLeadingPercent lines

appended_lists_keep_property_of_all : (ls ks : List (List ℕ)) → AllByRecursion IsLineWithoutLeadingPercent ls → AllByRecursion IsLineWithoutLeadingPercent ks → AllByRecursion IsLineWithoutLeadingPercent (ls ++ ks)
appended_lists_keep_property_of_all [] ks a b = b
appended_lists_keep_property_of_all (l ∷ ls) ks a b = (a.0, appended_lists_keep_property_of_all ls ks a.1 b)

empty_text_is_whole_lines : IsWholeLinesWithoutPercent []
empty_text_is_whole_lines = record { lines = []; before = λ rest. refl; plain = tt }

appended_whole_lines_are_whole_lines : (a b : List ℕ) → IsWholeLinesWithoutPercent a → IsWholeLinesWithoutPercent b → IsWholeLinesWithoutPercent (a ++ b)
appended_whole_lines_are_whole_lines a b x y = record {
  lines = x.lines ++ y.lines;
  before = λ rest.
      ap physical_lines (append_assoc a b rest) ∙ x.before (b ++ rest)
      ∙ ap (λ (ls : List (List ℕ)). x.lines ++ ls) (y.before rest) ∙ sym (append_assoc x.lines y.lines (physical_lines rest));
  plain = appended_lists_keep_property_of_all x.lines y.lines x.plain y.plain;
}

-- the line of a command
command_line_has_no_leading_percent : (edit : Edit) → IsLineWithoutLeadingPercent (command_line_of_edit edit)
command_line_has_no_leading_percent (Insert file at text) = λ e. omega (arith, e)
command_line_has_no_leading_percent (Delete file at) = λ e. omega (arith, e)
command_line_has_no_leading_percent (Move file from to) = λ e. omega (arith, e)
command_line_has_no_leading_percent (AddMember kind name at splice) = λ e. omega (arith, e)
command_line_has_no_leading_percent (DropMember kind name at) = λ e. omega (arith, e)
command_line_has_no_leading_percent (AddDef file line at splice) = λ e. omega (arith, e)
command_line_has_no_leading_percent (DropDef file line at) = λ e. omega (arith, e)
command_line_has_no_leading_percent (Rename kind name fresh) = λ e. omega (arith, e)
command_line_has_no_leading_percent (EndLine file) = λ e. omega (arith, e)
command_line_has_no_leading_percent (OpenEnd file) = λ e. omega (arith, e)
command_line_has_no_leading_percent Prune = λ e. omega (arith, e)

command_line_is_whole_line : (edit : Edit) → IsSpellable edit → IsWholeLinesWithoutPercent (command_line_of_edit edit)
command_line_is_whole_line edit n = record {
  lines = command_line_of_edit edit ∷ [];
  before = λ rest. command_line_is_first_physical_line edit rest n;
  plain = (command_line_has_no_leading_percent edit, tt);
}

-- the `file` line before a command, if there is one
file_line_before_edit_is_whole_lines : (last : ℕ) (edit : Edit) → last + 1 ≤ 2 ^ 32 → IsSpellable edit → IsWholeLinesWithoutPercent (file_line_before_edit last (file_number_named_by_edit edit))
file_line_before_edit_is_whole_lines last edit fits n =
    elim (edit_needs_file_line_or_none last (file_number_named_by_edit edit)) [
      | inl u ↦ subst IsWholeLinesWithoutPercent (sym u.none) empty_text_is_whole_lines
      | inr s ↦ subst IsWholeLinesWithoutPercent (sym s.line) (record {
        lines = script_line_setting_file_number s.to ∷ [];
        before = λ rest. file_line_is_first_physical_line s.to rest (file_set_by_file_line_fits last edit s fits n);
        plain = (λ e. omega (arith, e), tt);
      })
    ]

-- a line of a payload
payload_line_has_no_leading_percent : (k : List ℕ) → IsLineWithoutLeadingPercent (payload_line_of_text_line k)
payload_line_has_no_leading_percent k = by (ends_in_lf k) refl
  where
    by : (b : Bool) → ends_in_lf k ≡ b → IsLineWithoutLeadingPercent (payload_line_of_text_line k)
    by true is = rw is (λ e. omega (arith, e))
    by false is = rw is (λ e. omega (arith, e))

payload_lines_are_whole_lines : (ks : List (List ℕ)) → AreLinesOfPayloadText ks → IsWholeLinesWithoutPercent (flat_map payload_line_of_text_line ks)
payload_lines_are_whole_lines [] p = empty_text_is_whole_lines
payload_lines_are_whole_lines (k ∷ ks) p =
    let line = payload_line_is_ended_line k p.0 in
    appended_whole_lines_are_whole_lines (payload_line_of_text_line k) (flat_map payload_line_of_text_line ks)
    (record { lines = payload_line_of_text_line k ∷ []; before = λ rest. ended_line_is_first_physical_line (payload_line_of_text_line k) rest line.0 line.1; plain = (payload_line_has_no_leading_percent k, tt) })
    (payload_lines_are_whole_lines ks p.1)

payload_of_text_is_whole_lines : (text : List ℕ) → IsWholeLinesWithoutPercent (payload_of_text text)
payload_of_text_is_whole_lines text = let p = payload_text_lines_join_and_give_payload text in subst IsWholeLinesWithoutPercent (sym p.1) (payload_lines_are_whole_lines (payload_text_lines text) p.0)

-- an edit
spelling_of_edit_is_whole_lines : (edit : Edit) → IsSpellable edit → IsWholeLinesWithoutPercent (spelling_of_edit edit)
spelling_of_edit_is_whole_lines edit =
    property_of_texted_and_whole_edits_holds (λ e. IsSpellable e → IsWholeLinesWithoutPercent (spelling_of_edit e))
    (λ begun text n. subst IsWholeLinesWithoutPercent (sym (edit_spelling_is_command_line_and_payload (edit_completed_with_text begun text)))
    (appended_whole_lines_are_whole_lines (command_line_of_edit (edit_completed_with_text begun text)) (payload_lines_of_edit (edit_completed_with_text begun text)) (command_line_is_whole_line (edit_completed_with_text begun text) n)
    (subst IsWholeLinesWithoutPercent (sym (edit_with_text_has_its_command begun text).lines) (payload_of_text_is_whole_lines text))))
    (λ e said lines n. subst IsWholeLinesWithoutPercent (sym (edit_spelling_is_command_line_and_payload e)) (appended_whole_lines_are_whole_lines (command_line_of_edit e) (payload_lines_of_edit e) (command_line_is_whole_line e n) (subst IsWholeLinesWithoutPercent (sym lines) empty_text_is_whole_lines)))
    edit

-- edits, where this file is set
spelling_with_file_set_is_whole_lines : (last : ℕ) (edits : List Edit) → last + 1 ≤ 2 ^ 32 → AreSpellable edits → IsWholeLinesWithoutPercent (spelling_of_edits_with_file_set last edits)
spelling_with_file_set_is_whole_lines last [] fits n = empty_text_is_whole_lines
spelling_with_file_set_is_whole_lines last (edit ∷ edits) fits n =
    let rest : List ℕ = spelling_of_edits_with_file_set (file_number_set_after_edit last edit) edits in
    appended_whole_lines_are_whole_lines (file_line_before_edit last (file_number_named_by_edit edit)) (spelling_of_edit edit ++ rest) (file_line_before_edit_is_whole_lines last edit fits n.0)
    (appended_whole_lines_are_whole_lines (spelling_of_edit edit) rest (spelling_of_edit_is_whole_lines edit n.0) (spelling_with_file_set_is_whole_lines (file_number_set_after_edit last edit) edits (file_set_after_edit_fits last edit fits n.0.0) n.1))

spelling_of_edits_is_whole_lines : (edits : List Edit) → AreSpellable edits → IsWholeLinesWithoutPercent (spelling_of_edits edits)
spelling_of_edits_is_whole_lines edits n = spelling_with_file_set_is_whole_lines 0 edits (omega arith) n

whole_lines_are_physical_lines : (text : List ℕ) (w : IsWholeLinesWithoutPercent text) → physical_lines text ≡ w.lines
whole_lines_are_physical_lines text w = ap physical_lines (sym (append-nil text)) ∙ w.before [] ∙ append-nil w.lines

-- THE LAWS
pub spelling_is_split_before_any_text : (edits : List Edit) (rest : List ℕ) → AreSpellable edits → physical_lines (spelling_of_edits edits ++ rest) ≡ physical_lines (spelling_of_edits edits) ++ physical_lines rest
spelling_is_split_before_any_text edits rest n =
    let w = spelling_of_edits_is_whole_lines edits n in
    w.before rest ∙ ap (λ (ls : List (List ℕ)). ls ++ physical_lines rest) (sym (whole_lines_are_physical_lines (spelling_of_edits edits) w))

pub spelling_lines_have_no_leading_percent : (edits : List Edit) → AreSpellable edits → AllByRecursion (λ (line : List ℕ). slice_index line 0 ≢ 37) (physical_lines (spelling_of_edits edits))
spelling_lines_have_no_leading_percent edits n = let w = spelling_of_edits_is_whole_lines edits n in subst (AllByRecursion IsLineWithoutLeadingPercent) (sym (whole_lines_are_physical_lines (spelling_of_edits edits) w)) w.plain
