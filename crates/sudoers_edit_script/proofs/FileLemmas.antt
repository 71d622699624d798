-- The `file` lines of a spelling.
use Rattle.std.specs.Prelude.{if◌then◌else◌}
use Rattle.std.proofs.Common.{◌≡◌, ◌⊎◌, ℕ, ◌+◌, ◌≤◌, ◌^◌, Bool, false, ◌==◌, List, [], ◌∷◌, ◌++◌, Option, Some, None, refl, sym, ap, ◌∙◌, inl, inr, append_assoc}
use Rattle.std.specs.Option.{unwrap_or}
use Rattle.std.proofs.lemmas.Bool.{cases_Bool, eqb-true, eq-eqb}
use Rattle.sudoers_edit_script.specs.Physical.{physical_lines}
use Rattle.sudoers_edit_script.specs.Script.{payload_lines_of_edit, spelling_of_edit, file_number_named_by_edit, script_line_setting_file_number, file_line_before_edit, file_number_set_after_edit, spelling_of_edits_with_file_set, HasFittingNumbers, IsSpellable}
use Rattle.sudoers_edit_script.specs.ScriptReading.{edit_completed_with_text}
use Rattle.sudoers_edit_script.specs.declared.edit_awaiting_text.EditAwaitingText.{EditAwaitingText}
use Rattle.sudoers_edit_script.specs.declared.edit.Edit.{Edit}
use Rattle.sudoers_edit_script.specs.declared.edit.Edit.TheVariants.{Insert, Delete, Move, AddMember, DropMember, AddDef, DropDef, Rename, EndLine, OpenEnd, Prune}
use Rattle.sudoers_edit_script.proofs.LineLemmas.{command_line_of_edit, edit_with_text_has_its_command, edit_spelling_is_command_line_and_payload, command_line_is_first_physical_line}

-- Before a command in this file, or in none, no `file` line stands: the file is set, or it needs none.
pub record NeedsNoFileLine (last : ℕ) (file : Option ℕ) : Type 0 where
  pub none : file_line_before_edit last file ≡ []
  pub same : unwrap_or file last ≡ last

-- A `file` line stands before it.
pub record NeedsFileLine (last : ℕ) (file : Option ℕ) : Type 0 where
  pub to : ℕ
  pub is : file ≡ Some to
  pub other : (to == last) ≡ false
  pub line : file_line_before_edit last file ≡ script_line_setting_file_number to

-- one of both
pub edit_needs_file_line_or_none : (last : ℕ) (file : Option ℕ) → NeedsNoFileLine last file ⊎ NeedsFileLine last file
edit_needs_file_line_or_none last None = inl (record { none = refl; same = refl })
edit_needs_file_line_or_none last (Some file) =
    elim (cases_Bool (file == last)) [
      | inl t ↦ inl (record { none = rw t refl; same = eqb-true file last t })
      | inr f ↦ inr (record { to = file; is = refl; other = f; line = rw f refl })
    ]

-- no `file` line stands before the command of an edit that leaves the file that is set
set_file_needs_no_file_line : (last : ℕ) (file : Option ℕ) → unwrap_or file last ≡ last → file_line_before_edit last file ≡ []
set_file_needs_no_file_line last None same = refl
set_file_needs_no_file_line last (Some file) same = rw (eq-eqb file last same) refl

-- so its edits are spelled behind it
pub edit_in_set_file_is_spelled_directly : (last : ℕ) (edit : Edit) (edits : List Edit) → file_number_set_after_edit last edit ≡ last
    → spelling_of_edits_with_file_set last (edit ∷ edits) ≡ spelling_of_edit edit ++ spelling_of_edits_with_file_set last edits
edit_in_set_file_is_spelled_directly last edit edits same =
    ap (λ (z : List ℕ). z ++ (spelling_of_edit edit ++ spelling_of_edits_with_file_set (file_number_set_after_edit last edit) edits)) (set_file_needs_no_file_line last (file_number_named_by_edit edit) same)
    ∙ ap (λ (f : ℕ). spelling_of_edit edit ++ spelling_of_edits_with_file_set f edits) same

-- There is a first edit, and it names lines of this file, or of none.
abbrev pub IsFileOfFirstEdit : Option ℕ → List Edit → Type 0
IsFileOfFirstEdit file [] = ⊥
IsFileOfFirstEdit file (edit ∷ edits) = file_number_named_by_edit edit ≡ file

-- edits that begin in another file than the one that is set begin with a `file` line
pub edit_in_other_file_needs_file_line : (last file : ℕ) (edits : List Edit) → IsFileOfFirstEdit (Some file) edits → (file == last) ≡ false
    → spelling_of_edits_with_file_set last edits ≡ script_line_setting_file_number file ++ spelling_of_edits_with_file_set file edits
edit_in_other_file_needs_file_line last file [] first other = absurd first
edit_in_other_file_needs_file_line last file (edit ∷ edits) first other =
    let spelled : Option ℕ → ℕ → List ℕ = λ o set. file_line_before_edit set o ++ (spelling_of_edit edit ++ spelling_of_edits_with_file_set (unwrap_or o set) edits) in
    let rest : List ℕ = spelling_of_edit edit ++ spelling_of_edits_with_file_set file edits in
    ap (λ (o : Option ℕ). spelled o last) first
    ∙ ap (λ (b : Bool). (if b then [] else script_line_setting_file_number file) ++ rest) other
    ∙ sym (ap (λ (z : List ℕ). script_line_setting_file_number file ++ z) (
    ap (λ (o : Option ℕ). spelled o file) first
    ∙ ap (λ (b : Bool). (if b then [] else script_line_setting_file_number file) ++ rest) (eq-eqb file file refl)
    ))

-- the number of the file that is set after an edit fits
pub file_set_after_edit_fits : (last : ℕ) (edit : Edit) → last + 1 ≤ 2 ^ 32 → HasFittingNumbers edit → file_number_set_after_edit last edit + 1 ≤ 2 ^ 32
file_set_after_edit_fits last (Insert file at text) fits h = h.0
file_set_after_edit_fits last (Delete file at) fits h = h.0
file_set_after_edit_fits last (Move file from to) fits h = h.0
file_set_after_edit_fits last (AddMember kind name at splice) fits h = fits
file_set_after_edit_fits last (DropMember kind name at) fits h = fits
file_set_after_edit_fits last (AddDef file line at splice) fits h = h.0
file_set_after_edit_fits last (DropDef file line at) fits h = h.0
file_set_after_edit_fits last (Rename kind name fresh) fits h = fits
file_set_after_edit_fits last (EndLine file) fits h = h
file_set_after_edit_fits last (OpenEnd file) fits h = h
file_set_after_edit_fits last Prune fits h = fits

-- the file that a `file` line sets before a command is that of its edit
pub file_line_sets_file_of_its_edit : (last : ℕ) (edit : Edit) (s : NeedsFileLine last (file_number_named_by_edit edit)) → file_number_set_after_edit last edit ≡ s.to
file_line_sets_file_of_its_edit last edit s = ap (λ (o : Option ℕ). unwrap_or o last) s.is

-- the file that an edit with a text leaves is that of its command
pub text_of_edit_keeps_file_set : (last : ℕ) (begun : EditAwaitingText) (text : List ℕ) → file_number_set_after_edit last (edit_completed_with_text begun []) ≡ last → file_number_set_after_edit last (edit_completed_with_text begun text) ≡ last
text_of_edit_keeps_file_set last begun text same = ap (λ (file : Option ℕ). unwrap_or file last) (edit_with_text_has_its_command begun text).file ∙ same

-- the first line of an edit's spelling, before anything
pub edit_spelling_begins_with_command_line : (edit : Edit) (rest : List ℕ) → IsSpellable edit
    → physical_lines (spelling_of_edit edit ++ rest) ≡ command_line_of_edit edit ∷ physical_lines (payload_lines_of_edit edit ++ rest)
edit_spelling_begins_with_command_line edit rest h =
    ap (λ (z : List ℕ). physical_lines (z ++ rest)) (edit_spelling_is_command_line_and_payload edit)
    ∙ ap physical_lines (append_assoc (command_line_of_edit edit) (payload_lines_of_edit edit) rest)
    ∙ command_line_is_first_physical_line edit (payload_lines_of_edit edit ++ rest) h
