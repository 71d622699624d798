-- The edits that stand after some were taken back, and some of these made again.
use Rattle.std.proofs.Common.{◌≡◌, ◌∙◌, ℕ, ◌+◌, ◌-◌, List, [], ◌∷◌, ◌++◌, length, min, take, refl, sym, ap, length-append, arith}
use Rattle.std.proofs.lemmas.List.{length-map}
use Rattle.std.proofs.Math.Seq.{take-append_seam}
use Rattle.sudoers_edit_script.specs.declared.edit.Edit.{Edit}
use Rattle.sudoers_edit.specs.declared.editor.AppliedEditWithInverse.{AppliedEditWithInverse}
use Rattle.sudoers_edit.specs.Editing.{edits_of_entries, EditorState}
use Rattle.sudoers_edit.specs.Named.{HaveSpellableNames}
use Rattle.sudoers_edit.specs.Redoing.{undone_edits_after_edits}
use Rattle.sudoers_run.specs.Edit.{edit_count_after_undo_redo, edits_after_undo_and_redo}

-- the edits that stand, with the undone ones behind them
abbrev pub made_and_undone_edits : EditorState → List Edit
made_and_undone_edits desk = edits_of_entries desk.journal ++ desk.undone

-- AN EDIT TAKEN BACK

-- AN EDIT MADE AGAIN

-- ALL OF THEM

pub no_undone_edits_stay_none_after_edits : (edits : List Edit) → undone_edits_after_edits edits [] ≡ []
no_undone_edits_stay_none_after_edits [] = refl
no_undone_edits_stay_none_after_edits (edit ∷ edits) = refl

made_and_undone_edits_are_counted : (desk : EditorState) → length (made_and_undone_edits desk) ≡ length desk.journal + length desk.undone
made_and_undone_edits_are_counted desk = length-append (edits_of_entries desk.journal) desk.undone ∙ ap (λ n. n + length desk.undone) (length-map desk.journal (λ (x : AppliedEditWithInverse). x.edit))

-- All edits were made, then some were taken back, and then some of these made again.
pub journal_is_edits_after_undo_and_redo : (undo redo : ℕ) (edits : List Edit) (made undone redone : EditorState) → made_and_undone_edits made ≡ edits → made.undone ≡ []
    → made_and_undone_edits undone ≡ made_and_undone_edits made → length undone.journal ≡ length made.journal - min undo (length made.journal)
    → made_and_undone_edits redone ≡ made_and_undone_edits undone → length redone.journal ≡ length undone.journal + min redo (length undone.undone)
    → edits_of_entries redone.journal ≡ edits_after_undo_and_redo undo redo edits
journal_is_edits_after_undo_and_redo undo redo edits made undone redone are none same count again more =
    let whole : edits_of_entries redone.journal ++ redone.undone ≡ edits = again ∙ same ∙ are in
    let size : length edits ≡ length made.journal = ap length (sym are) ∙ made_and_undone_edits_are_counted made ∙ ap (λ z. length made.journal + length z) none ∙ omega arith in
    let left : length undone.journal + length undone.undone ≡ length edits = sym (made_and_undone_edits_are_counted undone) ∙ ap length (same ∙ are) in
    let behind : length undone.undone ≡ min undo (length edits) = omega arith in
    let many : length redone.journal ≡ edit_count_after_undo_redo undo redo (length edits) =
    more ∙ ap (λ n. length undone.journal + min redo n) behind ∙ ap (λ n. n + min redo (min undo (length edits))) (count ∙ ap (λ n. n - min undo n) (sym size)) in
    sym (take-append_seam (edits_of_entries redone.journal) redone.undone)
    ∙ ap (λ z. take (length (edits_of_entries redone.journal)) z) whole
    ∙ ap (λ n. take n edits) (length-map redone.journal (λ (x : AppliedEditWithInverse). x.edit) ∙ many)

-- the first of named edits are named
pub leading_edits_have_spellable_names : (edits rest : List Edit) → HaveSpellableNames (edits ++ rest) → HaveSpellableNames edits
leading_edits_have_spellable_names [] rest named = tt
leading_edits_have_spellable_names (edit ∷ edits) rest named = (named.0, leading_edits_have_spellable_names edits rest named.1)
