-- Undone edits, and an edit that is taken back and then made again.
use Rattle.sudoers_edit.proofs.Common.{Edit, EditFault, EditorState, AppliedEditWithInverse, List, LoadedPolicy, Ok, RedoesLastUndone, Result, [], ap, inv, refl, step, sym, undone_edits_after_edits, ◌++◌, ◌∙◌, ◌∷◌, ◌≡◌}
use Rattle.sudoers_edit.specs.Undoing.{UndoesLastEdit}

abbrev editor_of_policy_and_journal : LoadedPolicy → List AppliedEditWithInverse → List Edit → EditorState
editor_of_policy_and_journal lines journal undone = record { policy = lines; journal = journal; undone = undone }

editors_of_equal_parts_are_equal : (a b : EditorState) → a.policy ≡ b.policy → a.journal ≡ b.journal → a.undone ≡ b.undone → a ≡ b
editors_of_equal_parts_are_equal a b lines journal undone =
    ap (λ z. editor_of_policy_and_journal z a.journal a.undone) lines ∙ ap (λ z. editor_of_policy_and_journal b.policy z a.undone) journal ∙ ap (λ z. editor_of_policy_and_journal b.policy b.journal z) undone

abbrev accepted_policy : LoadedPolicy → Result LoadedPolicy EditFault
accepted_policy lines = Ok lines

abbrev journal_entry_of_edit : Edit → List Edit → AppliedEditWithInverse
journal_entry_of_edit edit inverse = record { edit = edit; inverse = inverse }

-- an edit that is taken back and then made again leaves all as it was
pub redo_restores_undone_editor : (old mid new : EditorState) → UndoesLastEdit old mid → RedoesLastUndone mid new → new ≡ old
redo_restores_undone_editor old mid new taken made =
    let both : made.edit ∷ new.undone ≡ taken.last.edit ∷ old.undone = sym made.undone ∙ taken.undone in
    let edit : made.edit ≡ taken.last.edit = cc in
    let undone : new.undone ≡ old.undone = cc in
    let leads : accepted_policy new.policy ≡ accepted_policy old.policy = sym made.forth ∙ ap (λ e. step e mid.policy) edit ∙ taken.forth in
    let lines : new.policy ≡ old.policy = cc in
    let last : journal_entry_of_edit made.edit (inv made.edit mid.policy) ≡ taken.last =
    ap (λ e. journal_entry_of_edit e (inv e mid.policy)) edit ∙ ap (journal_entry_of_edit taken.last.edit) (sym taken.inverse_is) in
    let journal : new.journal ≡ old.journal = made.journal ∙ ap (λ e. mid.journal ++ e ∷ []) last ∙ sym taken.journal in
    editors_of_equal_parts_are_equal new old lines journal undone

-- after an edit that was made, none is left
pub undone_edits_after_edit_are_none : (made : List Edit) (edit : Edit) (undone : List Edit) → undone_edits_after_edits (made ++ edit ∷ []) undone ≡ []
undone_edits_after_edit_are_none [] edit undone = refl
undone_edits_after_edit_are_none (first ∷ made) edit undone = refl
