use Rattle.sudoers_edit.proofs.Common.{Edit, EditorState, JournalStep, List, ap, entries_of_steps, reverse, subst, ◌∙◌}
use Rattle.std.proofs.Common.{IfOk}
use Rattle.std.proofs.lemmas.Result.{IfOk-weaker}
use Rattle.std.specs.List.{flat_map}
use Rattle.sudoers_edit.proofs.JournalLemmas.{inverses_of_steps_are_those_of_entries}
use Rattle.sudoers_edit.proofs.HistoryLemmas.{UndoesWholeJournal, inverses_of_journal_undo_editor}
use Rattle.sudoers_edit.proofs.editor.Editor.inverse.Goals as goal

-- the inverses_of edits take back all that stand
told : (c : goal.After-inverses_of_journal) → IfOk c.inverses_of_journal.result (λ (edits : List Edit). UndoesWholeJournal c.args.self.now edits)
told c =
    let desk : EditorState = record { policy = c.self.inside.policy; journal = entries_of_steps c.self.inside.journal.items; undone = reverse c.self.inside.undone.items } in
    subst (λ (d : EditorState). IfOk c.inverses_of_journal.result (λ (edits : List Edit). UndoesWholeJournal d edits)) c.self.view_is
    (IfOk-weaker c.inverses_of_journal.result _ _ (λ (edits : List Edit) is.
    inverses_of_journal_undo_editor desk c.self.invariant.0 edits (is
    ∙ ap (λ (steps : List JournalStep). flat_map (λ (one : JournalStep). one.entry.inverse) (reverse steps)) c.as_slice.ensures.value
    ∙ inverses_of_steps_are_those_of_entries c.self.inside.journal.items)) c.inverses_of_journal.ensures)

pub returns-clause-exact : goal.returns-clause-exact
returns-clause-exact c = IfOk-weaker c.inverses_of_journal.result _ _ (λ (edits : List Edit) back. back.exact) (told c)

pub returns-clause-restores : goal.returns-clause-restores
returns-clause-restores c = IfOk-weaker c.inverses_of_journal.result _ _ (λ (edits : List Edit) back. back.restores) (told c)

pub returns-clause-accepted : goal.returns-clause-accepted
returns-clause-accepted c = IfOk-weaker c.inverses_of_journal.result _ _ (λ (edits : List Edit) back. back.accepted) (told c)
