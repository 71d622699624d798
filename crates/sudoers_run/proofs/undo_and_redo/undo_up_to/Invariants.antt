use Rattle.std.proofs.Common.{◌≡◌, ◌+◌, length}
use Rattle.sudoers_edit.specs.Editing.{initial_policy_of_editor}
use Rattle.sudoers_run.proofs.UndoLemmas.{made_and_undone_edits}
use Rattle.sudoers_run.proofs.undo_and_redo.undo_up_to.Given as goal

abbrev pub invariant-loop : goal.invariant-loop
invariant-loop l =
    (initial_policy_of_editor l.editor ≡ initial_policy_of_editor l.fn.editor)
    × (made_and_undone_edits l.editor ≡ made_and_undone_edits l.fn.editor)
    × (length l.editor.journal + l.counter ≡ length l.fn.editor.journal)
