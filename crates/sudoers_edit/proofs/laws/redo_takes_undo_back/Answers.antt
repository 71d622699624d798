use Rattle.sudoers_edit.proofs.RedoLemmas.{redo_restores_undone_editor}
use Rattle.sudoers_edit.proofs.laws.redo_takes_undo_back.Goals as goal

pub returns : goal.returns
returns c = redo_restores_undone_editor
