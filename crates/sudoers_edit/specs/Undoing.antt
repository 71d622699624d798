-- An edit taken back.
use Rattle.std.specs.Prelude.{◌≡◌, [], ◌∷◌, ◌++◌, Some, Ok}
use Rattle.sudoers_edit.specs.declared.editor.AppliedEditWithInverse.{AppliedEditWithInverse}
use Rattle.sudoers_edit.specs.Editing.{EditorState, step, inv, run}

-- The last edit of the journal is taken back, whole: the policy and the journal are those just before it. It comes first among
-- the undone edits.
pub record UndoesLastEdit (old new : EditorState) : Type 0 where
  pub last : AppliedEditWithInverse
  pub journal : old.journal ≡ new.journal ++ last ∷ []
  pub forth : step last.edit new.policy ≡ Ok old.policy
  pub inverse_is : last.inverse ≡ inv last.edit new.policy
  pub back : run last.inverse old.policy ≡ Some new.policy
  pub undone : new.undone ≡ last.edit ∷ old.undone
