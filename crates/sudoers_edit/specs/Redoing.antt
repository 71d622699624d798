-- An undone edit made again.
use Rattle.std.specs.Prelude.{◌≡◌, List, [], ◌∷◌, ◌++◌, Ok}
use Rattle.sudoers_edit_script.specs.declared.edit.Edit.{Edit}
use Rattle.sudoers_edit.specs.Editing.{EditorState, step, inv}

-- The first of the undone edits is made again, whole: the policy is that to which it leads, and the journal grows by it with
-- what takes it back. It is no longer among the undone edits.
pub record RedoesLastUndone (old new : EditorState) : Type 0 where
  pub edit : Edit
  pub undone : old.undone ≡ edit ∷ new.undone
  pub forth : step edit old.policy ≡ Ok new.policy
  pub journal : new.journal ≡ old.journal ++ record { edit = edit; inverse = inv edit old.policy } ∷ []

-- the undone edits that are left after these edits were made: none, if any edit was made
abbrev pub undone_edits_after_edits : List Edit → List Edit → List Edit
undone_edits_after_edits [] undone = undone
undone_edits_after_edits (edit ∷ edits) undone = []
