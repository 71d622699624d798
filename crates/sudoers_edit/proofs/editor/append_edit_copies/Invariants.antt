use Rattle.sudoers_edit.proofs.Common.{take, ◌++◌, ◌≡◌}
use Rattle.sudoers_edit.proofs.editor.append_edit_copies.Given as goal

abbrev pub invariant-loop-edit : goal.invariant-loop-edit
invariant-loop-edit l = l.to ≡ l.initial.to ++ take l.edit-index l.from
