-- A device of the proof, which no public contract cites: an edit of the files of a policy that is made.
use Rattle.std.specs.Prelude.{◌≡◌, List, Some, Result, Ok, Err}
use Rattle.sudoers_tree.specs.Load.{LoadedPolicy}
use Rattle.sudoers_edit_script.specs.declared.edit.Edit.{Edit}
use Rattle.sudoers_edit.specs.declared.fault.EditFault.{EditFault}
use Rattle.sudoers_edit.specs.Editing.{IsRefusalOrNoMemory, step, inv, run}

-- The edit has led to the new policy, and these edits lead back.
pub record IsEditMade (edit : Edit) (inverse : List Edit) (old new : LoadedPolicy) : Type 0 where
  pub forth : step edit old ≡ Ok new
  pub inverse_is : inverse ≡ inv edit old
  pub back : run inverse new ≡ Some old

-- what comes of an edit: the edits that take it back, or its refusal
abbrev pub IsEditOutcome : Edit → LoadedPolicy → LoadedPolicy → Result (List Edit) EditFault → Type 0
IsEditOutcome edit old new (Ok inverse) = IsEditMade edit inverse old new
IsEditOutcome edit old new (Err fault) = IsRefusalOrNoMemory fault (step edit old)
