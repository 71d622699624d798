use Rattle.laws_edit.proofs.OtherFiles.{accepted_edit_keeps_other_files}
use Rattle.laws_edit.proofs.laws.edits_keep_other_files.Goals as goal

pub returns : goal.returns
returns c = accepted_edit_keeps_other_files c.rename_is_taken_back.ensures.are
