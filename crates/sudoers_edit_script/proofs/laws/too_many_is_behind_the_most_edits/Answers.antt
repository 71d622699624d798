use Rattle.sudoers_edit_script.proofs.FrontLemmas.{too_many_fault_has_max_edits_before}
use Rattle.sudoers_edit_script.proofs.laws.too_many_is_behind_the_most_edits.Goals as goal

pub returns : goal.returns
returns c = too_many_fault_has_max_edits_before
