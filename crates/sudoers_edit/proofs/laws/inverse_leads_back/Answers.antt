use Rattle.sudoers_edit.proofs.InverseLaw.{inverse_of_inverse_run_is_as_long}
use Rattle.sudoers_edit.proofs.LawsApplied.{accepted_edits_restore_by_inverse}
use Rattle.sudoers_edit.proofs.laws.inverse_leads_back.Goals as goal

pub returns-clause-back : goal.returns-clause-back
returns-clause-back c = accepted_edits_restore_by_inverse

pub returns-clause-count : goal.returns-clause-count
returns-clause-count c = inverse_of_inverse_run_is_as_long
