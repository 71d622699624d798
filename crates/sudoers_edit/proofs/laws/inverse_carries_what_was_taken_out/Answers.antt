use Rattle.sudoers_edit.proofs.Common.{loaded_policy_keeps_names_and_bytes}
use Rattle.sudoers_edit.proofs.PayloadLaw.{inverse_payload_is_size_taken_out, inverse_of_keeping_edit_has_no_payload}
use Rattle.sudoers_edit.proofs.LawsApplied.{accepted_edits_restore_by_inverse}
use Rattle.sudoers_edit.proofs.laws.inverse_carries_what_was_taken_out.Goals as goal

pub returns-clause-taken : goal.returns-clause-taken
returns-clause-taken c = inverse_payload_is_size_taken_out loaded_policy_keeps_names_and_bytes accepted_edits_restore_by_inverse

pub returns-clause-none : goal.returns-clause-none
returns-clause-none c = inverse_of_keeping_edit_has_no_payload
