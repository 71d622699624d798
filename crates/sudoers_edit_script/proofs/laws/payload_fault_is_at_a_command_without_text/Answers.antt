use Rattle.sudoers_edit_script.proofs.FrontLemmas.{missing_payload_line_ends_incomplete}
use Rattle.sudoers_edit_script.proofs.laws.payload_fault_is_at_a_command_without_text.Goals as goal

pub returns : goal.returns
returns c = missing_payload_line_ends_incomplete
