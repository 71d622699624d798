use Rattle.sudoers_list.proofs.OneReason.{reason_text_is_unique}
use Rattle.sudoers_match.specs.Answer.{is_request_command_match}
use Rattle.sudoers_list.proofs.laws.one_reason.Goals as goal

pub returns : goal.returns
returns c policy request = reason_text_is_unique c.one_runas_default.ensures policy (is_request_command_match request) request
