use Rattle.sudoers_list.proofs.Ruled.{answer_has_deciding_rule}
use Rattle.sudoers_match.specs.Answer.{is_request_command_match}
use Rattle.sudoers_list.proofs.laws.answer_has_rule.Goals as goal

pub returns : goal.returns
returns c lines request = answer_has_deciding_rule lines (is_request_command_match request) request
