use Rattle.sudoers_list.proofs.Ruled.{group_of_answer_is_among_matching}
use Rattle.sudoers_match.specs.Answer.{is_request_command_match}
use Rattle.sudoers_list.proofs.laws.deciding_rule_is_listed.Goals as goal

pub returns : goal.returns
returns c lines request = group_of_answer_is_among_matching lines (is_request_command_match request) request
