use Rattle.sudoers_match_list.proofs.Unique.{one_flat}
use Rattle.sudoers_match.proofs.OneAnswer.{answer_to_request_is_unique}
use Rattle.sudoers_match.proofs.laws.one_answer.Goals as goal

pub returns : goal.returns
returns c = answer_to_request_is_unique one_flat
