use Rattle.sudoers_match_list.proofs.Said.{negated}
use Rattle.sudoers_match_list.proofs.laws.negated_is_opposite.Goals as goal

pub returns : goal.returns
returns c = negated
