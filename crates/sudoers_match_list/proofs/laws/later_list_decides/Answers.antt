use Rattle.sudoers_match_list.proofs.Said.{lists}
use Rattle.sudoers_match_list.proofs.laws.later_list_decides.Goals as goal

pub returns : goal.returns
returns c = lists
