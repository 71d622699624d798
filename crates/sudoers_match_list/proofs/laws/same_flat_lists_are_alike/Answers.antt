use Rattle.sudoers_match_list.proofs.Alike.{lists_of_rewritten_flat_list_are_alike}
use Rattle.sudoers_match_list.proofs.laws.same_flat_lists_are_alike.Goals as goal

pub returns : goal.returns
returns c = lists_of_rewritten_flat_list_are_alike
