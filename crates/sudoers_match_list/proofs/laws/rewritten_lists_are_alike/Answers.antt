use Rattle.sudoers_match_list.proofs.Alike.{rewritten_lists_have_same_flat_list}
use Rattle.sudoers_match_list.proofs.laws.rewritten_lists_are_alike.Goals as goal

pub returns : goal.returns
returns c = rewritten_lists_have_same_flat_list
