use Rattle.sudoers_match_list.proofs.Unique.{one_flat as the_law}
use Rattle.sudoers_match_list.proofs.laws.one_flat.Goals as goal

pub returns : goal.returns
returns c = the_law
