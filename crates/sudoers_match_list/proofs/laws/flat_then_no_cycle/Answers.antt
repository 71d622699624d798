use Rattle.sudoers_match_list.proofs.Known.{no_cycle}
use Rattle.sudoers_match_list.proofs.laws.flat_then_no_cycle.Goals as goal

pub returns : goal.returns
returns c = no_cycle
