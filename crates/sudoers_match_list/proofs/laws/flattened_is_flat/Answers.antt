use Rattle.sudoers_match_list.proofs.Known.{flat_is}
use Rattle.sudoers_match_list.proofs.laws.flattened_is_flat.Goals as goal

pub returns : goal.returns
returns c = flat_is
