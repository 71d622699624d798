use Rattle.sudoers_match_list.proofs.Said.{no_hit}
use Rattle.sudoers_match_list.proofs.laws.no_hit_is_unsaid.Goals as goal

pub returns : goal.returns
returns c = no_hit
