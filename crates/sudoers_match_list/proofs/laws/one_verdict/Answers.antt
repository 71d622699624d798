use Rattle.sudoers_match_list.proofs.Said.{one}
use Rattle.sudoers_match_list.proofs.laws.one_verdict.Goals as goal

pub returns : goal.returns
returns c = one
