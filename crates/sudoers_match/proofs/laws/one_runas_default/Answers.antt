use Rattle.sudoers_match.proofs.OneListing.{default_one}
use Rattle.sudoers_match.proofs.laws.one_runas_default.Goals as goal

pub returns : goal.returns
returns c = default_one
