use Rattle.sudoers_match_list.proofs.Alike.{verdicts_alike}
use Rattle.sudoers_match_list.proofs.laws.alike_lists_say_same.Goals as goal

pub returns : goal.returns
returns c = verdicts_alike
