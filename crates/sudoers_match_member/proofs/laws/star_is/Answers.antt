use Rattle.sudoers_match_member.proofs.Splits.{star_match_is_run_and_rest_match}
use Rattle.sudoers_match_member.proofs.laws.star_is.Goals as goal

pub returns : goal.returns
returns c = star_match_is_run_and_rest_match
