use Rattle.sudoers_match.proofs.OneListing.{places_one}
use Rattle.sudoers_match.proofs.laws.one_list_of_host_groups.Goals as goal

pub returns : goal.returns
returns c = places_one
