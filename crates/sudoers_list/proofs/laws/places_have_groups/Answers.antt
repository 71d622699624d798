use Rattle.sudoers_list.proofs.Ruled.{matching_place_has_host_group}
use Rattle.sudoers_list.proofs.laws.places_have_groups.Goals as goal

pub returns : goal.returns
returns c = matching_place_has_host_group
