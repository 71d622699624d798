use Rattle.sudoers_undecided.proofs.Places.{flat_list_of_places, places_of_flat_list}
use Rattle.sudoers_undecided.proofs.laws.flat_list_with_places_is_flat.Goals as goal

pub returns-clause-flat : goal.returns-clause-flat
returns-clause-flat c k lines within members places f = flat_list_of_places k lines within members places f

pub returns-clause-placed : goal.returns-clause-placed
returns-clause-placed c k lines within members flat f = places_of_flat_list k lines members flat f within
