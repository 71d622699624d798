use Rattle.sudoers_match_list.proofs.Alike.{list_without_aliases_is_flat}
use Rattle.sudoers_match_list.proofs.laws.alias_free_list_is_flat.Goals as goal

pub returns : goal.returns
returns c = list_without_aliases_is_flat
