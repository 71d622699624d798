use Rattle.sudoers_match_list.proofs.Exists.{list_is_flat_or_leads_to_cycle}
use Rattle.sudoers_match_list.proofs.laws.flat_or_cycle.Goals as goal

pub returns : goal.returns
returns c = list_is_flat_or_leads_to_cycle
