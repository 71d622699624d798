use Rattle.sudoers_match_list.proofs.Alike.{alike_lists_lead_to_same_cycle}
use Rattle.sudoers_match_list.proofs.Exists.{list_is_flat_or_leads_to_cycle}
use Rattle.sudoers_match_list.proofs.Known.{no_cycle}
use Rattle.sudoers_match_list.proofs.laws.alike_lists_lead_to_cycle.Goals as goal

pub returns : goal.returns
returns c write k lines others ms ns here there =
    alike_lists_lead_to_same_cycle list_is_flat_or_leads_to_cycle write k lines others ms ns (no_cycle k lines here) (no_cycle k others there)
