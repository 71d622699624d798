use Rattle.laws_print.proofs.Kept.{changing_negation_keeps_member_writable, filtered_members_stay_writable_list}
use Rattle.laws_print.proofs.laws.writable_is_kept.Goals as goal

pub returns-clause-sign : goal.returns-clause-sign
returns-clause-sign c = changing_negation_keeps_member_writable

pub returns-clause-fewer : goal.returns-clause-fewer
returns-clause-fewer c = filtered_members_stay_writable_list
