use Rattle.std.proofs.Common.{arith}
use Rattle.sudoers_cvt_spell.proofs.Fronts.{text_cut_to_its_front}
use Rattle.sudoers_cvt_spell.proofs.all_or_nothing_appends.append_printed_member_list.Goals as goal

pub returns-in-Err-clause-kept : goal.returns-in-Err-clause-kept
returns-in-Err-clause-kept c = text_cut_to_its_front _ _ _ _ c.truncate.ensures.items (omega arith) c.append_member_list_text.ensures.front
