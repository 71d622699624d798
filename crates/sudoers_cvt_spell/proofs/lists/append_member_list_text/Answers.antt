use Rattle.std.proofs.Common.{arith}
use Rattle.std.proofs.lemmas.Grind.{common_steps}
use Rattle.sudoers_cvt_spell.proofs.Fronts.{front_of_front_is_front}
use Rattle.sudoers_cvt_spell.proofs.lists.append_member_list_text.Goals as goal

pub loop-row-preserved : goal.loop-row-preserved
loop-row-preserved c =
    (grind (arith, common_steps), front_of_front_is_front _ _ _ (front_of_front_is_front _ _ _ c.loop-row.invariant.1 c.in_ok-append_bytes.ensures.front) c.in_ok-append_member_text_without_separator-2.ensures.front)
