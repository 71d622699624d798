use Rattle.sudoers_edit.proofs.Common.{arith}
use Rattle.std.proofs.lemmas.Grind.{common_steps}
use Rattle.sudoers_edit.proofs.LawsApplied.{inverse_of_made_changes_restores_policy}
use Rattle.sudoers_edit.proofs.edits_in_place.make_edit_in_place.Goals as goal

pub returns-clause-made : goal.returns-clause-made
returns-clause-made c =
    let back =
    inverse_of_made_changes_restores_policy c.args.policy.now c.carry_out_plan.new.policy c.in-Ok.plan.changes.items c.is_loaded.ensures c.in-Ok.ensures.fits c.in_ok-inverse.ensures.loaded in
    grind (arith, common_steps)
