use Rattle.sudoers_edit.proofs.Common.{IsPartialPrune, drop, reverse}
use Rattle.sudoers_edit.specs.internal.LineCuts.{IsLastCutLineKnown}
use Rattle.sudoers_edit.proofs.prune_plan.plan_prune.Given as goal

abbrev pub invariant-loop-removal : goal.invariant-loop-removal
invariant-loop-removal l =
    IsPartialPrune l.policy (drop l.removal-index l.removal-items) l.removal-items (reverse l.changes.items) (reverse l.inverse.items)
    × IsLastCutLineKnown (reverse l.changes.items) l.last
