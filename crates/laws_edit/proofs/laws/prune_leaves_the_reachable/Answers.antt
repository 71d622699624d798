use Rattle.laws_edit.proofs.PrunedLines.{reachable_left}
use Rattle.laws_edit.proofs.laws.prune_leaves_the_reachable.Goals as goal

pub returns : goal.returns
returns c = λ policy new loaded is.
    reachable_left policy.walk.lines c.chains_are.ensures.unused c.chains_are.ensures.used new.walk.lines (c.prune_leaves_the_used.ensures policy new loaded is)
