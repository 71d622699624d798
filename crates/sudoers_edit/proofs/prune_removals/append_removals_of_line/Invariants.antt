use Rattle.sudoers_edit.proofs.Common.{Kind, Place, drop, map, ◌++◌, ◌≡◌}
use Rattle.sudoers_edit.specs.declared.prune_removals.PruneRemoval.TheVariants as removal
use Rattle.sudoers_edit.proofs.prune_removals.append_removals_of_line.Given as goal

abbrev pub invariant-loop-place : goal.invariant-loop-place
invariant-loop-place l =
    l.removals.items ++ map (λ (q : Kind × Place). removal.Def l.at.file l.at.line q.1.def) (drop l.place-index l.here)
    ≡ l.initial.removals.items ++ map (λ (q : Kind × Place). removal.Def l.at.file l.at.line q.1.def) l.here
