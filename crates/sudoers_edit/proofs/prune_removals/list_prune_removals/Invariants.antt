use Rattle.sudoers_edit.proofs.Common.{All, Kind, Place, drop, line_of_row, map, removals_along_places, ◌++◌, ◌<◌, ◌^◌, ◌≡◌}
use Rattle.sudoers_edit.proofs.prune_removals.list_prune_removals.Given as goal

abbrev pub invariant-loop-number : goal.invariant-loop-number
invariant-loop-number l =
    (l.removals.items ++ removals_along_places l.policy.walk l.number (map (line_of_row l.lines.tables.now) (drop l.number l.row-items)) l.rest
    ≡ removals_along_places l.policy.walk 0 (map (line_of_row l.lines.tables.now) l.row-items) l.initial.rest)
    × All (λ (p : Kind × Place). p.1.def < 2 ^ 32) l.rest
