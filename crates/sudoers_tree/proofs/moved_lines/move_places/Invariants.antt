use Rattle.std.proofs.Common.{drop, map, take, ◌++◌, ◌≡◌}
use Rattle.sudoers_tree.specs.internal.InPlace.{moved_place}
use Rattle.sudoers_tree.proofs.moved_lines.move_places.Given as goal

abbrev pub invariant-loop-number : goal.invariant-loop-number
invariant-loop-number l = l.places ≡ map (moved_place l.from l.by) (take l.number l.fn.places) ++ drop l.number l.fn.places
