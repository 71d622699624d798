use Rattle.std.proofs.Common.{drop, map, take, ◌++◌, ◌≡◌}
use Rattle.sudoers_tree.specs.internal.InPlace.{moved_spot}
use Rattle.sudoers_tree.proofs.moved_lines.move_spots.Given as goal

abbrev pub invariant-loop-number : goal.invariant-loop-number
invariant-loop-number l = l.spots ≡ map (moved_spot l.file l.from l.by) (take l.number l.fn.spots) ++ drop l.number l.fn.spots
