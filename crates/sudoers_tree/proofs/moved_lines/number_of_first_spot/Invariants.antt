use Rattle.std.proofs.Common.{false, take, ◌≡◌}
use Rattle.std.specs.List.{list_any}
use Rattle.sudoers_tree.specs.internal.InPlace.{is_spot_of_line}
use Rattle.sudoers_tree.proofs.moved_lines.number_of_first_spot.Given as goal

abbrev pub invariant-loop-number : goal.invariant-loop-number
invariant-loop-number l = list_any (is_spot_of_line l.file l.line) (take l.number l.spots) ≡ false
