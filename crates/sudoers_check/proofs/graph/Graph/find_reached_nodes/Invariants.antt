use Rattle.sudoers_check.proofs.Common.{IsPartialReachSearch, length, ◌-◌}
use Rattle.sudoers_check.proofs.graph.Graph.find_reached_nodes.Given as goal

abbrev pub invariant-loop-next : goal.invariant-loop-next
invariant-loop-next l = IsPartialReachSearch l.self l.from l.found.nodes.items l.found.marks.items l.next

abbrev pub decreases-loop-next : goal.decreases-loop-next
decreases-loop-next l = length l.self - l.next
