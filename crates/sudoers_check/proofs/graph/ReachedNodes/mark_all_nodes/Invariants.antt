use Rattle.sudoers_check.proofs.Common.{MarksNodesAdded, length}
use Rattle.sudoers_check.proofs.graph.ReachedNodes.mark_all_nodes.Given as goal

abbrev pub invariant-loop-node : goal.invariant-loop-node
invariant-loop-node l = MarksNodesAdded (length l.initial.self.marks.items) l.initial.self.nodes.items l.initial.self.marks.items l.nodes l.node-index l.self.nodes.items l.self.marks.items
