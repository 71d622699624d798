use Rattle.sudoers_check.proofs.Common.{AreNodesOfGraph, HasAllEdgeTargetsInGraph, arith, edge_targets_of_node, subst, sym, ◌≡◌}
use Rattle.std.proofs.lemmas.Grind.{common_steps}
use Rattle.sudoers_check.proofs.Found.{edge_targets_are_nodes_of_graph}
use Rattle.sudoers_check.proofs.graph.Graph.edges_of_node.Goals as goal

pub returns-clause-nodes : goal.returns-clause-nodes
returns-clause-nodes c =
    let graph = c.args.self.now in
    let is : c.as_slice.result.now ≡ edge_targets_of_node graph c.args.node = grind (arith, common_steps) in
    subst (AreNodesOfGraph graph) (sym is) (edge_targets_are_nodes_of_graph graph graph c.args.node (subst HasAllEdgeTargetsInGraph c.self.view_is c.self.invariant))
