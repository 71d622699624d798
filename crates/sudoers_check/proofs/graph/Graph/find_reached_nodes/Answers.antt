use Rattle.sudoers_check.proofs.Common.{AllByRecursion, ListsMarkedNodes, MarksNodesAdded, Some, [], arith, edge_targets_of_node, length, rules, slice_get, slice_get_read, slice_get_within, subst, sym, ◌<◌, ◌∙◌, ◌≡◌}
use Rattle.sudoers_check.proofs.Found.{sources_marked, edges_marked, reached_marks}
use Rattle.sudoers_check.proofs.graph.Graph.find_reached_nodes.Goals as goal

pub loop-next-init : goal.loop-next-init
loop-next-init c =
    let graph = c.args.self.now in
    let from = c.args.from.now in
    let marks = c.in_ok-found.found.marks.items in
    let new = c.mark_all_nodes.new.self in
    let none = c.in_ok-found.ensures.nodes in
    let size : length marks ≡ length graph = c.in_ok-found.ensures.found.size ∙ c.len.ensures in
    sources_marked graph from marks
    (subst (λ n. ListsMarkedNodes n [] marks) c.len.ensures (subst (λ ns. ListsMarkedNodes c.len.result ns marks) none c.in_ok-found.ensures.found))
    new.nodes.items new.marks.items
    (subst (λ n. MarksNodesAdded n [] marks from (length from) new.nodes.items new.marks.items) size
    (subst (λ ns. MarksNodesAdded (length marks) ns marks from (length from) new.nodes.items new.marks.items) none c.in_ok-mark_all_nodes.ensures))

pub edges_of_node-requires : goal.edges_of_node-requires
edges_of_node-requires c =
    let found = c.loop-next.found in
    let node = c.index-node.result.now in
    let count : c.len-in-loop-next.result ≡ length found.nodes.items = search rules in
    let at : slice_get found.nodes.items c.loop-next.next ≡ Some node = slice_get_read found.nodes.items c.len-in-loop-next.result c.loop-next.next node count c.loop-next-test.true c.index-node.ensures in
    let within = slice_get_within found.marks.items node _ (c.loop-next.invariant.found.marked c.loop-next.next node at) in
    omega (arith, within, c.loop-next.invariant.found.size)

pub mark_all_nodes-requires-in-loop-next-clause-nodes : goal.mark_all_nodes-requires-in-loop-next-clause-nodes
mark_all_nodes-requires-in-loop-next-clause-nodes c =
    subst (λ n. AllByRecursion (λ i. i < n) c.edges_of_node.result.now) (sym c.loop-next.invariant.found.size) c.edges_of_node.ensures.nodes

pub loop-next-preserved : goal.loop-next-preserved
loop-next-preserved c =
    let graph = c.args.self.now in
    let nodes = c.loop-next.found.nodes.items in
    let marks = c.loop-next.found.marks.items in
    let new = c.mark_all_nodes-in-loop-next.new.self in
    let node = c.index-node.result.now in
    let count : c.len-in-loop-next.result ≡ length nodes = search rules in
    let at : slice_get nodes c.loop-next.next ≡ Some node = slice_get_read nodes c.len-in-loop-next.result c.loop-next.next node count c.loop-next-test.true c.index-node.ensures in
    edges_marked graph c.args.from.now nodes marks c.loop-next.next node c.loop-next.invariant at new.nodes.items new.marks.items
    (subst (λ n. MarksNodesAdded n nodes marks (edge_targets_of_node graph node) (length (edge_targets_of_node graph node)) new.nodes.items new.marks.items) c.loop-next.invariant.found.size
    (subst (λ es. MarksNodesAdded (length marks) nodes marks es (length es) new.nodes.items new.marks.items) c.edges_of_node.ensures.edges c.in_ok-mark_all_nodes-2.ensures))

pub returns : goal.returns
returns c = reached_marks c.args.self.now c.args.from.now c.loop-next.found.nodes.items c.loop-next.found.marks.items c.loop-next.next c.loop-next.invariant (search rules)
