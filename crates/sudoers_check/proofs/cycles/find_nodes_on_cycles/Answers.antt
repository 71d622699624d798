use Rattle.sudoers_check.proofs.Common.{HasSearchInvariantWithNextNode, None, arith, subst}
use Rattle.sudoers_check.proofs.Whole.{all_marked}
use Rattle.sudoers_check.proofs.cycles.find_nodes_on_cycles.Goals as goal

pub returns : goal.returns
returns c =
    let graph = c.args.graph.now in
    let last = c.loop-node.search in
    all_marked graph last.standings.items last.marks.items last.nodes.items last.groups.items
    (subst (λ way. HasSearchInvariantWithNextNode graph None last.standings.items last.marks.items last.nodes.items last.groups.items way) c.loop-node.invariant.way c.loop-node.invariant.kept)
    (λ v lt. c.loop-node.invariant.met v (omega (arith, c.loop-node-test.false, c.len-node-end.ensures)))
