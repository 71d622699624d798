use Rattle.sudoers_check.proofs.Common.{List, MarksNodesAdded, Some, ap, get_or, length, set, slice_get, slice_get-get_or, slice_get_read, subst, sym, true, ℕ, ◌+◌, ◌<◌, ◌∙◌, ◌≡◌}
use Rattle.sudoers_check.specs.declared.graph.ReachedNodes.{ReachedNodes}
use Rattle.sudoers_check.proofs.Lists.{All_at}
use Rattle.sudoers_check.proofs.Found.{grown_same, grown_more}
use Rattle.sudoers_check.proofs.graph.ReachedNodes.mark_all_nodes.Goals as goal
use Rattle.sudoers_check.proofs.graph.ReachedNodes.mark_all_nodes.Goals.{then-not-index+in_ok-push, else-not-index}

pub loop-node-preserved : goal.loop-node-preserved
loop-node-preserved c =
    let new : List ℕ = c.args.nodes.now in
    let i = c.loop-node.node-index in
    let node : ℕ = get_or new i 0 in
    let n = length c.args.self.now.marks.items in
    let old = c.args.self.now in
    let self = c.loop-node.self in
    let so_far = c.loop-node.invariant in
    let at : slice_get new i ≡ Some node = slice_get-get_or new i 0 c.loop-node-test.true in
    let is_node : node < n = All_at (λ x. x < n) new i node c.requires.nodes at in
    let mark : slice_get self.marks.items node ≡ Some c.index.result.now =
    slice_get_read self.marks.items n node c.index.result.now (sym so_far.found.size) is_node c.index.ensures in
    elim c.if-not-index.branch [
      | then-not-index+in_ok-push w ↦
          subst (λ (s : ReachedNodes). MarksNodesAdded n old.nodes.items old.marks.items new (i + 1) s.nodes.items s.marks.items) (sym w.self-is)
          (subst (λ ns. MarksNodesAdded n old.nodes.items old.marks.items new (i + 1) ns (set self.marks.items node true)) (sym w.in_ok-push.ensures.items)
          (grown_more n old.nodes.items old.marks.items new i self.nodes.items self.marks.items node so_far at (mark ∙ ap Some w.if-not-index.true)))
      | else-not-index w ↦
          subst (λ (s : ReachedNodes). MarksNodesAdded n old.nodes.items old.marks.items new (i + 1) s.nodes.items s.marks.items) (sym w.self-is)
          (grown_same n old.nodes.items old.marks.items new i self.nodes.items self.marks.items node so_far at (mark ∙ ap Some w.if-not-index.false))
    ]
