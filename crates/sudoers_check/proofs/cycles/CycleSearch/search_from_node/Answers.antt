use Rattle.sudoers_check.proofs.Common.{IsMetNode, HasSearchInvariantWithNextNode, New, None, SearchHasMetNode, Some, [], ap, length, slice_get, slice_get_read, subst, sym, ℕ, ◌∙◌, ◌≡◌}
use Rattle.sudoers_check.proofs.Steps.{entering_new_node_keeps_search_invariant, entering_node_keeps_met_nodes, entered_node_is_met}
use Rattle.sudoers_check.proofs.Whole.{none_open}
use Rattle.sudoers_check.proofs.cycles.CycleSearch.search_from_node.Goals as goal
use Rattle.sudoers_check.proofs.cycles.CycleSearch.search_from_node.Goals.{in-New+in_ok-enter, in_default}

pub loop-step-init : goal.loop-step-init
loop-step-init c =
    let graph = c.args.graph.now in
    let node : ℕ = c.args.node in
    let self = c.args.self.now in
    let stand : slice_get self.standings.items node ≡ Some c.index.result.now =
    slice_get_read self.standings.items (length graph) node c.index.result.now (sym c.requires.kept.standings_size) c.requires.node c.index.ensures in
    let kept : HasSearchInvariantWithNextNode graph None self.standings.items self.marks.items self.nodes.items self.groups.items [] =
    subst (λ way. HasSearchInvariantWithNextNode graph None self.standings.items self.marks.items self.nodes.items self.groups.items way) c.requires.way c.requires.kept in
    elim c.match-index.branch [
      | in-New+in_ok-enter w ↦
          let e = w.in_ok-enter.ensures in
          subst (SearchHasMetNode graph self.standings.items node) (sym w.self-is) (record {
            kept = entering_new_node_keeps_search_invariant graph None self w.enter.new.self node c.requires.kept (λ x none. absurd cc)
                (λ p v at. absurd (none_open graph self.standings.items self.marks.items self.nodes.items self.groups.items kept p v at))
                (stand ∙ ap Some w.in-New.is) e;
            met = λ v met. subst (λ ss. IsMetNode ss v) (sym e.standings) (entering_node_keeps_met_nodes self.standings.items node (length self.nodes.items) v met);
            node_met = subst (λ ss. IsMetNode ss node) (sym e.standings) (entered_node_is_met self.standings.items node (length self.nodes.items));
          })
      | in_default w ↦
          subst (SearchHasMetNode graph self.standings.items node) (sym w.self-is) (record {
            kept = c.requires.kept;
            met = λ v met. met;
            node_met = λ e. w.in_default.not-New (let two : Some c.index.result.now ≡ Some New = sym stand ∙ e in cc);
          })
    ]
