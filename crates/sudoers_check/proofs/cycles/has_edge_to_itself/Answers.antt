use Rattle.sudoers_check.proofs.Common.{ap, edge_targets_of_node, eqb, list_any, sym, ◌∙◌, ◌≡◌}
use Rattle.sudoers_check.proofs.Lists.{list_element_passes_number_test, number_test_implies_list_element}
use Rattle.sudoers_check.proofs.cycles.has_edge_to_itself.Goals as goal

pub returns : goal.returns
returns c =
    let node = c.args.node in
    let is : c.contains.result ≡ list_any (λ y. eqb y node) (edge_targets_of_node c.args.graph.now node) =
    c.contains.ensures.value ∙ ap (list_any (λ y. eqb y node)) c.edges_of_node.ensures.edges in
    (λ t. number_test_implies_list_element node (edge_targets_of_node c.args.graph.now node) (sym is ∙ t), λ h. is ∙ list_element_passes_number_test node (edge_targets_of_node c.args.graph.now node) h)
