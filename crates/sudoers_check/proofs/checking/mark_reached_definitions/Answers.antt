use Rattle.sudoers_check.proofs.Common.{AreNodesOfGraph, HaveDistinctNames, IsReachedFromNodes, Line, List, MarksDecidePredicate, PlacedDefinition, ap, definitions_of_lines, length, lines_of_rows}
use Rattle.sudoers_check.proofs.Common.{mention_graph_of_definitions, root_numbers_in_lines_numbered_from, subst, sym, ◌∙◌, ◌≡◌}
use Rattle.sudoers_check.proofs.Linked.{reached_node_marks_are_used_definitions}
use Rattle.sudoers_check.proofs.Nodes.{root_numbers_are_nodes_of_mention_graph}
use Rattle.sudoers_check.proofs.checking.mark_reached_definitions.Goals as goal

pub find_reached_nodes-requires : goal.find_reached_nodes-requires
find_reached_nodes-requires c =
    let ds : List PlacedDefinition = definitions_of_lines c.args.numbers.now.walk in
    let lines : List Line = lines_of_rows c.args.lines.now in
    let roots : c.as_slice.result.now ≡ root_numbers_in_lines_numbered_from ds 0 lines = c.as_slice.ensures.value ∙ c.requires.roots in
    subst (λ g. AreNodesOfGraph g c.as_slice.result.now) (sym c.requires.graph) (subst (AreNodesOfGraph (mention_graph_of_definitions ds)) (sym roots) (root_numbers_are_nodes_of_mention_graph ds lines))

pub returns : goal.returns
returns c =
    let lines : List Line = lines_of_rows c.args.lines.now in
    let roots : c.as_slice.result.now ≡ root_numbers_in_lines_numbered_from (definitions_of_lines lines) 0 lines =
    c.as_slice.ensures.value ∙ c.requires.roots ∙ ap (λ ds. root_numbers_in_lines_numbered_from ds 0 lines) (sym c.requires.same) in
    let graph = c.requires.graph ∙ ap mention_graph_of_definitions (sym c.requires.same) in
    reached_node_marks_are_used_definitions lines c.in_ok-marks.marks.items (subst HaveDistinctNames (sym c.requires.same) c.is_walk.ensures.once)
    (subst (λ r. MarksDecidePredicate (IsReachedFromNodes (mention_graph_of_definitions (definitions_of_lines lines)) r) (length (mention_graph_of_definitions (definitions_of_lines lines))) c.in_ok-marks.marks.items) roots
    (subst (λ g. MarksDecidePredicate (IsReachedFromNodes g c.as_slice.result.now) (length g) c.in_ok-marks.marks.items) graph c.in_ok-marks.ensures))
