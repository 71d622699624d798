use Rattle.sudoers_check.proofs.Common.{HasAllEdgeTargetsInGraph, List, PlacedDefinition, ap, append-nil, definitions_from_line_number, definitions_of_lines, drop_of_length-le, graph_nodes_of_definitions, line_of_row, map}
use Rattle.sudoers_check.proofs.Common.{mention_graph_of_definitions, subst, sym, ℕ, ◌++◌, ◌∙◌, ◌≡◌}
use Rattle.sudoers_check.proofs.Nodes.{mention_graph_is_graph}
use Rattle.sudoers_check.proofs.definition_numbers.DefinitionNumbers.make_mention_links.Goals as goal

pub from_nodes-graph-requires : goal.from_nodes-graph-requires
from_nodes-graph-requires c =
    let ds : List PlacedDefinition = definitions_of_lines c.args.self.now.walk in
    let held = c.args.lines.now in
    let so_far : List (List ℕ) = map (λ edges. edges.items) c.loop-number.nodes.items in
    let none = drop_of_length-le held.rows.now c.loop-number-test.false in
    let all : so_far ≡ mention_graph_of_definitions ds =
    sym (append-nil so_far) ∙ ap (λ rest. so_far ++ graph_nodes_of_definitions ds (definitions_from_line_number c.loop-number.number (map (line_of_row held.tables.now) rest))) (sym none)
    ∙ c.loop-number.invariant.nodes ∙ ap (graph_nodes_of_definitions ds) c.requires in
    subst HasAllEdgeTargetsInGraph (sym all) (mention_graph_is_graph ds)
