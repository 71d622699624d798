use Rattle.sudoers_check.proofs.Common.{definitions_from_line_number, definitions_of_lines, drop, graph_nodes_of_definitions, has_undefined_alias_in_line, line_of_row, map, root_numbers_in_lines_numbered_from, ◌++◌, ◌≡◌}
use Rattle.sudoers_check.proofs.definition_numbers.DefinitionNumbers.make_mention_links.Given as goal

abbrev pub invariant-loop-number : goal.invariant-loop-number
invariant-loop-number l =
    let ds = definitions_of_lines l.self.walk in
    let left = map (line_of_row l.lines.tables.now) (drop l.number l.lines.rows.now) in
    let all = map (line_of_row l.lines.tables.now) l.lines.rows.now in
    record {
      nodes : map (λ edges. edges.items) l.nodes.items ++ graph_nodes_of_definitions ds (definitions_from_line_number l.number left) ≡ graph_nodes_of_definitions ds (definitions_from_line_number 0 all);
      roots : l.roots.items ++ root_numbers_in_lines_numbered_from ds l.number left ≡ root_numbers_in_lines_numbered_from ds 0 all;
      undefined : l.undefined.items ++ map (has_undefined_alias_in_line ds) left ≡ map (has_undefined_alias_in_line ds) all;
    }
