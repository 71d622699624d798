use Rattle.std.proofs.Common.{◌≡◌, ◌++◌, drop, map, flat_map}
use Rattle.sudoers_tree.specs.Line.{Line, line_of_row}
use Rattle.sudoers_cvt_rules.specs.Rules.{defaults_nodes_of_line_node, one_definition_nodes_of_line_node, effective_spec_nodes_of_line_node}
use Rattle.sudoers_cvt_rules.proofs.rules.Rules.from_policy_lines.Given as goal

abbrev pub invariant-loop-row : goal.invariant-loop-row
invariant-loop-row l =
    let t = l.lines.tables.now in
    let rest = map (line_of_row t) (drop l.row-index l.lines.rows.now) in
    let all = map (line_of_row t) l.lines.rows.now in
    record {
      defaults : l.rules.defaults ++ flat_map (λ (line : Line). defaults_nodes_of_line_node line.node) rest ≡ flat_map (λ (line : Line). defaults_nodes_of_line_node line.node) all;
      defs : l.rules.defs ++ flat_map (λ (line : Line). one_definition_nodes_of_line_node line.node) rest ≡ flat_map (λ (line : Line). one_definition_nodes_of_line_node line.node) all;
      specs : l.rules.specs ++ flat_map (λ (line : Line). effective_spec_nodes_of_line_node line.node) rest ≡ flat_map (λ (line : Line). effective_spec_nodes_of_line_node line.node) all;
    }
