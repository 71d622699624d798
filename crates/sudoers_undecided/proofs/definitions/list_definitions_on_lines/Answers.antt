use Rattle.std.proofs.Common.{map, ap, ◌∙◌, ◌++◌}
use Rattle.sudoers_tree.specs.Definition.{definitions_in_line}
use Rattle.sudoers_tree.specs.Line.{line_of_row}
use Rattle.sudoers_undecided.specs.internal.Definitions.{kind_and_members_held, kind_and_members_of_definition}
use Rattle.sudoers_undecided.proofs.DefinitionLines.{one_line_more}
use Rattle.sudoers_undecided.proofs.definitions.list_definitions_on_lines.Goals as goal

pub loop-line-preserved : goal.loop-line-preserved
loop-line-preserved c =
    one_line_more (line_of_row c.args.lines.now.tables.now) c.args.lines.now.rows.now c.loop-line.line _ (map kind_and_members_held c.loop-line.definitions.items) _ _ c.loop-line-test.true c.loop-line.invariant
    (c.in_ok-append_definitions_of_node.ensures ∙ ap (λ n. map kind_and_members_held c.loop-line.definitions.items ++ map kind_and_members_of_definition (definitions_in_line c.loop-line.line n)) c.node_of_row-node.ensures)
