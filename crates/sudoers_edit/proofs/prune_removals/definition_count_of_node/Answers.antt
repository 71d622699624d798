use Rattle.sudoers_edit.proofs.Common.{alias_definition_in_tables, alias_definitions_of_view, ap, definitions_in_line, length, length-map, node_of_view, sym, ◌∙◌}
use Rattle.sudoers_line_rows.specs.declared.view.Node.{Node}
use Rattle.sudoers_edit.proofs.PrunePlaces.{placed_definitions_are_as_many}
use Rattle.sudoers_edit.proofs.prune_removals.definition_count_of_node.Goals as goal

pub returns-in-Alias : goal.returns-in-Alias
returns-in-Alias c = λ n.
    sym (length-map c.in-Alias.defs.rows.now (alias_definition_in_tables c.in-Alias.defs.tables.now)) ∙ sym (placed_definitions_are_as_many c.in-Alias.kind n 0 (alias_definitions_of_view c.in-Alias.defs))
    ∙ ap (λ (says : Node). length (definitions_in_line n (node_of_view says))) (sym c.in-Alias.is)
