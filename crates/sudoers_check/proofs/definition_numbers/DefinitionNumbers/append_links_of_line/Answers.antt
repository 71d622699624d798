use Rattle.sudoers_check.proofs.Common.{IfOk, aliases_in_node, ap, definitions_of_lines, has_undefined_alias, subst, sym, ◌∙◌, ◌≡◌}
use Rattle.sudoers_line_rows.specs.View.{alias_definitions_of_view, node_of_view}
use Rattle.sudoers_check.proofs.Undefined.{undefined_aliases_of_definitions_are_in_node}
use Rattle.sudoers_check.proofs.definition_numbers.DefinitionNumbers.append_links_of_line.Goals as goal

pub returns-in-Alias-clause-undefined : goal.returns-in-Alias-clause-undefined
returns-in-Alias-clause-undefined c =
    let ds = definitions_of_lines c.args.self.now.walk in
    subst (λ b. IfOk c.append_nodes_of_definitions.result (λ undefined. undefined ≡ b))
    (undefined_aliases_of_definitions_are_in_node ds c.in-Alias.kind (alias_definitions_of_view c.in-Alias.defs) ∙ ap (λ says. has_undefined_alias ds (aliases_in_node (node_of_view says))) (sym c.in-Alias.is))
    c.append_nodes_of_definitions.ensures.undefined
