-- What one rule says.
use Rattle.std.specs.Prelude.{map}
use Rattle.std.specs.Option.{option_map}
use Rattle.sudoers_grammar.specs.Node.{Node}
use Rattle.sudoers_grammar.specs.Node as node
use Rattle.sudoers_line_rows.specs.View.{alias_definition_of_view, host_groups_of_view, members_of_view, parameters_of_view, scope_of_view}
use Rattle.sudoers_cvt_rules.specs.declared.rule.Rule.{Rule}
use Rattle.sudoers_cvt_rules.specs.declared.rule.Rule.TheVariants.{Defaults, Def, Spec}
use Rattle.sudoers_cvt_rules.specs.Effective.{effective_host_group}
use Rattle.sudoers_cvt_rules.specs.Rules.{alias_node_of_one_definition}

-- A line that says it. Each command of a user specification says all that holds of it.
abbrev pub node_of_rule_view : Rule → Node
node_of_rule_view (Defaults scope params) = node.Defaults (option_map scope_of_view scope) (parameters_of_view params)
node_of_rule_view (Def kind def) = alias_node_of_one_definition kind (alias_definition_of_view def)
node_of_rule_view (Spec users groups) = node.Spec (members_of_view users) (map effective_host_group (host_groups_of_view groups))
