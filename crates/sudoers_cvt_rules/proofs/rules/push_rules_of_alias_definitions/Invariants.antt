use Rattle.std.proofs.Common.{◌≡◌, ◌++◌, drop, map}
use Rattle.sudoers_line_rows.specs.Tables.{alias_definition_in_tables}
use Rattle.sudoers_cvt_rules.specs.Rule.{node_of_rule_view}
use Rattle.sudoers_cvt_rules.specs.Rules.{alias_node_of_one_definition}
use Rattle.sudoers_cvt_rules.proofs.rules.push_rules_of_alias_definitions.Given as goal

abbrev pub invariant-loop-row : goal.invariant-loop-row
invariant-loop-row l =
    map node_of_rule_view l.out.items ++ map (alias_node_of_one_definition l.kind) (map (alias_definition_in_tables l.defs.tables.now) (drop l.row-index l.defs.rows.now))
    ≡ map node_of_rule_view l.initial.out.items ++ map (alias_node_of_one_definition l.kind) (map (alias_definition_in_tables l.defs.tables.now) l.defs.rows.now)
