use Rattle.sudoers_tree.proofs.Common.{alias_definition_in_tables, definitions_from_place, drop, map, reserved_name_fault_of_definitions, ◌≡◌}
use Rattle.sudoers_tree.proofs.alias_index.find_reserved_name_fault_of_definitions.Given as goal

abbrev pub invariant-loop-row : goal.invariant-loop-row
invariant-loop-row l =
    reserved_name_fault_of_definitions (definitions_from_place l.kind 0 l.row-index (map (alias_definition_in_tables l.defs.tables.now) (drop l.row-index l.defs.rows.now)))
    ≡ reserved_name_fault_of_definitions (definitions_from_place l.kind 0 0 (map (alias_definition_in_tables l.defs.tables.now) l.defs.rows.now))
