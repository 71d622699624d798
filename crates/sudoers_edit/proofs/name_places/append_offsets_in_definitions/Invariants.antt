use Rattle.sudoers_edit.proofs.Common.{alias_definition_in_tables, drop, flat_map, map, name_offsets_in_definition, ◌++◌, ◌≡◌}
use Rattle.sudoers_edit.proofs.name_places.append_offsets_in_definitions.Given as goal

abbrev pub invariant-loop-row : goal.invariant-loop-row
invariant-loop-row l =
    l.starts.items ++ flat_map (name_offsets_in_definition l.name) (map (alias_definition_in_tables l.defs.tables.now) (drop l.row-index l.defs.rows.now))
    ≡ l.initial.starts.items ++ flat_map (name_offsets_in_definition l.name) (map (alias_definition_in_tables l.defs.tables.now) l.defs.rows.now)
