use Rattle.sudoers_tree.proofs.Common.{alias_definition_in_tables, drop, entries_after_update, entries_with_definitions, map, ◌≡◌}
use Rattle.sudoers_tree.proofs.alias_index.enter_names_of_definitions.Given as goal

-- Entering the names that are left has the outcome of entering all.
abbrev pub invariant-loop-number : goal.invariant-loop-number
invariant-loop-number l =
    entries_with_definitions l.kind l.line l.number (entries_after_update l.known l.names) (map (alias_definition_in_tables l.defs.tables.now) (drop l.number l.defs.rows.now))
    ≡ entries_with_definitions l.kind l.line 0 (entries_after_update l.known l.initial.names) (map (alias_definition_in_tables l.defs.tables.now) l.defs.rows.now)
