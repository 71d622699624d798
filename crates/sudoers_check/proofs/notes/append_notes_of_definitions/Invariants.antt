use Rattle.sudoers_check.proofs.Common.{alias_definition_in_tables, drop, map, notes_of_definitions_in_line_with_mark, ◌++◌, ◌≡◌}
use Rattle.sudoers_check.proofs.notes.append_notes_of_definitions.Given as goal

abbrev pub invariant-loop-row : goal.invariant-loop-row
invariant-loop-row l =
    l.notes.items ++ notes_of_definitions_in_line_with_mark l.wanted l.cursor.spot l.cursor.text.now l.kind l.rest (map (alias_definition_in_tables l.defs.tables.now) (drop l.row-index l.defs.rows.now))
    ≡ l.initial.notes.items
    ++ notes_of_definitions_in_line_with_mark l.wanted l.initial.cursor.spot l.initial.cursor.text.now l.kind l.initial.rest (map (alias_definition_in_tables l.defs.tables.now) l.defs.rows.now)
