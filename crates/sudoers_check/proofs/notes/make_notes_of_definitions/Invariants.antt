use Rattle.sudoers_check.proofs.Common.{drop, length, line_of_row, map, notes_of_definitions_in_lines_with_mark, ◌++◌, ◌≡◌}
use Rattle.sudoers_check.proofs.Located.{definition_count_in_lines}
use Rattle.sudoers_check.proofs.notes.make_notes_of_definitions.Given as goal

abbrev pub invariant-loop-number : goal.invariant-loop-number
invariant-loop-number l =
    (l.notes.items ++ notes_of_definitions_in_lines_with_mark l.wanted l.policy.walk l.number l.rest (map (line_of_row l.lines.tables.now) (drop l.number l.lines.rows.now))
    ≡ notes_of_definitions_in_lines_with_mark l.wanted l.policy.walk 0 l.marks (map (line_of_row l.lines.tables.now) l.lines.rows.now))
    × (length l.rest ≡ definition_count_in_lines (map (line_of_row l.lines.tables.now) (drop l.number l.lines.rows.now)))
