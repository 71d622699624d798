use Rattle.sudoers_check.proofs.Common.{drop, length, line_of_row, map, unmarked_places_in_lines, ◌++◌, ◌≡◌}
use Rattle.sudoers_check.proofs.Located.{definition_count_in_lines}
use Rattle.sudoers_check.proofs.checking.find_unmarked_definitions.Given as goal

abbrev pub invariant-loop-number : goal.invariant-loop-number
invariant-loop-number l =
    (l.places.items ++ unmarked_places_in_lines l.number l.rest (map (line_of_row l.lines.tables.now) (drop l.number l.lines.rows.now))
    ≡ unmarked_places_in_lines 0 l.initial.rest (map (line_of_row l.lines.tables.now) l.lines.rows.now))
    × (length l.rest ≡ definition_count_in_lines (map (line_of_row l.lines.tables.now) (drop l.number l.lines.rows.now)))
