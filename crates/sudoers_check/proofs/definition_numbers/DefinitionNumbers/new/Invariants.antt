use Rattle.sudoers_check.proofs.Common.{alias_lines_of_lines_numbered_from, drop, line_of_row, map, ◌++◌, ◌+◌, ◌≡◌, ◌≤◌}
use Rattle.sudoers_check.proofs.Located.{definition_count_in_lines}
use Rattle.sudoers_check.proofs.definition_numbers.DefinitionNumbers.new.Given as goal

abbrev pub invariant-loop-line : goal.invariant-loop-line
invariant-loop-line l =
    (l.firsts.items ++ alias_lines_of_lines_numbered_from l.line l.count (map (line_of_row l.lines.tables.now) (drop l.line l.lines.rows.now))
    ≡ alias_lines_of_lines_numbered_from 0 0 (map (line_of_row l.lines.tables.now) l.lines.rows.now))
    × (l.count + definition_count_in_lines (map (line_of_row l.lines.tables.now) (drop l.line l.lines.rows.now)) ≤ 16384)
    × (l.count + definition_count_in_lines (map (line_of_row l.lines.tables.now) (drop l.line l.lines.rows.now)) ≡ definition_count_in_lines (map (line_of_row l.lines.tables.now) l.lines.rows.now))
