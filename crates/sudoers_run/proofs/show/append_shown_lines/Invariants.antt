use Rattle.std.proofs.Common.{◌≡◌, ◌≤◌, ◌++◌, ◌+◌, drop, length, map}
use Rattle.sudoers_text.specs.Line.{join}
use Rattle.sudoers_tree.specs.Line.{line_of_row}
use Rattle.sudoers_tree.specs.Policy.{texts_of_lines}
use Rattle.sudoers_run.specs.Shown.{shown_lines_from_number}
use Rattle.sudoers_run.proofs.show.append_shown_lines.Given as goal

abbrev pub invariant-loop-place : goal.invariant-loop-place
invariant-loop-place l =
    (l.out.items ++ shown_lines_from_number (l.place + 1) l.row (map (line_of_row l.lines.tables.now) (drop l.place l.lines.rows.now)) ≡ l.initial.out.items ++ shown_lines_from_number 1 1 (map (line_of_row l.lines.tables.now) l.lines.rows.now))
    × (l.row + length (join (texts_of_lines (map (line_of_row l.lines.tables.now) (drop l.place l.lines.rows.now)))) ≤ 1048577)
