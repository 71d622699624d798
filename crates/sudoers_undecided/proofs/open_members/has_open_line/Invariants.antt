use Rattle.std.proofs.Common.{◌≡◌, drop, map}
use Rattle.std.specs.List.{list_any}
use Rattle.sudoers_tree.specs.Line.{line_of_row}
use Rattle.sudoers_undecided.specs.internal.Open.{is_line_open}
use Rattle.sudoers_undecided.proofs.open_members.has_open_line.Given as goal

abbrev pub invariant-loop-row : goal.invariant-loop-row
invariant-loop-row l = list_any (is_line_open l.who l.command) (map (line_of_row l.lines.tables.now) l.lines.rows.now) ≡ list_any (is_line_open l.who l.command) (map (line_of_row l.lines.tables.now) (drop l.row-index l.lines.rows.now))
