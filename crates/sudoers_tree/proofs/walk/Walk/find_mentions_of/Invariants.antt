use Rattle.sudoers_tree.proofs.Common.{drop, line_of_row, map, mentions_from_line_number, ◌++◌, ◌≡◌}
use Rattle.sudoers_tree.proofs.walk.Walk.find_mentions_of.Given as goal

abbrev pub invariant-loop-number : goal.invariant-loop-number
invariant-loop-number l =
    l.spans.items ++ mentions_from_line_number l.kind l.name l.number (map (line_of_row l.lines.tables.now) (drop l.number l.lines.rows.now))
    ≡ mentions_from_line_number l.kind l.name 0 (map (line_of_row l.lines.tables.now) l.lines.rows.now)
