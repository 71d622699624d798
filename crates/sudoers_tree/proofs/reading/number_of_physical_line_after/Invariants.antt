use Rattle.sudoers_tree.proofs.Common.{drop, lf_count_of_lines, line_of_row, map, texts_of_lines, ◌+◌, ◌≡◌}
use Rattle.sudoers_tree.proofs.reading.number_of_physical_line_after.Given as goal

abbrev pub invariant-loop-line : goal.invariant-loop-line
invariant-loop-line l = l.row + lf_count_of_lines (texts_of_lines (map (line_of_row l.tables) (drop l.line-index l.rows))) ≡ 1 + lf_count_of_lines (texts_of_lines (map (line_of_row l.tables) l.rows))
