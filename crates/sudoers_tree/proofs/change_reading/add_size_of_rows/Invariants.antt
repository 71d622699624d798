use Rattle.sudoers_tree.proofs.Common.{byte_count_of_lines, drop, line_of_row, map, text_limit, texts_of_lines, ◌+◌, ◌≡◌, ◌≤◌}
use Rattle.sudoers_tree.proofs.change_reading.add_size_of_rows.Given as goal

abbrev pub invariant-loop-row : goal.invariant-loop-row
invariant-loop-row l =
    (l.all ≤ text_limit)
    × (l.all + byte_count_of_lines (texts_of_lines (map (line_of_row l.tables) (drop l.row-index l.rows))) ≡ l.size + byte_count_of_lines (texts_of_lines (map (line_of_row l.tables) l.rows)))
