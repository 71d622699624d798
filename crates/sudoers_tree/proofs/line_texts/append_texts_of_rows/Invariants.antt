use Rattle.sudoers_tree.proofs.Common.{drop, join, line_of_row, map, texts_of_lines, ◌++◌, ◌≡◌}
use Rattle.sudoers_tree.proofs.WholeLines.{KeepsOldTextInFront}
use Rattle.sudoers_tree.proofs.line_texts.append_texts_of_rows.Given as goal

abbrev pub invariant-loop-row : goal.invariant-loop-row
invariant-loop-row l =
    (l.text.items ++ join (texts_of_lines (map (line_of_row l.tables) (drop l.row-index l.rows))) ≡ l.initial.text.items ++ join (texts_of_lines (map (line_of_row l.tables) l.rows)))
    × KeepsOldTextInFront l.initial.text.items l.text.items
