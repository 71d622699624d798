use Rattle.sudoers_tree.proofs.Common.{All, AreChangesInOrder, AreKeptPieces, IsKeptRow, Tables, drop, length, line_of_row, line_texts_of_pieces, lines_after_changes, lines_changed_from_number, map, texts_of_lines}
use Rattle.sudoers_tree.proofs.Common.{◌++◌, ◌≡◌}
use Rattle.sudoers_tree.proofs.old_and_new_lines.pieces_of_changed_lines.Given as goal

-- The pieces, and what the changes that are left make of the lines that are left, are what all changes make of all lines.
abbrev pub invariant-loop-change : goal.invariant-loop-change
invariant-loop-change l =
    AreChangesInOrder l.from (drop l.change-index l.changes) (length l.rows)
    × ((t : Tables) → line_texts_of_pieces t l.pieces.items ++ lines_changed_from_number l.from (drop l.change-index l.changes) (texts_of_lines (map (line_of_row t) (drop l.from l.rows)))
    ≡ lines_after_changes l.changes (texts_of_lines (map (line_of_row t) l.rows)))
    × ((t : Tables) → All (IsKeptRow t) l.rows → AreKeptPieces t l.pieces.items)
