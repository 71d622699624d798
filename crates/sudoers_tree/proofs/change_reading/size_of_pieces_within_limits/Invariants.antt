use Rattle.sudoers_tree.proofs.Common.{AreWithinLineLimit, byte_count_of_lines, drop, line_texts_of_pieces, text_limit, ◌+◌, ◌≡◌, ◌≤◌}
use Rattle.sudoers_tree.proofs.change_reading.size_of_pieces_within_limits.Given as goal

abbrev pub invariant-loop-piece : goal.invariant-loop-piece
invariant-loop-piece l =
    (l.size ≤ text_limit)
    × (l.size + byte_count_of_lines (line_texts_of_pieces l.tables (drop l.piece-index l.pieces)) ≡ byte_count_of_lines (line_texts_of_pieces l.tables l.pieces))
    × (AreWithinLineLimit (line_texts_of_pieces l.tables (drop l.piece-index l.pieces)) → AreWithinLineLimit (line_texts_of_pieces l.tables l.pieces))
