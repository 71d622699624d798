use Rattle.sudoers_tree.proofs.Common.{All, IsLastingLineRow, TablesHaveGrown, line_of_row, map}
use Rattle.sudoers_tree.proofs.ReadPieces.{ArePiecesReadUpToNumber}
use Rattle.sudoers_tree.proofs.change_reading.read_lines_of_pieces.Given as goal

abbrev pub invariant-loop-piece : goal.invariant-loop-piece
invariant-loop-piece l =
    TablesHaveGrown l.fn.tables l.tables
    × All (IsLastingLineRow l.tables) l.rows.items
    × ArePiecesReadUpToNumber l.fn.tables l.pieces (map (line_of_row l.tables) l.rows.items) l.piece-index
