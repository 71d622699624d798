use Rattle.sudoers_tree.proofs.Common.{drop, join, line_texts_of_pieces, ◌++◌, ◌≡◌}
use Rattle.sudoers_tree.proofs.line_texts.text_of_pieces.Given as goal

abbrev pub invariant-loop-piece : goal.invariant-loop-piece
invariant-loop-piece l = l.text.items ++ join (line_texts_of_pieces l.tables (drop l.piece-index l.pieces)) ≡ join (line_texts_of_pieces l.tables l.pieces)
