use Rattle.std.proofs.Common.{◌≡◌, ◌++◌, drop}
use Rattle.std.specs.List.{filter}
use Rattle.sudoers_explain.specs.ExpectedPieces.{may_piece_stand}
use Rattle.sudoers_explain.proofs.expected_pieces.keep_pieces_that_may_stand.Given as goal

abbrev pub invariant-loop-piece : goal.invariant-loop-piece
invariant-loop-piece l = l.possible.items ++ filter (may_piece_stand l.before) (drop l.piece-index l.pieces) ≡ filter (may_piece_stand l.before) l.pieces
