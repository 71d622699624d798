use Rattle.std.proofs.Common.{◌≡◌, ◌++◌, drop}
use Rattle.sudoers_lint.specs.Names.{nonempty_pieces, texts_of_view}
use Rattle.sudoers_lint.proofs.words.list_nonempty_pieces.Given as goal

-- The words so far, and those of the pieces still to come.
abbrev pub invariant-loop-piece : goal.invariant-loop-piece
invariant-loop-piece l = texts_of_view l.words.items ++ nonempty_pieces (texts_of_view (drop l.piece-index l.pieces)) ≡ nonempty_pieces (texts_of_view l.pieces)
