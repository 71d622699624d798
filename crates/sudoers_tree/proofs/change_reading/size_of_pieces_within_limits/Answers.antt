use Rattle.sudoers_tree.proofs.Common.{AreWithinLineLimit, IsSizeWithinLimitsAfter, List, OldOrNewLines, ap, arith, byte_count_of_lines, drop, get_or, line_texts_of_piece, line_texts_of_pieces, subst, sym, ℕ, ◌++◌}
use Rattle.sudoers_tree.proofs.Common.{◌+◌, ◌∙◌, ◌≡◌}
use Rattle.sudoers_tree.proofs.PieceLines.{byte_count_of_lines_adds_over_append, numbered_piece_has_kept_rows, empty_piece_of_old_rows, lines_of_pieces_are_those_of_first_and_later, appended_lines_are_within_line_limit}
use Rattle.sudoers_tree.proofs.change_reading.size_of_pieces_within_limits.Goals as goal

pub add_size_of_piece-requires-clause-kept : goal.add_size_of_piece-requires-clause-kept
add_size_of_piece-requires-clause-kept c = numbered_piece_has_kept_rows c.args.tables.now c.args.pieces.now c.loop-piece.piece-index c.loop-piece-test.true c.requires

pub loop-piece-preserved : goal.loop-piece-preserved
loop-piece-preserved c =
    let t = c.args.tables.now in
    let pieces : List OldOrNewLines = c.args.pieces.now in
    let i : ℕ = c.loop-piece.piece-index in
    let here : List (List ℕ) = line_texts_of_piece t (get_or pieces i empty_piece_of_old_rows) in
    let behind : List (List ℕ) = line_texts_of_pieces t (drop (i + 1) pieces) in
    let first : line_texts_of_pieces t (drop i pieces) ≡ here ++ behind = lines_of_pieces_are_those_of_first_and_later t pieces i c.loop-piece-test.true in
    let count : byte_count_of_lines (line_texts_of_pieces t (drop i pieces)) ≡ byte_count_of_lines here + byte_count_of_lines behind = ap byte_count_of_lines first ∙ byte_count_of_lines_adds_over_append here behind in
    let size : IsSizeWithinLimitsAfter c.loop-piece.size c.in_ok-size.size here = c.in_ok-size.ensures in (
      size.fits,
      omega (arith, count, size.is, c.loop-piece.invariant.1),
      λ short. c.loop-piece.invariant.2 (subst AreWithinLineLimit (sym first) (appended_lines_are_within_line_limit here behind size.short short)),
    )
