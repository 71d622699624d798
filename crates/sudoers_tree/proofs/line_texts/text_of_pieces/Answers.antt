use Rattle.sudoers_tree.proofs.Common.{List, OldOrNewLines, ap, append_assoc, drop, get_or, join, line_texts_of_piece, line_texts_of_pieces, sym, ℕ, ◌++◌, ◌+◌, ◌∙◌}
use Rattle.sudoers_tree.proofs.Joined.{join_of_appended_lines_is_appended}
use Rattle.sudoers_tree.proofs.PieceLines.{empty_piece_of_old_rows, lines_of_pieces_are_those_of_first_and_later}
use Rattle.sudoers_tree.proofs.line_texts.text_of_pieces.Goals as goal

pub loop-piece-preserved : goal.loop-piece-preserved
loop-piece-preserved c =
    let pieces : List OldOrNewLines = c.args.pieces.now in
    let t = c.args.tables.now in
    let i : ℕ = c.loop-piece.piece-index in
    let here : List (List ℕ) = line_texts_of_piece t (get_or pieces i empty_piece_of_old_rows) in
    let behind : List (List ℕ) = line_texts_of_pieces t (drop (i + 1) pieces) in
    ap (λ xs. xs ++ join behind) c.in_ok-append_text_of_piece.ensures
    ∙ append_assoc c.loop-piece.text.items (join here) (join behind)
    ∙ ap (λ xs. c.loop-piece.text.items ++ xs) (sym (join_of_appended_lines_is_appended here behind))
    ∙ ap (λ ls. c.loop-piece.text.items ++ join ls) (sym (lines_of_pieces_are_those_of_first_and_later t pieces i c.loop-piece-test.true))
    ∙ c.loop-piece.invariant
