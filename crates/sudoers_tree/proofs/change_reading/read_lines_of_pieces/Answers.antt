use Rattle.sudoers_tree.proofs.Common.{ContinuesReadingLines, HasKeptRows, Line, List, None, OldOrNewLines, Some, arith, drop_all, get_or, table_growth_is_transitive, join, length, line_of_row, line_texts_of_piece, map, subst, sym}
use Rattle.sudoers_tree.proofs.Common.{text_limit, texts_of_lines, ℕ, ◌+◌, ◌≡◌, ◌≤◌}
use Rattle.sudoers_tree.proofs.PieceLines.{numbered_piece_has_kept_rows, empty_piece_of_old_rows}
use Rattle.sudoers_tree.proofs.ReadPieces.{next_piece_fits_text_limit, grown_tables_keep_rows_of_piece_kept, reading_goes_on_after_piece, faulty_piece_ends_reading, pieces_read_to_end_are_outcome, grown_tables_keep_texts_of_piece}
use Rattle.sudoers_tree.proofs.change_reading.read_lines_of_pieces.Goals as goal

pub read_lines_of_piece-requires-clause-kept : goal.read_lines_of_piece-requires-clause-kept
read_lines_of_piece-requires-clause-kept c =
    grown_tables_keep_rows_of_piece_kept table_growth_is_transitive c.args.tables.now c.loop-piece.tables c.loop-piece.invariant.0 (get_or c.args.pieces.now c.loop-piece.piece-index empty_piece_of_old_rows)
    (numbered_piece_has_kept_rows c.args.tables.now c.args.pieces.now c.loop-piece.piece-index c.loop-piece-test.true c.requires.kept)

pub read_lines_of_piece-requires-clause-fits : goal.read_lines_of_piece-requires-clause-fits
read_lines_of_piece-requires-clause-fits c =
    let i : ℕ = c.loop-piece.piece-index in
    let piece : OldOrNewLines = get_or c.args.pieces.now i empty_piece_of_old_rows in
    let kept : HasKeptRows c.args.tables.now piece = numbered_piece_has_kept_rows c.args.tables.now c.args.pieces.now i c.loop-piece-test.true c.requires.kept in
    let same : line_texts_of_piece c.loop-piece.tables piece ≡ line_texts_of_piece c.args.tables.now piece = grown_tables_keep_texts_of_piece c.args.tables.now c.loop-piece.tables c.loop-piece.invariant.0 piece kept in
    subst (λ ts. length (join (texts_of_lines (map (line_of_row c.loop-piece.tables) c.loop-piece.rows.items))) + length (join ts) ≤ text_limit) (sym same)
    (next_piece_fits_text_limit c.args.tables.now c.args.pieces.now (map (line_of_row c.loop-piece.tables) c.loop-piece.rows.items) i c.loop-piece-test.true c.loop-piece.invariant.2 c.requires.fits)

pub returns-in_err-fault-clause-grown : goal.returns-in_err-fault-clause-grown
returns-in_err-fault-clause-grown c =
    table_growth_is_transitive c.args.tables.now c.loop-piece.tables c.read_lines_of_piece.new.tables c.loop-piece.invariant.0 c.in_err-fault.ensures.grown

pub returns-in-Some-clause-grown : goal.returns-in-Some-clause-grown
returns-in-Some-clause-grown c =
    table_growth_is_transitive c.args.tables.now c.loop-piece.tables c.read_lines_of_piece.new.tables c.loop-piece.invariant.0 c.in_ok-fault.ensures.grown

pub returns-in-Some-clause-read : goal.returns-in-Some-clause-read
returns-in-Some-clause-read c =
    let i : ℕ = c.loop-piece.piece-index in
    let piece : OldOrNewLines = get_or c.args.pieces.now i empty_piece_of_old_rows in
    let kept : HasKeptRows c.args.tables.now piece = numbered_piece_has_kept_rows c.args.tables.now c.args.pieces.now i c.loop-piece-test.true c.requires.kept in
    let before : List Line = map (line_of_row c.loop-piece.tables) c.loop-piece.rows.items in
    let after : List Line = map (line_of_row c.read_lines_of_piece.new.tables) c.read_lines_of_piece.new.rows.items in
    let stops : ContinuesReadingLines (Some c.in-Some.fault) before after (line_texts_of_piece c.args.tables.now piece) =
    subst (ContinuesReadingLines (Some c.in-Some.fault) before after) (grown_tables_keep_texts_of_piece c.args.tables.now c.loop-piece.tables c.loop-piece.invariant.0 piece kept)
    (subst (λ f. ContinuesReadingLines f before after (line_texts_of_piece c.loop-piece.tables piece)) c.in-Some.is c.in_ok-fault.ensures.read) in
    faulty_piece_ends_reading c.args.tables.now c.args.pieces.now before after i c.in-Some.fault c.loop-piece-test.true c.loop-piece.invariant.2 stops

pub loop-piece-preserved : goal.loop-piece-preserved
loop-piece-preserved c =
    let i : ℕ = c.loop-piece.piece-index in
    let piece : OldOrNewLines = get_or c.args.pieces.now i empty_piece_of_old_rows in
    let kept : HasKeptRows c.args.tables.now piece = numbered_piece_has_kept_rows c.args.tables.now c.args.pieces.now i c.loop-piece-test.true c.requires.kept in
    let before : List Line = map (line_of_row c.loop-piece.tables) c.loop-piece.rows.items in
    let after : List Line = map (line_of_row c.read_lines_of_piece.new.tables) c.read_lines_of_piece.new.rows.items in
    let on : ContinuesReadingLines None before after (line_texts_of_piece c.args.tables.now piece) =
    subst (ContinuesReadingLines None before after) (grown_tables_keep_texts_of_piece c.args.tables.now c.loop-piece.tables c.loop-piece.invariant.0 piece kept)
    (subst (λ f. ContinuesReadingLines f before after (line_texts_of_piece c.loop-piece.tables piece)) c.in_default.is c.in_ok-fault.ensures.read) in (
      table_growth_is_transitive c.args.tables.now c.loop-piece.tables c.read_lines_of_piece.new.tables c.loop-piece.invariant.0 c.in_ok-fault.ensures.grown,
      c.in_ok-fault.ensures.stand,
      reading_goes_on_after_piece c.args.tables.now c.args.pieces.now before after i c.loop-piece-test.true c.loop-piece.invariant.2 on,
    )

pub returns-clause-read : goal.returns-clause-read
returns-clause-read c =
    pieces_read_to_end_are_outcome c.args.tables.now c.args.pieces.now (map (line_of_row c.loop-piece.tables) c.loop-piece.rows.items) c.loop-piece.piece-index
    (drop_all c.loop-piece.piece-index c.args.pieces.now (omega (arith, c.loop-piece-test.false))) c.loop-piece.invariant.2
