use Rattle.sudoers_tree.proofs.Common.{All, ContinuesReadingLines, HasKeptRows, IsKeptRow, None, line_of_row, line_texts_of_piece, map, subst, sym}
use Rattle.sudoers_tree.proofs.ReadPieces.{old_rows_continue_reading_lines}
use Rattle.sudoers_tree.proofs.change_reading.read_lines_of_piece.Goals as goal

pub returns-in_ok-extend_from_slice-in-Old-clause-read : goal.returns-in_ok-extend_from_slice-in-Old-clause-read
returns-in_ok-extend_from_slice-in-Old-clause-read c =
    let t = c.args.tables.now in
    let kept : All (IsKeptRow t) c.in-Old.old.now = subst (HasKeptRows t) c.in-Old.is c.requires.kept in
    subst (λ p. ContinuesReadingLines None (map (line_of_row t) c.args.rows.now.items) (map (line_of_row t) c.extend_from_slice.new.self.items) (line_texts_of_piece t p)) (sym c.in-Old.is)
    (old_rows_continue_reading_lines t c.args.rows.now.items c.in-Old.old.now c.extend_from_slice.new.self.items c.in_ok-extend_from_slice-in-Old.ensures.items kept)
