use Rattle.sudoers_tree.proofs.Common.{All, AllByRecursion, AreKeptPieces, IsKeptRow, IsLogicalLine, LineRow, List, Tables, ap, line_of_row, line_texts_of_pieces, lines_after_changes, map, subst, sym, texts_of_lines}
use Rattle.sudoers_tree.proofs.Common.{ℕ, ◌∙◌, ◌≡◌}
use Rattle.sudoers_tree.proofs.ChangedLines.{changed_lines_are_logical_lines}
use Rattle.sudoers_tree.proofs.ReadPieces.{lasting_rows_within_limit_are_kept}
use Rattle.sudoers_tree.proofs.files_with_changes.read_file_with_changes.Goals as goal

pub read_file_of_pieces-requires-clause-kept : goal.read_file_of_pieces-requires-clause-kept
read_file_of_pieces-requires-clause-kept c =
    let t : Tables = c.args.tables.now in
    let rows : List LineRow = c.args.file.now.rows.items in
    subst (AreKeptPieces t) (sym c.as_slice-3.ensures.value)
    (c.in_ok-pieces.ensures.kept t (subst (All (IsKeptRow t)) (sym c.as_slice-2.ensures.value) (lasting_rows_within_limit_are_kept t rows c.requires.file.stand c.requires.file.short)))

pub read_file_of_pieces-requires-clause-whole : goal.read_file_of_pieces-requires-clause-whole
read_file_of_pieces-requires-clause-whole c =
    let t : Tables = c.args.tables.now in
    let rows : List LineRow = c.args.file.now.rows.items in
    let lines : List (List ℕ) = texts_of_lines (map (line_of_row t) rows) in
    let same : line_texts_of_pieces t c.as_slice-3.result.now ≡ lines_after_changes c.args.changes.now lines =
    ap (line_texts_of_pieces t) c.as_slice-3.ensures.value ∙ c.in_ok-pieces.ensures.lines t
    ∙ ap (λ rs. lines_after_changes c.args.changes.now (texts_of_lines (map (line_of_row t) rs))) c.as_slice-2.ensures.value in
    subst (AllByRecursion IsLogicalLine) (sym same) (changed_lines_are_logical_lines 0 c.args.changes.now lines c.requires.file.whole c.requires.lines)
