use Rattle.sudoers_tree.proofs.Common.{LineRow, List, [], ap, arith, byte_count_of_lines, drop, drop_all, line_of_row, map, texts_of_lines, ◌≡◌}
use Rattle.sudoers_tree.proofs.PieceLines.{texts_of_kept_rows_are_within_line_limit}
use Rattle.sudoers_tree.proofs.change_reading.add_size_of_rows.Goals as goal

pub returns : goal.returns
returns c =
    let t = c.args.tables.now in
    let rows : List LineRow = c.args.rows.now in
    let none : drop c.loop-row.row-index rows ≡ [] = drop_all c.loop-row.row-index rows (omega (arith, c.loop-row-test.false)) in
    let left : byte_count_of_lines (texts_of_lines (map (line_of_row t) (drop c.loop-row.row-index rows))) ≡ 0 = ap (λ rs. byte_count_of_lines (texts_of_lines (map (line_of_row t) rs))) none in
    record { is = omega (arith, c.loop-row.invariant.1, left); fits = c.loop-row.invariant.0; short = texts_of_kept_rows_are_within_line_limit t rows c.requires.kept }
