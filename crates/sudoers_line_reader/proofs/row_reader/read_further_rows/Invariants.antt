use Rattle.std.proofs.Common.{[], ◌∷◌, length}
use Rattle.sudoers_line_reader.proofs.SoFar.{IsListReadSoFar}
use Rattle.sudoers_line_reader.proofs.row_reader.read_further_rows.Given as goal

abbrev pub invariant-loop-reader : goal.invariant-loop-reader
invariant-loop-reader g l =
    IsListReadSoFar g.R.RowReader.said (g.R.LookaheadRowReader.begins l.fn.reader) (g.R.RowReader.rule l.fn.reader) (g.R.RowReader.said l.fn.tables l.fn.first ∷ []) l.fn.tables l.fn.cursor l.tables l.cursor (g.R.Row.TableRow.table l.tables) l.rows

abbrev pub decreases-loop-reader : goal.decreases-loop-reader
decreases-loop-reader g l = length l.cursor
