use Rattle.sudoers_tree.proofs.Common.{All, IsLastingLineRow, TablesHaveGrown, drop, line_of_row, map}
use Rattle.sudoers_tree.proofs.ReadUntil.{AreLinesReadBeforeRest}
use Rattle.sudoers_tree.proofs.reading.read_lines_until_fault.Given as goal

abbrev pub invariant-loop-number : goal.invariant-loop-number
invariant-loop-number l =
    TablesHaveGrown l.fn.tables l.tables
    × All (IsLastingLineRow l.tables) l.rows.items
    × AreLinesReadBeforeRest l.lines (map (line_of_row l.tables) l.rows.items) (drop l.number l.lines)
