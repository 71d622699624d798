use Rattle.std.proofs.Common.{◌≡◌, length, map}
use Rattle.sudoers_line_rows.specs.Alike.{are_lists_alike}
use Rattle.sudoers_line_rows.proofs.alike.are_row_lists_alike.Given as goal

abbrev pub invariant-loop-item : goal.invariant-loop-item
invariant-loop-item g l =
    are_lists_alike g.T.ComparableRow.alike (map (g.T.ComparableRow.said l.items.tables.now) l.rest) (map (g.T.ComparableRow.said l.others.tables.now) l.left)
    ≡ are_lists_alike g.T.ComparableRow.alike (map (g.T.ComparableRow.said l.items.tables.now) l.items.rows.now) (map (g.T.ComparableRow.said l.others.tables.now) l.others.rows.now)

abbrev pub decreases-loop-item : goal.decreases-loop-item
decreases-loop-item g l = length l.rest
