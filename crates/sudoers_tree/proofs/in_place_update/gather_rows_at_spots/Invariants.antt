use Rattle.sudoers_tree.proofs.Common.{All, IsLastingLineRow, ReplaceLinesAtSpots, length, line_of_row, map, parsed_files_of_view, ◌≡◌}
use Rattle.sudoers_tree.proofs.in_place_update.gather_rows_at_spots.Given as goal

abbrev pub invariant-loop-number : goal.invariant-loop-number
invariant-loop-number l =
    All (IsLastingLineRow l.files.tables.now) l.rows.items
    × (length l.rows.items ≡ l.number)
    × ReplaceLinesAtSpots (parsed_files_of_view l.files) (map (line_of_row l.files.tables.now) l.lines) l.spots (map (line_of_row l.files.tables.now) l.rows.items)
