use Rattle.std.proofs.Common.{◌≡◌, ◌≤◌, drop, length, map}
use Rattle.std.specs.Prelude.{reverse}
use Rattle.sudoers_compare.specs.FlatSpecs.{row_of_placed_view}
use Rattle.sudoers_compare.specs.NextRows.{first_passing_number, is_next_row_of_all, next_row_numbers}
use Rattle.sudoers_compare.specs.Overruled.{is_row_of_all}
use Rattle.sudoers_compare.proofs.next_rows.list_next_rows_of_all.Given as goal

-- The numbers of the rows from this one on, the last first, and the first row of `ALL` among them.
abbrev pub invariant-loop-number : goal.invariant-loop-number
invariant-loop-number l =
    (l.number ≤ length l.rows)
    × (l.next.items ≡ reverse (next_row_numbers is_next_row_of_all l.number (drop l.number (map row_of_placed_view l.rows))))
    × (l.nearest ≡ first_passing_number is_row_of_all l.number (drop l.number (map row_of_placed_view l.rows)))

abbrev pub decreases-loop-number : goal.decreases-loop-number
decreases-loop-number l = l.number
