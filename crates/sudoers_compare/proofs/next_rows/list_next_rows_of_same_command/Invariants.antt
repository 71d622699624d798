use Rattle.std.proofs.Common.{◌≡◌, ◌≤◌, ℕ, drop, length, map, Vec}
use Rattle.std.specs.Prelude.{reverse}
use Rattle.std.specs.Str.{bytes_eq}
use Rattle.std.specs.declared.alloc.Global.{Global}
use Rattle.indexmap.specs.IndexMap.{get}
use Rattle.laws_compare.specs.Content.{FlatPrivilegeRow}
use Rattle.sudoers_compare.specs.FlatSpecs.{row_of_placed_view}
use Rattle.sudoers_compare.specs.NextRows.{first_passing_number, next_row_numbers}
use Rattle.sudoers_compare.specs.Overruled.{command_key, is_row_of_same_command}
use Rattle.sudoers_compare.proofs.next_rows.list_next_rows_of_same_command.Given as goal

-- The numbers of the rows from this one on, the last first, and the first row of each command among them.
abbrev pub invariant-loop-number : goal.invariant-loop-number
invariant-loop-number l =
    (l.number ≤ length l.rows)
    × (l.next.items ≡ reverse (next_row_numbers is_row_of_same_command l.number (drop l.number (map row_of_placed_view l.rows))))
    × ((key : Vec ℕ Global) → get (λ (a b : Vec ℕ Global). bytes_eq a.items b.items) l.nearest key
    ≡ first_passing_number (λ (row : FlatPrivilegeRow). bytes_eq key.items (command_key row.grant.atom.atom)) l.number (drop l.number (map row_of_placed_view l.rows)))

abbrev pub decreases-loop-number : goal.decreases-loop-number
decreases-loop-number l = l.number
