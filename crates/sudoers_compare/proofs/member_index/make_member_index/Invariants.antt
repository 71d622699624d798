use Rattle.std.proofs.Common.{◌≡◌, ◌+◌, ℕ, None, false, length, map}
use Rattle.std.specs.Prelude.{nat_eq}
use Rattle.std.specs.List.{list_any}
use Rattle.indexmap.specs.IndexMap.{get}
use Rattle.sudoers_line_rows.specs.Tables.{member_in_tables}
use Rattle.sudoers_match_list.specs.Flat.{signed_atom_of_member}
use Rattle.sudoers_compare.specs.FlatRow.{signed_atoms_of_view}
use Rattle.sudoers_compare.specs.MemberIndex.{has_number}
use Rattle.sudoers_compare.proofs.member_index.make_member_index.Given as goal

-- A number that is not found is that of no member, if it is that of none that is left.
abbrev pub invariant-loop-row : goal.invariant-loop-row
invariant-loop-row l =
    ((number : ℕ) → get nat_eq l.index number ≡ None → list_any (has_number number) (map signed_atom_of_member (map (member_in_tables l.members.tables.now) l.rest)) ≡ false
    → list_any (has_number number) (signed_atoms_of_view l.members) ≡ false)
    × (l.place + length l.rest ≡ length l.members.rows.now)

abbrev pub decreases-loop-row : goal.decreases-loop-row
decreases-loop-row l = length l.rest
