use Rattle.std.proofs.Common.{◌≡◌, length, map}
use Rattle.std.specs.List.{list_any}
use Rattle.sudoers_line_rows.specs.Tables.{member_in_tables}
use Rattle.sudoers_match_list.specs.Flat.{signed_atom_of_member}
use Rattle.laws_compare.specs.Decided.{is_same_signed_atom}
use Rattle.sudoers_compare.specs.FlatRow.{signed_atoms_of_view}
use Rattle.sudoers_compare.proofs.flat_lists.has_member.Given as goal

abbrev pub invariant-loop-other : goal.invariant-loop-other
invariant-loop-other l =
    list_any (is_same_signed_atom (signed_atom_of_member (member_in_tables l.tables l.row)))
    (map signed_atom_of_member (map (member_in_tables l.members.tables.now) l.rest))
    ≡ list_any (is_same_signed_atom (signed_atom_of_member (member_in_tables l.tables l.row))) (signed_atoms_of_view l.members)

abbrev pub decreases-loop-other : goal.decreases-loop-other
decreases-loop-other l = length l.rest
