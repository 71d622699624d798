use Rattle.std.proofs.Common.{◌≡◌, length, map}
use Rattle.sudoers_line_rows.specs.Tables.{member_in_tables}
use Rattle.sudoers_match_list.specs.Flat.{signed_atom_of_member}
use Rattle.laws_compare.specs.Decided.{has_each_unnegated_atom}
use Rattle.sudoers_compare.specs.FlatRow.{signed_atoms_of_view}
use Rattle.sudoers_compare.proofs.member_index.has_each_unnegated_indexed_member.Given as goal

abbrev pub invariant-loop-row : goal.invariant-loop-row
invariant-loop-row l =
    has_each_unnegated_atom (signed_atoms_of_view l.wide) (map signed_atom_of_member (map (member_in_tables l.narrow.tables.now) l.rest))
    ≡ has_each_unnegated_atom (signed_atoms_of_view l.wide) (signed_atoms_of_view l.narrow)

abbrev pub decreases-loop-row : goal.decreases-loop-row
decreases-loop-row l = length l.rest
