use Rattle.std.proofs.Common.{◌≡◌, length, map}
use Rattle.sudoers_line_rows.specs.Tables.{member_in_tables}
use Rattle.sudoers_match_list.specs.Flat.{signed_atom_of_member}
use Rattle.laws_compare.specs.Decided.{has_all_in_force}
use Rattle.sudoers_compare.specs.AllInForce.{all_is_in_force_behind}
use Rattle.sudoers_compare.specs.FlatRow.{signed_atoms_of_view}
use Rattle.sudoers_compare.proofs.flat_lists.has_all_in_force.Given as goal

abbrev pub invariant-loop-row : goal.invariant-loop-row
invariant-loop-row l =
    all_is_in_force_behind l.so_far (map signed_atom_of_member (map (member_in_tables l.members.tables.now) l.rest))
    ≡ has_all_in_force (signed_atoms_of_view l.members)

abbrev pub decreases-loop-row : goal.decreases-loop-row
decreases-loop-row l = length l.rest
