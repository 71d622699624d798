use Rattle.std.proofs.Common.{◌≡◌, length, map}
use Rattle.sudoers_line_rows.specs.Tables.{member_in_tables}
use Rattle.sudoers_match_list.specs.Flat.{signed_atom_of_member}
use Rattle.sudoers_compare.specs.AtomNumbers.{bits_with_unnegated}
use Rattle.sudoers_compare.specs.FlatRow.{signed_atoms_of_view}
use Rattle.sudoers_compare.proofs.list_bits.bits_of_unnegated.Given as goal

abbrev pub invariant-loop-row : goal.invariant-loop-row
invariant-loop-row l =
    bits_with_unnegated l.bits (map signed_atom_of_member (map (member_in_tables l.members.tables.now) l.rest)) ≡ bits_with_unnegated 0 (signed_atoms_of_view l.members)

abbrev pub decreases-loop-row : goal.decreases-loop-row
decreases-loop-row l = length l.rest
