use Rattle.std.proofs.Common.{◌≡◌, length, map}
use Rattle.sudoers_line_rows.specs.Tables.{member_in_tables}
use Rattle.sudoers_match_list.specs.Flat.{last_hit_of_list, signed_atom_of_member}
use Rattle.laws_compare.specs.Effective.{is_allowed_by_flat_list}
use Rattle.sudoers_compare.specs.FlatRow.{signed_atoms_of_view}
use Rattle.sudoers_review_users.specs.FlatRows.{is_allowed_behind}
use Rattle.sudoers_review_users.proofs.flat_verdicts.is_allowed_by_flat_list.Given as goal

-- What the members so far say, and those behind, is what the list says.
abbrev pub invariant-loop-row : goal.invariant-loop-row
invariant-loop-row g l =
    is_allowed_behind l.allowed (last_hit_of_list (g.K.MemberKind.test l.asked) (map signed_atom_of_member (map (member_in_tables l.members.tables.now) l.rest)))
    ≡ is_allowed_by_flat_list (g.K.MemberKind.test l.asked) (signed_atoms_of_view l.members)

abbrev pub decreases-loop-row : goal.decreases-loop-row
decreases-loop-row g l = length l.rest
