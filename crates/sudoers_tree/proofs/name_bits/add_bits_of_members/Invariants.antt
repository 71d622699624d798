use Rattle.sudoers_tree.proofs.Common.{alias_names_in_members, bits_with_names_added, drop, map, member_in_tables, ◌≡◌}
use Rattle.sudoers_tree.proofs.name_bits.add_bits_of_members.Given as goal

abbrev pub invariant-loop-row : goal.invariant-loop-row
invariant-loop-row l =
    bits_with_names_added l.bits (alias_names_in_members (map (member_in_tables l.members.tables.now) (drop l.row-index l.members.rows.now)))
    ≡ bits_with_names_added l.initial.bits (alias_names_in_members (map (member_in_tables l.members.tables.now) l.members.rows.now))
