use Rattle.sudoers_tree.proofs.Common.{alias_names_in_host_group, bits_with_names_added, drop, flat_map, host_group_in_tables, map, ◌≡◌}
use Rattle.sudoers_tree.proofs.name_bits.add_bits_of_host_groups.Given as goal

abbrev pub invariant-loop-row : goal.invariant-loop-row
invariant-loop-row l =
    bits_with_names_added l.bits (flat_map alias_names_in_host_group (map (host_group_in_tables l.groups.tables.now) (drop l.row-index l.groups.rows.now)))
    ≡ bits_with_names_added l.initial.bits (flat_map alias_names_in_host_group (map (host_group_in_tables l.groups.tables.now) l.groups.rows.now))
