use Rattle.sudoers_tree.proofs.Common.{alias_names_in_command, bits_with_names_added, command_in_tables, drop, flat_map, map, ◌≡◌}
use Rattle.sudoers_tree.proofs.name_bits.add_bits_of_commands.Given as goal

abbrev pub invariant-loop-row : goal.invariant-loop-row
invariant-loop-row l =
    bits_with_names_added l.bits (flat_map alias_names_in_command (map (command_in_tables l.commands.tables.now) (drop l.row-index l.commands.rows.now)))
    ≡ bits_with_names_added l.initial.bits (flat_map alias_names_in_command (map (command_in_tables l.commands.tables.now) l.commands.rows.now))
