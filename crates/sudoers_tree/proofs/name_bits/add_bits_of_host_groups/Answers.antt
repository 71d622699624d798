use Rattle.sudoers_tree.proofs.Common.{alias_names_in_command, alias_names_in_host_group, alias_names_in_members, ap, bits_with_names_added, flat_map, host_group_in_tables, host_group_of_view, sym, ℕ, ◌∙◌}
use Rattle.sudoers_tree.proofs.AddedBits.{bits_of_appended_names_are_added_in_turn, bits_go_on_after_row}
use Rattle.sudoers_tree.proofs.name_bits.add_bits_of_host_groups.Goals as goal

pub loop-row-preserved : goal.loop-row-preserved
loop-row-preserved c =
    bits_go_on_after_row alias_names_in_host_group (host_group_in_tables c.args.groups.now.tables.now) c.args.groups.now.rows.now c.loop-row.row-index _ (host_group_of_view c.host_group_of_row-group.result)
    c.loop-row.bits c.add_bits_of_commands.new.bits _ c.loop-row-test.true c.host_group_of_row-group.ensures
    (c.add_bits_of_commands.ensures
    ∙ ap (λ (m : ℕ). bits_with_names_added m (flat_map alias_names_in_command (host_group_of_view c.host_group_of_row-group.result).commands)) c.add_bits_of_members.ensures
    ∙ sym (bits_of_appended_names_are_added_in_turn c.loop-row.bits (alias_names_in_members (host_group_of_view c.host_group_of_row-group.result).hosts)
    (flat_map alias_names_in_command (host_group_of_view c.host_group_of_row-group.result).commands)))
    c.loop-row.invariant
