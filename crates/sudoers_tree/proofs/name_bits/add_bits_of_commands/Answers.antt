use Rattle.sudoers_tree.proofs.AddedBits.{bits_go_on_after_command}
use Rattle.sudoers_tree.proofs.name_bits.add_bits_of_commands.Goals as goal

pub loop-row-preserved : goal.loop-row-preserved
loop-row-preserved c =
    bits_go_on_after_command c.args.commands.now.tables.now c.args.commands.now.rows.now c.loop-row.row-index _ c.loop-row.bits c.add_bits_of_runas.new.bits c.add_bits_of_alias_member.new.bits _
    c.loop-row-test.true c.add_bits_of_runas.ensures c.add_bits_of_alias_member.ensures c.loop-row.invariant
