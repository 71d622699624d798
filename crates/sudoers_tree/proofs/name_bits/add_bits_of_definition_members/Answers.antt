use Rattle.sudoers_tree.proofs.Common.{Def, List, Member, alias_definition_in_tables, alias_names_in_members, ap, bits_with_names_added, refl, ◌∙◌}
use Rattle.sudoers_tree.proofs.AddedBits.{bits_go_on_after_row}
use Rattle.sudoers_tree.proofs.name_bits.add_bits_of_definition_members.Goals as goal

pub loop-row-preserved : goal.loop-row-preserved
loop-row-preserved c =
    bits_go_on_after_row (λ (d : Def). alias_names_in_members d.members) (alias_definition_in_tables c.args.defs.now.tables.now) c.args.defs.now.rows.now c.loop-row.row-index _ _ c.loop-row.bits
    c.add_bits_of_members.new.bits _ c.loop-row-test.true refl
    (c.add_bits_of_members.ensures ∙ ap (λ (ms : List Member). bits_with_names_added c.loop-row.bits (alias_names_in_members ms)) c.members_of_row_range.ensures) c.loop-row.invariant
