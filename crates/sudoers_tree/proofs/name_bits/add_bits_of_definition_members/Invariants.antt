use Rattle.sudoers_tree.proofs.Common.{Def, alias_definition_in_tables, alias_names_in_members, bits_with_names_added, drop, flat_map, map, ◌≡◌}
use Rattle.sudoers_tree.proofs.name_bits.add_bits_of_definition_members.Given as goal

abbrev pub invariant-loop-row : goal.invariant-loop-row
invariant-loop-row l =
    bits_with_names_added l.bits (flat_map (λ (d : Def). alias_names_in_members d.members) (map (alias_definition_in_tables l.defs.tables.now) (drop l.row-index l.defs.rows.now)))
    ≡ bits_with_names_added l.initial.bits (flat_map (λ (d : Def). alias_names_in_members d.members) (map (alias_definition_in_tables l.defs.tables.now) l.defs.rows.now))
