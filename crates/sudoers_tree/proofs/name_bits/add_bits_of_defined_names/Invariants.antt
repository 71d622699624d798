use Rattle.sudoers_tree.proofs.Common.{Def, alias_definition_in_tables, bits_with_names_added, drop, map, ◌≡◌}
use Rattle.sudoers_tree.proofs.name_bits.add_bits_of_defined_names.Given as goal

abbrev pub invariant-loop-row : goal.invariant-loop-row
invariant-loop-row l =
    bits_with_names_added l.bits (map (λ (d : Def). d.name) (map (alias_definition_in_tables l.defs.tables.now) (drop l.row-index l.defs.rows.now)))
    ≡ bits_with_names_added l.initial.bits (map (λ (d : Def). d.name) (map (alias_definition_in_tables l.defs.tables.now) l.defs.rows.now))
