use Rattle.sudoers_check.proofs.Common.{Def, List, alias_definition_in_tables, ap, ap₂, arith, definitions_of_lines, has_undefined_alias_among_members, length, map, sym, ◌<◌, ◌||◌, ◌∙◌}
use Rattle.std.proofs.lemmas.Grind.{common_steps}
use Rattle.std.proofs.lemmas.List.{get_or-map, length-map}
use Rattle.std.proofs.lemmas.List.Folds.{list_any_more}
use Rattle.sudoers_line_rows.specs.declared.rows.AliasDefinitionRow.{AliasDefinitionRow}
use Rattle.sudoers_check.proofs.definition_numbers.DefinitionNumbers.append_nodes_of_definitions.Goals as goal

pub loop-row-preserved : goal.loop-row-preserved
loop-row-preserved c =
    let ds = definitions_of_lines c.args.self.now.walk in
    let def = alias_definition_in_tables c.args.defs.now.tables.now in
    let rows : List AliasDefinitionRow = c.args.defs.now.rows.now in
    let i = c.loop-row.row-index in
    let none : AliasDefinitionRow = record { name = record { from = 0; to = 0 }; start = 0; members = record { from = 0; to = 0 } } in
    let within : i < length (map def rows) = omega (arith, length-map rows def, c.loop-row-test.true) in
    record {
      nodes = grind (arith, common_steps);
      undefined =
          c.in_ok-numbers_of_members.ensures.undefined
          ∙ ap₂ (λ a b. a || b) c.loop-row.invariant.undefined
          (ap (has_undefined_alias_among_members ds c.args.kind) (c.members_of_row_range-members.ensures ∙ ap (λ (d : Def). d.members) (sym (get_or-map def rows i none (def none) c.loop-row-test.true))))
          ∙ sym (list_any_more (λ (d : Def). has_undefined_alias_among_members ds c.args.kind d.members) (map def rows) i (def none) within);
    }
