use Rattle.sudoers_edit.proofs.Common.{AliasDefinitionRow, Def, alias_definition_in_tables, ap₂, definition_without_member, is_same_def, ◌∙◌}
use Rattle.sudoers_edit.proofs.AlikeLemmas.{alike_of_equal_rows_is_equal}
use Rattle.sudoers_edit.proofs.ChangedLemmas.{alike_rows_with_change_have_alike_parts, change_past_first_rows_keeps_alike, change_past_second_rows_keeps_alike}
use Rattle.sudoers_edit.proofs.extra_item.ExtraItem.are_definitions_alike_without_member.Goals as goal
use Rattle.sudoers_edit.proofs.extra_item.ExtraItem.are_definitions_alike_without_member.Goals.{then-def-more-via-then-def-more, then-def-more-via-else-def-more+then-def-less}

pub returns-then-def-more : goal.returns-then-def-more
returns-then-def-more c =
    let f : AliasDefinitionRow → Def = alias_definition_in_tables c.args.more.now.tables.now in
    let g : AliasDefinitionRow → Def = alias_definition_in_tables c.args.less.now.tables.now in
    c.are_row_lists_alike.ensures
    ∙ elim c.then-def-more.branch [
      | then-def-more-via-then-def-more w ↦
          change_past_first_rows_keeps_alike is_same_def (definition_without_member c.args.self.at) f g c.args.more.now.rows.now c.args.less.now.rows.now c.args.def w.if-def-more.true
      | then-def-more-via-else-def-more+then-def-less w ↦
          change_past_second_rows_keeps_alike is_same_def (definition_without_member c.args.self.at) f g c.args.more.now.rows.now c.args.less.now.rows.now c.args.def w.if-def-less.true
    ]

pub returns : goal.returns
returns c =
    let none : AliasDefinitionRow = record { name = record { from = 0; to = 0 }; start = 0; members = record { from = 0; to = 0 } } in
    alike_rows_with_change_have_alike_parts is_same_def (definition_without_member c.args.self.at) (alias_definition_in_tables c.args.more.now.tables.now) (alias_definition_in_tables c.args.less.now.tables.now) c.args.more.now.rows.now c.args.less.now.rows.now
    c.args.def none none c.are_row_lists_alike-2.result c.is_definition_alike_without-here.result c.are_row_lists_alike-3.result c.if-def-more.false c.if-def-less.false
    (c.are_row_lists_alike-2.ensures ∙ alike_of_equal_rows_is_equal is_same_def alias_definition_in_tables _ _ _ _ _ _ _ _ c.take_first_rows.ensures.tables c.take_first_rows-2.ensures.tables c.take_first_rows.ensures.rows c.take_first_rows-2.ensures.rows)
    (c.is_definition_alike_without-here.ensures ∙ ap₂ (λ d e. is_same_def (definition_without_member c.args.self.at d) e) c.alias_definition_of_row.ensures c.alias_definition_of_row-2.ensures)
    (c.are_row_lists_alike-3.ensures ∙ alike_of_equal_rows_is_equal is_same_def alias_definition_in_tables _ _ _ _ _ _ _ _ c.drop_first_rows.ensures.tables c.drop_first_rows-2.ensures.tables c.drop_first_rows.ensures.rows c.drop_first_rows-2.ensures.rows)
