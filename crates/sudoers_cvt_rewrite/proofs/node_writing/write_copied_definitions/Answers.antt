use Rattle.sudoers_cvt_rewrite.proofs.Common.{Def, IfOk-weaker, List, RowKeepsMeaning, RowRange, RowsKeepMeaning, alias_definition_in_tables, alias_definitions_of_range_in_tables, ap, at_drop_all, at_drop_more, drop, map}
use Rattle.sudoers_cvt_rewrite.proofs.Common.{sym, ◌+◌, ◌∙◌, ◌∷◌}
use Rattle.sudoers_cvt_rewrite.proofs.Extending.{table_extension_is_transitive, table_likeness_is_transitive}
use Rattle.sudoers_match_list.proofs.Appended.{empty_rest_leaves_written_items, pushed_row_takes_next_value}
use Rattle.sudoers_cvt_rewrite.proofs.node_writing.write_copied_definitions.Goals as goal

pub loop-row-preserved : goal.loop-row-preserved
loop-row-preserved c =
    let base = c.args.base.now in
    let rows = c.args.rows.now in
    let i = c.loop-row.row-index in
    let tail = map (alias_definition_in_tables base) (drop (i + 1) rows) in
    let grown = c.in_ok-write_copied_definition.ensures.extended in
    record {
      extended = table_extension_is_transitive _ _ _ c.loop-row.invariant.extended grown;
      like = table_likeness_is_transitive _ _ _ c.loop-row.invariant.like grown.like;
      appended = λ u ext. pushed_row_takes_next_value (alias_definition_in_tables u) c.loop-row.out.items c.push.new.self.items _ (map (alias_definition_in_tables base) (drop i rows)) tail _ c.in_ok-push.ensures.items
          (at_drop_more (map (alias_definition_in_tables base)) rows i _ c.loop-row-test.true ∙ ap (λ (d : Def). d ∷ tail) (sym (c.in_ok-write_copied_definition.ensures.stays u ext)))
          (c.loop-row.invariant.appended u (table_extension_is_transitive _ _ _ grown ext));
    }

pub returns-clause-stays : goal.returns-clause-stays
returns-clause-stays c =
    let base = c.args.base.now in
    let rows = c.args.rows.now in
    let new = c.append_definition_rows.new.tables in
    let stays : RowsKeepMeaning alias_definition_in_tables c.loop-row.tables c.as_slice.result.now (map (alias_definition_in_tables base) rows) = λ u ext.
    ap (map (alias_definition_in_tables u)) c.as_slice.ensures.value
    ∙ empty_rest_leaves_written_items _ (map (alias_definition_in_tables base) (drop c.loop-row.row-index rows)) _ (at_drop_all (map (alias_definition_in_tables base)) rows c.loop-row.row-index c.loop-row-test.false) (c.loop-row.invariant.appended u ext) in
    let all : (range : RowRange) → ((defs : List Def) → RowsKeepMeaning alias_definition_in_tables c.loop-row.tables c.as_slice.result.now defs → RowKeepsMeaning alias_definitions_of_range_in_tables new range defs) → RowKeepsMeaning alias_definitions_of_range_in_tables new range (map (alias_definition_in_tables base) rows) =
    λ range h. h (map (alias_definition_in_tables base) rows) stays in
    IfOk-weaker c.append_definition_rows.result _ (λ range. RowKeepsMeaning alias_definitions_of_range_in_tables new range (map (alias_definition_in_tables base) rows)) all c.append_definition_rows.ensures.stays
