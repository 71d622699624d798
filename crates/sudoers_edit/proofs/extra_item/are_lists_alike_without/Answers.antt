use Rattle.sudoers_edit.proofs.Common.{◌∙◌}
use Rattle.sudoers_edit.proofs.AlikeLemmas.{alike_of_equal_rows_is_equal, alike_rows_without_row_have_alike_parts}
use Rattle.sudoers_edit.proofs.extra_item.are_lists_alike_without.Goals as goal

pub returns : goal.returns
returns g c =
    alike_rows_without_row_have_alike_parts g.T.ComparableRow.alike (g.T.ComparableRow.said c.args.more.now.tables.now) (g.T.ComparableRow.said c.args.less.now.tables.now) c.args.more.now.rows.now c.args.less.now.rows.now
    c.args.at c.are_row_lists_alike-2.result c.are_row_lists_alike-3.result c.if-at-more.false c.if-at-less.false
    (c.are_row_lists_alike-2.ensures ∙ alike_of_equal_rows_is_equal g.T.ComparableRow.alike g.T.ComparableRow.said _ _ _ _ _ _ _ _ c.take_first_rows.ensures.tables c.take_first_rows-2.ensures.tables c.take_first_rows.ensures.rows c.take_first_rows-2.ensures.rows)
    (c.are_row_lists_alike-3.ensures ∙ alike_of_equal_rows_is_equal g.T.ComparableRow.alike g.T.ComparableRow.said _ _ _ _ _ _ _ _ c.drop_first_rows.ensures.tables c.drop_first_rows-2.ensures.tables c.drop_first_rows.ensures.rows c.drop_first_rows-2.ensures.rows)
