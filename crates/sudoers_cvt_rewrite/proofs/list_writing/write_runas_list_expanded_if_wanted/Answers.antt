use Rattle.sudoers_cvt_rewrite.proofs.Common.{Runas, ap, list_expanded_if, map, member_in_tables, slice_range, ◌∙◌}
use Rattle.sudoers_cvt_rewrite.proofs.Extending.{members_like}
use Rattle.sudoers_cvt_rewrite.proofs.list_writing.write_runas_list_expanded_if_wanted.Goals as goal

pub returns-clause-stays : goal.returns-clause-stays
returns-clause-stays c u e =
    let base = c.args.source.now.lines.tables.now in
    c.in_ok-append_member_rows.ensures.stays u e
    ∙ ap (map (member_in_tables c.args.tables.now)) c.as_slice-2.ensures.value
    ∙ members_like base c.args.tables.now c.requires c.in_ok-flat.flat.items
    ∙ c.in_ok-flat.ensures.rows
    ∙ ap (λ rows. list_expanded_if c.args.source.now.expand Runas c.args.source.now.policy.now (map (member_in_tables base) rows))
    (c.rows_in-rows.ensures ∙ ap (λ ms. slice_range ms c.args.range.from c.args.range.to) c.as_slice.ensures.value)
