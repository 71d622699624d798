use Rattle.sudoers_cvt_rewrite.proofs.Common.{ap, map, member_in_tables, ◌∙◌}
use Rattle.sudoers_cvt_rewrite.proofs.Extending.{members_like}
use Rattle.sudoers_cvt_rewrite.proofs.list_writing.count_and_write_list_expanded_if_wanted.Goals as goal

pub returns-clause-stays : goal.returns-clause-stays
returns-clause-stays c u e =
    c.in_ok-append_member_rows.ensures.stays u e
    ∙ ap (map (member_in_tables c.args.tables.now)) c.as_slice.ensures.value
    ∙ members_like c.args.source.now.lines.tables.now c.args.tables.now c.requires c.in_ok-flat.flat.items
    ∙ c.in_ok-flat.ensures.rows
