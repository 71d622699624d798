use Rattle.sudoers_cvt_rewrite.proofs.Common.{◌∙◌}
use Rattle.sudoers_cvt_rewrite.proofs.Extending.{members_like}
use Rattle.sudoers_cvt_rewrite.proofs.list_writing.write_unchanged_list.Goals as goal

pub returns-clause-stays : goal.returns-clause-stays
returns-clause-stays c u e =
    c.in_ok-append_member_rows.ensures.stays u e
    ∙ members_like c.args.source.now.lines.tables.now c.args.tables.now c.requires c.args.rows.now
