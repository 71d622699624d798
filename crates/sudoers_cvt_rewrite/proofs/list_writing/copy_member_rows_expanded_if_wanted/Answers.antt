use Rattle.std.proofs.Common.{map, ap, sym, ◌∙◌}
use Rattle.sudoers_line_rows.specs.Tables.{member_in_tables}
use Rattle.sudoers_cvt_rewrite.specs.internal.Written.{list_expanded_if}
use Rattle.sudoers_cvt_rewrite.proofs.NoAliases.{list_without_aliases_stays}
use Rattle.sudoers_cvt_rewrite.proofs.list_writing.copy_member_rows_expanded_if_wanted.Goals as goal
use Rattle.sudoers_cvt_rewrite.proofs.list_writing.copy_member_rows_expanded_if_wanted.Goals.{else-source-via-then-source+else-has_alias_member, else-source-via-else-source}

pub returns-in_ok-from_slice-clause-rows : goal.returns-in_ok-from_slice-clause-rows
returns-in_ok-from_slice-clause-rows c =
    let tables = c.args.source.now.lines.tables.now in
    let copied = ap (map (member_in_tables tables)) c.in_ok-from_slice.ensures.items in
    elim c.else-source.branch [
      | else-source-via-then-source+else-has_alias_member w ↦
          copied ∙ sym (list_without_aliases_stays c.args.source.now.expand tables c.args.kind c.args.source.now.policy.now c.args.rows.now (sym w.has_alias_member.ensures ∙ w.if-has_alias_member.false))
      | else-source-via-else-source w ↦
          copied ∙ sym (ap (λ e. list_expanded_if e c.args.kind c.args.source.now.policy.now (map (member_in_tables tables) c.args.rows.now)) w.if-source.false)
    ]
