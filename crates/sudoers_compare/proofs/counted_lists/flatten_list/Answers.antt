use Rattle.std.proofs.Common.{ap, length, map, sym, ◌∙◌}
use Rattle.sudoers_line_rows.specs.Tables.{member_in_tables}
use Rattle.sudoers_tree.specs.Definition.{definitions_of_lines}
use Rattle.sudoers_compare.proofs.KeptMembers.{list_that_stays_stays_n_times}
use Rattle.sudoers_compare.proofs.counted_lists.flatten_list.Goals as goal

pub returns-then-has_no_alias : goal.returns-then-has_no_alias
returns-then-has_no_alias c =
    let t = c.args.source.now.lines.tables.now in
    let lines = c.args.source.now.policy.now in
    ap (map (member_in_tables t)) c.in_ok-from_slice.ensures.items
    ∙ sym (list_that_stays_stays_n_times (length (definitions_of_lines lines)) c.args.kind lines (map (member_in_tables t) c.args.rows.now) (c.has_no_alias.ensures c.if-has_no_alias.true t c.args.kind lines))
