use Rattle.sudoers_cvt_rewrite.proofs.Common.{IfOk-weaker, IsRowRangeFromTo, RowKeepsMeaning, RowRange, Tables, ap, length, map, member_in_tables, members_of_range_in_tables, ◌++◌, ◌∙◌, ◌≡◌}
use Rattle.sudoers_line_rows.proofs.Growth.{appended_rows_stand_in_their_range}
use Rattle.sudoers_cvt_rewrite.proofs.Extending.{members_like}
use Rattle.sudoers_cvt_rewrite.proofs.copied_tables.append_member_rows.Goals as goal

pub returns-clause-stays : goal.returns-clause-stays
returns-clause-stays c =
    let old = c.args.tables.now in
    let rows = c.args.rows.now in
    let new : Tables = record { bytes = old.bytes; digests = old.digests; members = c.append_table_rows.new.table; options = old.options; tags = old.tags; commands = old.commands; groups = old.groups; defs = old.defs; params = old.params } in
    let all : (range : RowRange) → (new.members.items ≡ old.members.items ++ rows) × IsRowRangeFromTo range (length old.members.items) (length new.members.items)
    → RowKeepsMeaning members_of_range_in_tables new range (map (member_in_tables old) rows) = λ range kept u e.
    ap (map (member_in_tables u)) (appended_rows_stand_in_their_range old.members.items new.members.items u.members.items rows range.from range.to kept.0 kept.1.0 kept.1.1 e.members)
    ∙ members_like old u (record { bytes = e.like.bytes; digests = e.like.digests; options = e.like.options; tags = e.like.tags; params = e.like.params }) rows in
    IfOk-weaker c.append_table_rows.result _ (λ range. RowKeepsMeaning members_of_range_in_tables new range (map (member_in_tables old) rows)) all c.append_table_rows.ensures.kept
