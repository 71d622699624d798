use Rattle.sudoers_cvt_rewrite.proofs.Common.{HostGroupRow, IfOk-weaker, List, MemberRow, Node, ap, ap₂, node_or_blank_left_by_filter, host_group_in_tables, map, member_in_tables, node_in_tables, node_of_filtered_line, slice_range}
use Rattle.sudoers_cvt_rewrite.proofs.Common.{sym, ◌∙◌, ◌≡◌}
use Rattle.sudoers_grammar.specs.Node as node
use Rattle.sudoers_line_rows.specs.declared.rows.NodeRow.{NodeRow}
use Rattle.sudoers_cvt_rewrite.specs.declared.selecting.FilteredLine.{FilteredLine}
use Rattle.sudoers_cvt_rewrite.proofs.selecting.select_filtered_node.Goals as goal

pub returns-in-Spec-clause-left : goal.returns-in-Spec-clause-left
returns-in-Spec-clause-left c =
    let base = c.args.base.now in
    let left = node_or_blank_left_by_filter c.args.asked.now.policy.now c.args.asked.now.filter.now c.args.asked.now.prune in
    let users = c.in-Spec.users in
    let groups = c.in-Spec.groups in
    let said : Node = node.Spec (map (member_in_tables base) c.rows_in-rows.result.now) (map (host_group_in_tables base) c.rows_in-groups.result.now) in
    let is : said ≡ node_in_tables base c.args.row.now =
    ap₂ node.Spec
    (ap (map (member_in_tables base)) (c.rows_in-rows.ensures ∙ ap (λ (t : List MemberRow). slice_range t users.from users.to) c.as_slice.ensures.value))
    (ap (map (host_group_in_tables base)) (c.rows_in-groups.ensures ∙ ap (λ (t : List HostGroupRow). slice_range t groups.from groups.to) c.as_slice-in-Spec.ensures.value))
    ∙ ap (node_in_tables base) (sym c.in-Spec.is) in
    IfOk-weaker c.select_filtered_spec.result
    (λ (choice : FilteredLine). (row : NodeRow) → node_of_filtered_line base row choice ≡ left said)
    (λ (choice : FilteredLine). node_of_filtered_line base c.args.row.now choice ≡ left (node_in_tables base c.args.row.now))
    (λ choice h. h c.args.row.now ∙ ap left is)
    c.select_filtered_spec.ensures.left
