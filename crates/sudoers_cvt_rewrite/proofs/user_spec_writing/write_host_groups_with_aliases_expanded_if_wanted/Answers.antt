use Rattle.sudoers_cvt_rewrite.proofs.Common.{HostGroup, List, ap, at_drop_all, commands_of_range_in_tables, drop, get_or, host_group_expanded_if, host_group_in_tables, host_group_of_filtered, host_group_of_lists, map}
use Rattle.sudoers_cvt_rewrite.proofs.Common.{member_in_tables, ◌+◌, ◌∙◌, ◌≡◌}
use Rattle.sudoers_cvt_rewrite.specs.declared.selecting.FilteredHostGroup.{FilteredHostGroup}
use Rattle.sudoers_cvt_rewrite.proofs.Extending.{table_extension_is_transitive, table_likeness_is_transitive}
use Rattle.sudoers_match_list.proofs.Appended.{empty_rest_leaves_written_items, pushed_row_takes_next_value}
use Rattle.sudoers_cvt_rewrite.proofs.Steps.{seen_counted, seen_next}
use Rattle.sudoers_cvt_rewrite.proofs.user_spec_writing.write_host_groups_with_aliases_expanded_if_wanted.Goals as goal

pub loop-group-preserved : goal.loop-group-preserved
loop-group-preserved c =
    let base = c.args.source.now.lines.tables.now in
    let written = host_group_expanded_if c.args.source.now.expand c.args.source.now.policy.now in
    let groups = c.args.groups.now in
    let i = c.loop-group.group-index in
    let view = host_group_of_filtered base in
    let behind = λ (gs : List FilteredHostGroup). map written (map view gs) in
    let grown = c.in_ok-write_host_group_with_aliases_expanded_if_wanted.ensures.extended in
    let one = c.group-item.result in
    let seen : HostGroup = host_group_of_lists (map (member_in_tables base) c.as_slice-hosts.result.now) (commands_of_range_in_tables base one.commands) in
    let is : seen ≡ view (get_or groups i one) = ap (λ hs. host_group_of_lists (map (member_in_tables base) hs) (commands_of_range_in_tables base one.commands)) c.as_slice-hosts.ensures.value ∙ ap view c.group-item.is in
    record {
      extended = table_extension_is_transitive _ _ _ c.loop-group.invariant.extended grown;
      like = table_likeness_is_transitive _ _ _ c.loop-group.invariant.like grown.like;
      appended = λ u ext. pushed_row_takes_next_value (host_group_in_tables u) c.loop-group.out.items c.push.new.self.items _ (behind (drop i groups)) (behind (drop (i + 1) groups)) _ c.in_ok-push.ensures.items
          (seen_next view written groups i one seen (host_group_in_tables u c.in_ok-write_host_group_with_aliases_expanded_if_wanted.field-0) c.loop-group-test.true is (c.in_ok-write_host_group_with_aliases_expanded_if_wanted.ensures.stays u ext))
          (c.loop-group.invariant.appended u (table_extension_is_transitive _ _ _ grown ext));
      counted = λ e. seen_counted view written groups i one seen c.loop-group.tally.count _ _ c.loop-group-test.true is
          (c.in_ok-write_host_group_with_aliases_expanded_if_wanted.ensures.counted e) (c.loop-group.invariant.counted e);
    }

pub returns-clause-stays : goal.returns-clause-stays
returns-clause-stays c =
    let base = c.args.source.now.lines.tables.now in
    let written = host_group_expanded_if c.args.source.now.expand c.args.source.now.policy.now in
    let groups = c.args.groups.now in
    let behind = λ (gs : List FilteredHostGroup). map written (map (host_group_of_filtered base) gs) in
    c.in_ok-append_host_group_rows.ensures.stays (behind groups) (λ u ext.
    ap (map (host_group_in_tables u)) c.as_slice.ensures.value
    ∙ empty_rest_leaves_written_items _ (behind (drop c.loop-group.group-index groups)) _ (at_drop_all behind groups c.loop-group.group-index c.loop-group-test.false) (c.loop-group.invariant.appended u ext))
