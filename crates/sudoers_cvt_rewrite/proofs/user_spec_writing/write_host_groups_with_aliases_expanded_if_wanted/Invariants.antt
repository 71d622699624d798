use Rattle.sudoers_cvt_rewrite.proofs.Common.{AreTablesAlikeButLists, IsTableExtension, Tables, drop, host_group_expanded_if, host_group_in_tables, host_group_of_filtered, host_groups_member_count, map, true, ◌++◌}
use Rattle.sudoers_cvt_rewrite.proofs.Common.{◌+◌, ◌≡◌}
use Rattle.sudoers_cvt_rewrite.proofs.user_spec_writing.write_host_groups_with_aliases_expanded_if_wanted.Given as goal

abbrev pub invariant-loop-group : goal.invariant-loop-group
invariant-loop-group l =
    let base = l.source.lines.tables.now in
    let written = host_group_expanded_if l.source.expand l.source.policy.now in
    let rest = map (host_group_of_filtered base) (drop l.group-index l.groups) in
    let all = map (host_group_of_filtered base) l.groups in
    record {
      extended : IsTableExtension l.fn.tables l.tables;
      like : AreTablesAlikeButLists base l.tables;
      appended : (u : Tables) → IsTableExtension l.tables u → map (host_group_in_tables u) l.out.items ++ map written rest ≡ map written all;
      counted : l.source.expand ≡ true → l.tally.count + host_groups_member_count (map written rest) ≡ l.fn.tally.count + host_groups_member_count (map written all);
    }
