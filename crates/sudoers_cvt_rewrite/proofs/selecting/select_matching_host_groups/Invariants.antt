use Rattle.sudoers_cvt_rewrite.proofs.Common.{IsValidFilterMatcher, drop, host_group_in_tables, host_group_of_filtered, host_groups_left_by_filter, map, ◌++◌, ◌≡◌}
use Rattle.sudoers_cvt_rewrite.proofs.selecting.select_matching_host_groups.Given as goal

abbrev pub invariant-loop-row : goal.invariant-loop-row
invariant-loop-row l =
    let lines = l.asked.policy.now in
    let f = l.asked.filter.now in
    record {
      kept : IsValidFilterMatcher lines f l.matcher;
      left : map (host_group_of_filtered l.base) l.out.items ++ host_groups_left_by_filter lines f l.asked.prune (map (host_group_in_tables l.base) (drop l.row-index l.rows))
          ≡ host_groups_left_by_filter lines f l.asked.prune (map (host_group_in_tables l.base) l.rows);
    }
