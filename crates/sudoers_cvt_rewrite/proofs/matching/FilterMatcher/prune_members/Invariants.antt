use Rattle.sudoers_cvt_rewrite.proofs.Common.{IsValidFilterMatcher, drop, filter, is_member_kept_by_filter, map, member_in_tables, ◌++◌, ◌≡◌}
use Rattle.sudoers_cvt_rewrite.proofs.matching.FilterMatcher.prune_members.Given as goal

abbrev pub invariant-loop-row : goal.invariant-loop-row
invariant-loop-row l =
    let keeps = is_member_kept_by_filter l.kind l.asked.policy.now l.asked.filter.now in
    let shown = member_in_tables l.members.tables.now in
    record {
      kept : IsValidFilterMatcher l.asked.policy.now l.asked.filter.now l.self;
      left : map shown l.left.items ++ filter keeps (map shown (drop l.row-index l.members.rows.now)) ≡ filter keeps (map shown l.members.rows.now);
    }
