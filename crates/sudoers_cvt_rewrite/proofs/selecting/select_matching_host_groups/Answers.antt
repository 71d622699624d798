use Rattle.sudoers_cvt_rewrite.proofs.Common.{Global, HostGroupRow, List, Vec, ap, drop, host_group_in_tables, host_group_of_filtered, host_groups_left_by_filter, map, optional_host_group_of_filtered, sym, ◌++◌, ◌+◌}
use Rattle.sudoers_cvt_rewrite.proofs.Common.{◌∙◌}
use Rattle.sudoers_cvt_rewrite.specs.declared.selecting.FilteredHostGroup.{FilteredHostGroup}
use Rattle.sudoers_cvt_rewrite.proofs.GroupsLeft.{group_falls, group_stays}
use Rattle.sudoers_match_list.proofs.Appended.{pushed_row_takes_next_value}
use Rattle.sudoers_cvt_rewrite.proofs.Straights.{hosts_of_acyclic_group_row_are_acyclic}
use Rattle.sudoers_cvt_rewrite.proofs.selecting.select_matching_host_groups.Goals as goal
use Rattle.sudoers_cvt_rewrite.proofs.selecting.select_matching_host_groups.Goals.{in-Some+in_ok-push, in_default}

pub select_matching_host_group-requires-clause-straight : goal.select_matching_host_group-requires-clause-straight
select_matching_host_group-requires-clause-straight c =
    hosts_of_acyclic_group_row_are_acyclic c.args.base.now c.args.rows.now c.args.asked.now.policy.now c.loop-row.row-index _ c.loop-row-test.true c.requires.straight

pub loop-row-preserved : goal.loop-row-preserved
loop-row-preserved c =
    let base = c.args.base.now in
    let lines = c.args.asked.now.policy.now in
    let f = c.args.asked.now.filter.now in
    let prune = c.args.asked.now.prune in
    let rows = c.args.rows.now in
    let i = c.loop-row.row-index in
    let so_far = c.loop-row.invariant in
    let behind = λ (rs : List HostGroupRow). host_groups_left_by_filter lines f prune (map (host_group_in_tables base) rs) in
    let is = c.in_ok-group.ensures.left in
    let kept = c.in_ok-group.ensures.kept in
    elim c.match-branch-2.branch [
      | in-Some+in_ok-push w ↦ record {
        kept = kept;
        left = pushed_row_takes_next_value (host_group_of_filtered base) c.loop-row.out.items c.match-branch-2.out.items w.in-Some.group (behind (drop i rows)) (behind (drop (i + 1) rows)) (behind rows)
            (ap (λ (v : Vec FilteredHostGroup Global). v.items) w.out-is ∙ w.in_ok-push.ensures.items)
            (group_stays lines f prune (host_group_in_tables base) rows i _ c.loop-row-test.true (host_group_of_filtered base w.in-Some.group) (ap (optional_host_group_of_filtered base) (sym w.in-Some.is) ∙ is))
            so_far.left;
      }
      | in_default w ↦ record {
        kept = kept;
        left = ap (λ (v : Vec FilteredHostGroup Global). map (host_group_of_filtered base) v.items ++ behind (drop (i + 1) rows)) w.out-is
            ∙ ap (λ gs. map (host_group_of_filtered base) c.loop-row.out.items ++ gs)
            (sym (group_falls lines f prune (host_group_in_tables base) rows i _ c.loop-row-test.true (ap (optional_host_group_of_filtered base) (sym w.in_default.is) ∙ is)))
            ∙ so_far.left;
      }
    ]
