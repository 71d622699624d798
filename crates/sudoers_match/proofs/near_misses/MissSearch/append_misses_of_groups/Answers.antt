use Rattle.sudoers_match.proofs.Common.{Has_at, HostGroup, host_group_in_tables, host_group_of_view, host_groups_of_view}
use Rattle.sudoers_match.proofs.Gathered.{mapped_row_is_at_its_index}
use Rattle.sudoers_match.proofs.near_misses.MissSearch.append_misses_of_groups.Goals as goal

pub append_misses_of_group-requires-clause-straight : goal.append_misses_of_group-requires-clause-straight
append_misses_of_group-requires-clause-straight c =
    let groups = c.args.groups.now in
    let g : HostGroup = host_group_of_view c.host_group_of_row-group.result in
    c.requires.straight g (Has_at (host_groups_of_view groups) c.loop-row.row-index g
    (mapped_row_is_at_its_index (host_group_in_tables groups.tables.now) groups.rows.now c.loop-row.row-index _ c.loop-row-test.true g c.host_group_of_row-group.ensures))
