use Rattle.sudoers_match.proofs.Common.{AllByRecursion, AreRowsPerFlatAtomOfHostGroup, Has_at, HostGroup, List, Member, PrivilegeRow, arith, command_test_of_context, host_group_in_tables, host_group_of_view, host_groups_of_view, length-map, map, ℕ}
use Rattle.std.proofs.lemmas.Option.{slice_get_within}
use Rattle.sudoers_match.proofs.ForUsers.{one_below_more, parts_without_rows}
use Rattle.sudoers_match.proofs.Gathered.{mapped_row_is_at_its_index}
use Rattle.sudoers_match.specs.internal.AnyUser.{IsRowForNoUser}
use Rattle.sudoers_match.proofs.specs_for_users.has_group_for_some_user.Goals as goal

pub is_group_for_some_user-requires-clause-straight : goal.is_group_for_some_user-requires-clause-straight
is_group_for_some_user-requires-clause-straight c =
    let groups = c.args.groups.now in
    let g : HostGroup = host_group_of_view c.host_group_of_row-group.result in
    c.requires.straight g (Has_at (host_groups_of_view groups) c.loop-row.row-index g
    (mapped_row_is_at_its_index (host_group_in_tables groups.tables.now) groups.rows.now c.loop-row.row-index _ c.loop-row-test.true g c.host_group_of_row-group.ensures))

pub loop-row-preserved : goal.loop-row-preserved
loop-row-preserved c =
    let lines = c.args.asked.now.policy.now in
    let groups = c.args.groups.now in
    let g : HostGroup = host_group_of_view c.host_group_of_row-group.result in
    let at = mapped_row_is_at_its_index (host_group_in_tables groups.tables.now) groups.rows.now c.loop-row.row-index _ c.loop-row-test.true g c.host_group_of_row-group.ensures in
    record {
      question = c.in_ok-has.ensures.kept;
      none = one_below_more
          (λ (x : HostGroup). (i j : ℕ) (users : List Member) (rows : List PrivilegeRow) → AreRowsPerFlatAtomOfHostGroup lines i users j x rows
          → AllByRecursion (IsRowForNoUser lines (command_test_of_context c.args.asked.now) c.args.of_target c.args.asked.now.request.now) rows)
          (map (host_group_in_tables groups.tables.now) groups.rows.now) c.loop-row.row-index g at c.loop-row.invariant.none (c.in_ok-has.ensures.idle c.if-has.false);
    }

pub returns-clause-idle : goal.returns-clause-idle
returns-clause-idle c _ i users rows p =
    let groups = c.args.groups.now in
    let gs = map (host_group_in_tables groups.tables.now) groups.rows.now in
    let asked = c.args.asked.now in
    parts_without_rows asked.policy.now (command_test_of_context asked) c.args.of_target asked.request.now (AreRowsPerFlatAtomOfHostGroup asked.policy.now i users) gs
    (λ n x e j rs q. c.loop-row.invariant.none n (omega (arith, slice_get_within gs n x e, c.loop-row-test.false, length-map groups.rows.now (host_group_in_tables groups.tables.now))) x e i j users rs q)
    0 rows p
