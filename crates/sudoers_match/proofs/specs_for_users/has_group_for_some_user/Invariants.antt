use Rattle.sudoers_match.proofs.Common.{AllByRecursion, AreRowsPerFlatAtomOfHostGroup, HostGroup, IsValidCacheForContext, List, Member, PrivilegeRow, Some, command_test_of_context, host_group_in_tables, map, slice_get, ℕ, ◌<◌, ◌≡◌}
use Rattle.sudoers_match.specs.internal.AnyUser.{IsRowForNoUser}
use Rattle.sudoers_match.proofs.specs_for_users.has_group_for_some_user.Given as goal

abbrev pub invariant-loop-row : goal.invariant-loop-row
invariant-loop-row l = record {
  question : IsValidCacheForContext l.asked l.question;
  none : (n : ℕ) → n < l.row-index → (g : HostGroup) → slice_get (map (host_group_in_tables l.groups.tables.now) l.groups.rows.now) n ≡ Some g
      → (i j : ℕ) (users : List Member) (rows : List PrivilegeRow) → AreRowsPerFlatAtomOfHostGroup l.asked.policy.now i users j g rows
      → AllByRecursion (IsRowForNoUser l.asked.policy.now (command_test_of_context l.asked) l.of_target l.asked.request.now) rows;
}
