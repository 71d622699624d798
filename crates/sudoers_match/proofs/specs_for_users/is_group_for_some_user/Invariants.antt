use Rattle.sudoers_match.proofs.Common.{AccumulatedCommandSettings, AllByRecursion, AreRowsPerFlatAtomOfCommand, HoldsCommandSettings, IsValidCacheForContext, List, Member, PrivilegeRow, RunasSpecLeadsToNoCycle, Some, command_in_tables, command_test_of_context, commands_with_settings}
use Rattle.sudoers_match.proofs.Common.{drop, empty_command_settings, false, map, slice_get, ℕ, ◌<◌, ◌≡◌}
use Rattle.sudoers_match.specs.internal.AnyUser.{IsRowForNoUser, MayRunAsTarget}
use Rattle.sudoers_match.proofs.specs_for_users.is_group_for_some_user.Given as goal

abbrev pub invariant-loop-row : goal.invariant-loop-row
invariant-loop-row l = record {
  question : IsValidCacheForContext l.asked l.question;
  head : AccumulatedCommandSettings;
  is_head : HoldsCommandSettings l.head head;
  left : drop l.row-index (commands_with_settings empty_command_settings (map (command_in_tables l.group.commands.tables.now) l.group.commands.rows.now))
      ≡ commands_with_settings head (drop l.row-index (map (command_in_tables l.group.commands.tables.now) l.group.commands.rows.now));
  straight : RunasSpecLeadsToNoCycle l.asked.policy.now head.runas;
  target : l.may_run ≡ false → MayRunAsTarget l.asked.policy.now l.of_target l.asked.request.now.target head.runas → ⊥;
  none : (n : ℕ) → n < l.row-index → (c : AccumulatedCommandSettings × Member) → slice_get (commands_with_settings empty_command_settings (map (command_in_tables l.group.commands.tables.now) l.group.commands.rows.now)) n ≡ Some c
      → (i j k : ℕ) (users hosts : List Member) (rows : List PrivilegeRow) → AreRowsPerFlatAtomOfCommand l.asked.policy.now i j users hosts k c rows
      → AllByRecursion (IsRowForNoUser l.asked.policy.now (command_test_of_context l.asked) l.of_target l.asked.request.now) rows;
}
