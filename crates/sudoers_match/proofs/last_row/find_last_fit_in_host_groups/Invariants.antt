use Rattle.sudoers_match.proofs.Common.{AreRowsPerFlatAtomOfHostGroup, IfSome, IsAnswerOfRowsSoFar, HasMemberAndSettingsFromSpecAtNumber, IsValidCacheForContext, List, ListAllows, Member, User, answer_without_member_and_settings, command_test_of_context, drop}
use Rattle.sudoers_match.proofs.Common.{host_group_in_tables, is_user_atom_match, map, option_map}
use Rattle.sudoers_match.proofs.last_row.find_last_fit_in_host_groups.Given as goal

abbrev pub invariant-loop-host_group : goal.invariant-loop-host_group
invariant-loop-host_group l = record {
  question : IsValidCacheForContext l.asked l.question;
  so_far : (users : List Member) → ListAllows User l.asked.policy.now (is_user_atom_match l.asked.request.now.who.user) users
      → IsAnswerOfRowsSoFar (AreRowsPerFlatAtomOfHostGroup l.asked.policy.now l.spec users) l.asked.policy.now (command_test_of_context l.asked) l.asked.request.now
      (map (host_group_in_tables l.groups.tables.now) l.groups.rows.now) l.host_group (drop l.host_group (map (host_group_in_tables l.groups.tables.now) l.groups.rows.now)) (option_map answer_without_member_and_settings l.latest);
  found : IfSome l.latest (HasMemberAndSettingsFromSpecAtNumber l.line l.spec (map (host_group_in_tables l.groups.tables.now) l.groups.rows.now));
}
