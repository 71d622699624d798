use Rattle.sudoers_match.proofs.Common.{IfSome, IsAnswerOfCommandsSoFar, HasMemberAndSettingsFromGroupAtPlace, IsKnownRunasDecision, IsValidCacheForContext, answer_without_member_and_settings, command_in_tables, command_test_of_context, host_group_of_view, map, members_of_view}
use Rattle.sudoers_match.proofs.Common.{option_map, runas_of_view}
use Rattle.sudoers_match.proofs.last_row.find_last_fit_in_host_group.Given as goal

abbrev pub invariant-loop-command : goal.invariant-loop-command
invariant-loop-command l = record {
  question : IsValidCacheForContext l.asked l.question;
  permitted : IsKnownRunasDecision l.asked.policy.now l.asked.request.now (option_map runas_of_view l.head.runas) l.permitted;
  so_far : IsAnswerOfCommandsSoFar l.asked.policy.now (command_test_of_context l.asked) l.asked.request.now l.at.spec l.at.host_group (members_of_view l.group.hosts)
      (map (command_in_tables l.group.commands.tables.now) l.group.commands.rows.now) l.command l.head (option_map answer_without_member_and_settings l.latest);
  found : IfSome l.latest (HasMemberAndSettingsFromGroupAtPlace l.line l.at (host_group_of_view l.group));
}
