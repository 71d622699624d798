use Rattle.std.proofs.Common.{true, map}
use Rattle.sudoers_line_rows.specs.Tables.{command_in_tables}
use Rattle.sudoers_line_rows.specs.View.{members_of_view}
use Rattle.sudoers_undecided.specs.internal.Counted.{CountsCommandsSoFar, HasNotedLists}
use Rattle.sudoers_undecided.specs.internal.Looped.{IsRunasStanding, lists_of}
use Rattle.sudoers_undecided.proofs.spec_rows.count_lists_of_commands.Given as goal

abbrev pub invariant-loop-row : goal.invariant-loop-row
invariant-loop-row l = record {
  standing : IsRunasStanding l.asked.policy.now l.asked.request.now l.asked.scopes.now l.runas;
  noted : HasNotedLists l.counted (lists_of l.who l.runas true);
  so_far : CountsCommandsSoFar l.asked.policy.now l.asked.request.now l.asked.scopes.now l.fn.counted l.counted (members_of_view l.who.users) (members_of_view l.who.hosts)
      (map (command_in_tables l.commands.tables.now) l.commands.rows.now) l.row-index l.head l.runas.runas;
}
