use Rattle.std.proofs.Common.{map, take}
use Rattle.sudoers_line_rows.specs.Tables.{host_group_in_tables}
use Rattle.sudoers_match_member.specs.declared.request.Request.{Request}
use Rattle.sudoers_undecided.specs.internal.Counted.{AreHostAliases}
use Rattle.sudoers_undecided.specs.internal.Rights.{AddsListsOfGroups}
use Rattle.sudoers_undecided.proofs.rights.append_lists_of_hosts.Given as goal

abbrev pub invariant-loop-row : goal.invariant-loop-row
invariant-loop-row l = (r : Request) → AreHostAliases l.numbers.walk r l.hosts
    → AddsListsOfGroups l.numbers.walk r (take l.row-index (map (host_group_in_tables l.groups.tables.now) l.groups.rows.now)) l.fn.lists.items l.lists.items
