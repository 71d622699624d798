use Rattle.std.proofs.Common.{◌≡◌, drop, map}
use Rattle.std.specs.List.{list_any}
use Rattle.sudoers_line_rows.specs.Tables.{host_group_in_tables}
use Rattle.sudoers_undecided.specs.internal.Open.{is_host_group_open}
use Rattle.sudoers_undecided.proofs.open_members.has_open_host_group.Given as goal

abbrev pub invariant-loop-row : goal.invariant-loop-row
invariant-loop-row l = list_any (is_host_group_open l.who l.command) (map (host_group_in_tables l.groups.tables.now) l.groups.rows.now) ≡ list_any (is_host_group_open l.who l.command) (map (host_group_in_tables l.groups.tables.now) (drop l.row-index l.groups.rows.now))
