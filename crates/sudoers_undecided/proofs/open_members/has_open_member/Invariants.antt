use Rattle.std.proofs.Common.{◌≡◌, drop, map}
use Rattle.std.specs.List.{list_any}
use Rattle.sudoers_line_rows.specs.Tables.{member_in_tables}
use Rattle.sudoers_undecided.specs.internal.Open.{is_member_open}
use Rattle.sudoers_undecided.proofs.open_members.has_open_member.Given as goal

abbrev pub invariant-loop-row : goal.invariant-loop-row
invariant-loop-row l = list_any (is_member_open l.who l.command) (map (member_in_tables l.members.tables.now) l.members.rows.now) ≡ list_any (is_member_open l.who l.command) (map (member_in_tables l.members.tables.now) (drop l.row-index l.members.rows.now))
