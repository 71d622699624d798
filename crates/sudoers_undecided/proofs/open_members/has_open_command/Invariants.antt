use Rattle.std.proofs.Common.{◌≡◌, drop, map}
use Rattle.std.specs.List.{list_any}
use Rattle.sudoers_line_rows.specs.Tables.{command_in_tables}
use Rattle.sudoers_undecided.specs.internal.Open.{is_command_open}
use Rattle.sudoers_undecided.proofs.open_members.has_open_command.Given as goal

abbrev pub invariant-loop-row : goal.invariant-loop-row
invariant-loop-row l = list_any (is_command_open l.who l.command) (map (command_in_tables l.commands.tables.now) l.commands.rows.now) ≡ list_any (is_command_open l.who l.command) (map (command_in_tables l.commands.tables.now) (drop l.row-index l.commands.rows.now))
