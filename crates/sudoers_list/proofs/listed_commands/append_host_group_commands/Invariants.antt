use Rattle.std.proofs.Common.{◌++◌, drop, map, flat_map}
use Rattle.sudoers_line_rows.specs.Tables.{command_in_tables}
use Rattle.sudoers_line_rows.specs.View.{commands_of_view}
use Rattle.sudoers_cvt_rules.specs.Effective.{effective_commands}
use Rattle.sudoers_list.specs.Listing.{listed_command_text_line}
use Rattle.sudoers_list.proofs.Passing.{IsTextBeforeRemainingCommands}
use Rattle.sudoers_list.proofs.listed_commands.append_host_group_commands.Given as goal

abbrev pub invariant-loop-row : goal.invariant-loop-row
invariant-loop-row l =
    IsTextBeforeRemainingCommands (listed_command_text_line l.names.user.now l.names.default.now) l.head l.out.items (map (command_in_tables l.commands.tables.now) (drop l.row-index l.row-items))
    (l.fn.out.items ++ flat_map (listed_command_text_line l.names.user.now l.names.default.now) (effective_commands (commands_of_view l.commands)))
