use Rattle.std.proofs.Common.{◌+◌, drop, map}
use Rattle.sudoers_grammar.specs.Node.{CmdSpec}
use Rattle.sudoers_line_rows.specs.Tables.{command_in_tables}
use Rattle.sudoers_line_rows.specs.View.{command_of_view}
use Rattle.sudoers_match.specs.Heads.{settings_after_command}
use Rattle.sudoers_list.specs.Listing.{listed_command_text_line}
use Rattle.sudoers_list.proofs.Passing.{passed_command_extends_listed_text, mapped_rest_begins_with_next_row}
use Rattle.sudoers_list.proofs.listed_commands.append_host_group_commands.Goals as goal

pub loop-row-preserved : goal.loop-row-preserved
loop-row-preserved c =
    let t = c.args.commands.now.tables.now in
    let rows = c.args.commands.now.rows.now in
    let i = c.loop-row.row-index in
    let cmd : CmdSpec = command_of_view c.command_of_row-command.result in
    let s = c.loop-row.invariant in
    let is = c.apply_settings_of_command.ensures s.head s.is_head in
    passed_command_extends_listed_text (listed_command_text_line c.args.names.now.user.now c.args.names.now.default.now) c.loop-row.head c.apply_settings_of_command.new.self c.loop-row.out.items c.append_listed_command_line.new.out.items
    cmd (map (command_in_tables t) (drop (i + 1) rows)) (map (command_in_tables t) (drop i rows)) _
    (mapped_rest_begins_with_next_row (command_in_tables t) rows i _ c.loop-row-test.true cmd c.command_of_row-command.ensures) s is (c.in_ok-append_listed_command_line.ensures (settings_after_command s.head cmd) is)
