use Rattle.std.proofs.Common.{rules, ◌≡◌, ◌+◌, ◌∷◌, ◌++◌, drop, map, codes, sym, ap, subst, ◌∙◌}
use Rattle.std.specs.List.{join_by}
use Rattle.sudoers_grammar.specs.Node.{CmdSpec}
use Rattle.sudoers_line_rows.specs.Tables.{command_in_tables}
use Rattle.sudoers_line_rows.specs.View.{command_of_view}
use Rattle.sudoers_match.specs.Heads.{empty_command_settings, settings_after_command}
use Rattle.sudoers_cvt_spell.specs.Commands.{printed_runas_options_tags_and_command}
use Rattle.sudoers_cvt_rules.specs.Effective.{effective_command, effective_commands}
use Rattle.sudoers_cvt_rules.proofs.Limits.{mapped_drop_begins_with_next_image}
use Rattle.sudoers_cvt_rules.proofs.Passing.{AreCommandsPrintedSoFar, first_printed_command_begins_so_far, printing_next_command_keeps_so_far}
use Rattle.sudoers_cvt_rules.proofs.printed_lines.append_effective_commands.Goals as goal

pub loop-row-init : goal.loop-row-init
loop-row-init c =
    let t = c.args.commands.now.tables.now in
    let rest = map (command_in_tables t) c.in-Some.rest.now in
    let cmd : CmdSpec = command_of_view c.command_of_row-command.result in
    let split : c.args.commands.now.rows.now ≡ c.in-Some.first.now ∷ c.in-Some.rest.now = search rules in
    let all : map (command_in_tables t) c.args.commands.now.rows.now ≡ cmd ∷ rest = ap (map (command_in_tables t)) split ∙ ap (λ x. x ∷ rest) (sym c.command_of_row-command.ensures) in
    let is = c.apply_settings_of_command.ensures empty_command_settings c.make_empty_settings-head.ensures in
    subst (λ cs. AreCommandsPrintedSoFar c.apply_settings_of_command.new.self c.append_effective_command.new.out.items rest (c.args.out.now.items ++ join_by printed_runas_options_tags_and_command (codes ", ") (effective_commands cs))) (sym all)
    (first_printed_command_begins_so_far c.apply_settings_of_command.new.self c.args.out.now.items c.append_effective_command.new.out.items cmd rest is (c.in_ok-append_effective_command.ensures (settings_after_command empty_command_settings cmd) is))

pub loop-row-preserved : goal.loop-row-preserved
loop-row-preserved c =
    let t = c.args.commands.now.tables.now in
    let rest = c.in-Some.rest.now in
    let i = c.loop-row.row-index in
    let cmd : CmdSpec = command_of_view c.command_of_row-command-in-loop-row.result in
    let more = map (command_in_tables t) (drop (i + 1) rest) in
    let whole = c.args.out.now.items ++ join_by printed_runas_options_tags_and_command (codes ", ") (effective_commands (map (command_in_tables t) c.args.commands.now.rows.now)) in
    let s : AreCommandsPrintedSoFar c.loop-row.head c.loop-row.out.items (cmd ∷ more) whole =
    subst (λ cs. AreCommandsPrintedSoFar c.loop-row.head c.loop-row.out.items cs whole) (mapped_drop_begins_with_next_image (command_in_tables t) rest i _ c.loop-row-test.true cmd c.command_of_row-command-in-loop-row.ensures) c.loop-row.invariant in
    let h = settings_after_command s.head cmd in
    let is = c.apply_settings_of_command-in-loop-row.ensures s.head s.is_head in
    printing_next_command_keeps_so_far c.loop-row.head c.apply_settings_of_command-in-loop-row.new.self c.loop-row.out.items c.append_effective_command-in-loop-row.new.out.items cmd more whole s is
    (c.in_ok-append_effective_command-2.ensures h is ∙ ap (λ o. o ++ printed_runas_options_tags_and_command (effective_command (h, cmd.member))) c.in_ok-extend_from_slice.ensures.items)
