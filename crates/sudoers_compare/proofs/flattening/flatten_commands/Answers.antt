use Rattle.std.proofs.Common.{ap, subst, ◌∙◌}
use Rattle.std.specs.Prelude.{slice_range}
use Rattle.sudoers_grammar.specs.Node.{CmdSpec}
use Rattle.sudoers_match.specs.Heads.{settings_after_command}
use Rattle.sudoers_match.specs.IsHead.{HoldsCommandSettings}
use Rattle.sudoers_compare.proofs.FlatCommands.{no_command_is_flat_yet, one_more_command_is_flat, all_commands_are_flat, list_without_length_is_empty}
use Rattle.sudoers_compare.proofs.flattening.flatten_commands.Goals as goal

pub loop-row-init : goal.loop-row-init
loop-row-init c =
    no_command_is_flat_yet c.args.source.now.lines.tables.now c.args.source.now.policy.now c.args.range c.in_ok-commands.commands.items c.make_empty_settings-settings.result c.rows_in-left.result.now
    c.in_ok-commands.ensures.items c.make_empty_settings-settings.ensures (c.rows_in-left.ensures ∙ ap (λ rows. slice_range rows c.args.range.from c.args.range.to) c.as_slice.ensures.value)

pub loop-row-preserved : goal.loop-row-preserved
loop-row-preserved c =
    one_more_command_is_flat c.args.source.now.lines.tables.now c.args.source.now.policy.now c.args.range c.loop-row.commands.items c.push.new.self.items c.loop-row.settings c.apply_settings_of_command.new.self
    c.loop-row.runas c.or-runas.result c.loop-row.left.now c.in-Some.behind.now c.in-Some.row.now c.in_ok-flatten_command.field-0 c.loop-row.invariant
    c.in-Some.ensures.cases.0
    (λ before held. subst (λ (command : CmdSpec). HoldsCommandSettings c.apply_settings_of_command.new.self (settings_after_command before command)) c.command_of_row.ensures (c.apply_settings_of_command.ensures before held))
    c.or-runas.ensures c.in_ok-flatten_command.ensures.rows c.in_ok-flatten_command.ensures.start c.in_ok-push.ensures.items

pub returns : goal.returns
returns c =
    all_commands_are_flat c.args.source.now.lines.tables.now c.args.source.now.policy.now c.args.range c.loop-row.commands.items c.loop-row.settings c.loop-row.runas c.loop-row.left.now c.loop-row.invariant
    (list_without_length_is_empty c.loop-row.left.now c.in_default.ensures.cases)
