use Rattle.std.proofs.Common.{ap, ◌++◌, ◌∙◌}
use Rattle.sudoers_line_rows.specs.View.{member_of_view}
use Rattle.sudoers_match.proofs.OneHead.{held_settings_have_command_settings}
use Rattle.sudoers_cvt_spell.specs.Commands.{printed_runas_options_tags_and_command}
use Rattle.sudoers_cvt_rules.specs.Effective.{effective_command}
use Rattle.sudoers_cvt_rules.proofs.printing.print_command.Goals as goal

pub returns-clause-every : goal.returns-clause-every
returns-clause-every c =
    let some = held_settings_have_command_settings c.args.head.now in
    let text = printed_runas_options_tags_and_command (effective_command (some.0, member_of_view c.args.command.now)) in
    (some.0, some.1, c.in_ok-append_effective_command.ensures some.0 some.1 ∙ ap (λ before. before ++ text) c.new-out.ensures.items)
