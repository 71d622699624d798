use Rattle.std.proofs.Common.{rules, ◌≡◌, ◌+◌, ◌∷◌, ◌++◌, drop, map, Err, IfErr, sym, ap, subst, ◌∙◌}
use Rattle.serde_json.specs.Data.{Data}
use Rattle.sudoers_grammar.specs.Node.{CmdSpec}
use Rattle.sudoers_line_rows.specs.Tables.{command_in_tables}
use Rattle.sudoers_line_rows.specs.View.{command_of_view}
use Rattle.sudoers_match.specs.Heads.{settings_after_command}
use Rattle.sudoers_cvt_rules.specs.declared.fault.CvtFault.{CvtFault}
use Rattle.sudoers_cvt_rules.specs.Effective.{effective_commands}
use Rattle.sudoers_cvt_json.specs.Value.{command_object_value}
use Rattle.sudoers_cvt_json.specs.Unicode.{are_texts_of_value_unicode}
use Rattle.sudoers_cvt_json.specs.internal.Built.{IsJsonFault, are_values_unicode, command_value_of_view, tokens_of_items_and_end, tokens_of_value}
use Rattle.sudoers_cvt_json.proofs.Held.{command_of_held_settings_is_effective}
use Rattle.sudoers_cvt_json.proofs.Passing.{AreCommandValuesWrittenSoFar, mapped_drop_begins_with_next_image, non_unicode_command_makes_whole_non_unicode, value_of_next_command, writing_command_value_keeps_so_far}
use Rattle.sudoers_cvt_json.proofs.Parts.{fault_of_part_is_fault_of_whole}
use Rattle.sudoers_cvt_json.proofs.output.JsonOutput.write_commands.Goals as goal

pub returns-in_err-write_command-clause-fault : goal.returns-in_err-write_command-clause-fault
returns-in_err-write_command-clause-fault c =
    let t = c.args.commands.now.tables.now in
    let rows = c.args.commands.now.rows.now in
    let i = c.loop-row.row-index in
    let cmd : CmdSpec = command_of_view c.command_of_row-command.result in
    let more = map (command_in_tables t) (drop (i + 1) rows) in
    let values = map command_object_value (effective_commands (map (command_in_tables t) rows)) in
    let whole = c.begin_array.new.self.tokens ++ tokens_of_items_and_end values in
    let out = c.loop-row.self.writer.tokens in
    let s : AreCommandValuesWrittenSoFar c.loop-row.head out (cmd ∷ more) whole (are_values_unicode values) =
    subst (λ cs. AreCommandValuesWrittenSoFar c.loop-row.head out cs whole (are_values_unicode values))
    (mapped_drop_begins_with_next_image (command_in_tables t) rows i _ c.loop-row-test.true cmd c.command_of_row-command.ensures) c.loop-row.invariant.commands in
    let held = command_value_of_view c.apply_settings_of_command.new.self c.command_of_row-command.result.member in
    let is : held ≡ value_of_next_command s.head cmd =
    command_of_held_settings_is_effective c.apply_settings_of_command.new.self (settings_after_command s.head cmd) c.command_of_row-command.result.member (c.apply_settings_of_command.ensures s.head s.is_head) in
    let fault : CvtFault = c.in_err-write_command.field-0.0 in
    let same : c.from_residual-in_err-write_command.result ≡ Err fault = search rules in
    subst (λ r. IfErr r (IsJsonFault (are_values_unicode values))) (sym same)
    (fault_of_part_is_fault_of_whole (are_texts_of_value_unicode held) (are_values_unicode values) fault
    (λ bad. non_unicode_command_makes_whole_non_unicode c.loop-row.head out cmd more whole (are_values_unicode values) s (ap are_texts_of_value_unicode (sym is) ∙ bad)) c.in_err-write_command.ensures.fault)

pub loop-row-preserved : goal.loop-row-preserved
loop-row-preserved c =
    let t = c.args.commands.now.tables.now in
    let rows = c.args.commands.now.rows.now in
    let i = c.loop-row.row-index in
    let cmd : CmdSpec = command_of_view c.command_of_row-command.result in
    let more = map (command_in_tables t) (drop (i + 1) rows) in
    let values = map command_object_value (effective_commands (map (command_in_tables t) rows)) in
    let whole = c.begin_array.new.self.tokens ++ tokens_of_items_and_end values in
    let out = c.loop-row.self.writer.tokens in
    let s : AreCommandValuesWrittenSoFar c.loop-row.head out (cmd ∷ more) whole (are_values_unicode values) =
    subst (λ cs. AreCommandValuesWrittenSoFar c.loop-row.head out cs whole (are_values_unicode values))
    (mapped_drop_begins_with_next_image (command_in_tables t) rows i _ c.loop-row-test.true cmd c.command_of_row-command.ensures) c.loop-row.invariant.commands in
    let inherited = c.apply_settings_of_command.ensures s.head s.is_head in
    let held = command_value_of_view c.apply_settings_of_command.new.self c.command_of_row-command.result.member in
    let is : held ≡ value_of_next_command s.head cmd = command_of_held_settings_is_effective c.apply_settings_of_command.new.self (settings_after_command s.head cmd) c.command_of_row-command.result.member inherited in
    record {
      before = c.in_ok-write_command.ensures.written.0 ∙ c.loop-row.invariant.before;
      commands = writing_command_value_keeps_so_far c.loop-row.head c.apply_settings_of_command.new.self out c.write_command.new.self.writer.tokens cmd more whole (are_values_unicode values) s inherited
          (c.in_ok-write_command.ensures.written.1 ∙ ap (λ (d : Data). out ++ tokens_of_value d) is)
          (ap are_texts_of_value_unicode (sym is) ∙ c.in_ok-write_command.ensures.unicode);
    }
