use Rattle.std.proofs.Common.{◌≡◌, ◌∙◌, ap, ◌++◌, ◌∷◌, []}
use Rattle.sudoers_edit_script.specs.declared.edit.Edit.{Edit}
use Rattle.sudoers_edit_script.proofs.ReadingLemmas.{IsNoPayloadLine, command_after_text_keeps_reader_state, command_after_text_keeps_reported_fault}
use Rattle.sudoers_edit_script.specs.ScriptReading.{edit_completed_with_text}
use Rattle.sudoers_edit_script.proofs.script_reader.ScriptReader.take_later_payload_line.Goals as goal

pub returns-in_ok-push-in_default : goal.returns-in_ok-push-in_default
returns-in_ok-push-in_default c =
    let no : IsNoPayloadLine c.args.said = record { more = c.in_default.not-More; last = c.in_default.not-Last; unended = c.in_default.not-Unended } in
    let pushed : c.push-in_default.new.self ≡ c.args.self.now.edits ++ edit_completed_with_text c.args.draft c.args.so_far ∷ [] =
    c.in_ok-push-in_default.ensures.more ∙ ap (λ (edit : Edit). c.args.self.now.edits ++ edit ∷ []) c.into_edit_with_text-in_default.ensures in
    record {
      ok = command_after_text_keeps_reader_state c.take_parsed_command_line.result c.args.self.now.edits c.push-in_default.new.self c.args.self.now.file c.args.self.now.line c.args.draft c.args.so_far c.args.text.now c.args.said c.take_parsed_command_line.new.self no pushed c.take_parsed_command_line.ensures.ok;
      err = command_after_text_keeps_reported_fault c.take_parsed_command_line.result c.args.self.now.edits c.push-in_default.new.self c.args.self.now.file c.args.self.now.line c.args.draft c.args.so_far c.args.text.now c.args.said no pushed c.take_parsed_command_line.ensures.err;
      line = c.take_parsed_command_line.ensures.line;
    }
