use Rattle.std.proofs.Common.{◌≡◌, ◌++◌, drop, map}
use Rattle.sudoers_line_rows.specs.Tables.{command_in_tables}
use Rattle.sudoers_cvt_rules.specs.Effective.{effective_commands}
use Rattle.sudoers_cvt_json.specs.Value.{command_object_value}
use Rattle.sudoers_cvt_json.specs.internal.Built.{are_values_unicode, tokens_of_items_and_end}
use Rattle.sudoers_cvt_json.proofs.Passing.{AreCommandValuesWrittenSoFar}
use Rattle.sudoers_cvt_json.proofs.output.JsonOutput.write_commands.Given as goal

abbrev pub invariant-loop-row : goal.invariant-loop-row
invariant-loop-row l = record {
  before : l.self.writer.before ≡ l.initial.self.writer.before;
  commands : AreCommandValuesWrittenSoFar l.head l.self.writer.tokens (map (command_in_tables l.commands.tables.now) (drop l.row-index l.commands.rows.now))
      (l.initial.self.writer.tokens ++ tokens_of_items_and_end (map command_object_value (effective_commands (map (command_in_tables l.commands.tables.now) l.commands.rows.now))))
      (are_values_unicode (map command_object_value (effective_commands (map (command_in_tables l.commands.tables.now) l.commands.rows.now))));
}
