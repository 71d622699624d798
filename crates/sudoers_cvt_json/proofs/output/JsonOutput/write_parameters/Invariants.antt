use Rattle.std.proofs.Common.{◌≡◌, ◌++◌, drop, map}
use Rattle.serde_json.specs.Data.{string}
use Rattle.sudoers_line_rows.specs.Tables.{parameter_in_tables}
use Rattle.sudoers_cvt_spell.specs.Parameters.{printed_param}
use Rattle.sudoers_cvt_json.specs.internal.Built.{are_values_unicode, tokens_of_items_and_end}
use Rattle.sudoers_cvt_json.proofs.output.JsonOutput.write_parameters.Given as goal

abbrev pub invariant-loop-row : goal.invariant-loop-row
invariant-loop-row l = record {
  before : l.self.writer.before ≡ l.initial.self.writer.before;
  text : l.self.writer.tokens ++ tokens_of_items_and_end (map string (map printed_param (map (parameter_in_tables l.params.tables.now) (drop l.row-index l.params.rows.now))))
      ≡ l.initial.self.writer.tokens ++ tokens_of_items_and_end (map string (map printed_param (map (parameter_in_tables l.params.tables.now) l.params.rows.now)));
  unicode : are_values_unicode (map string (map printed_param (map (parameter_in_tables l.params.tables.now) (drop l.row-index l.params.rows.now))))
      ≡ are_values_unicode (map string (map printed_param (map (parameter_in_tables l.params.tables.now) l.params.rows.now)));
}
