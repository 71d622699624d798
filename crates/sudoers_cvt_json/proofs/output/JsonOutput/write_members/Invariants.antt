use Rattle.std.proofs.Common.{◌≡◌, ◌++◌, drop, map}
use Rattle.serde_json.specs.Data.{string}
use Rattle.sudoers_line_rows.specs.Tables.{member_in_tables}
use Rattle.sudoers_cvt_json.specs.Value.{printed_member_texts}
use Rattle.sudoers_cvt_json.specs.internal.Built.{are_values_unicode, tokens_of_items_and_end}
use Rattle.sudoers_cvt_json.proofs.output.JsonOutput.write_members.Given as goal

abbrev pub invariant-loop-row : goal.invariant-loop-row
invariant-loop-row l = record {
  before : l.self.writer.before ≡ l.initial.self.writer.before;
  text : l.self.writer.tokens ++ tokens_of_items_and_end (map string (printed_member_texts l.is_first l.kind (map (member_in_tables l.members.tables.now) (drop l.row-index l.members.rows.now))))
      ≡ l.initial.self.writer.tokens ++ tokens_of_items_and_end (map string (printed_member_texts l.initial.is_first l.kind (map (member_in_tables l.members.tables.now) l.members.rows.now)));
  unicode : are_values_unicode (map string (printed_member_texts l.is_first l.kind (map (member_in_tables l.members.tables.now) (drop l.row-index l.members.rows.now))))
      ≡ are_values_unicode (map string (printed_member_texts l.initial.is_first l.kind (map (member_in_tables l.members.tables.now) l.members.rows.now)));
}
