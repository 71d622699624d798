use Rattle.std.proofs.Common.{◌≡◌, ◌++◌, drop, map}
use Rattle.sudoers_line_rows.specs.Tables.{host_group_in_tables}
use Rattle.sudoers_cvt_rules.specs.Effective.{effective_host_group}
use Rattle.sudoers_cvt_json.specs.Value.{host_group_object_value}
use Rattle.sudoers_cvt_json.specs.internal.Built.{are_values_unicode, tokens_of_items_and_end}
use Rattle.sudoers_cvt_json.proofs.output.JsonOutput.write_host_groups.Given as goal

abbrev pub invariant-loop-row : goal.invariant-loop-row
invariant-loop-row l = record {
  before : l.self.writer.before ≡ l.initial.self.writer.before;
  text : l.self.writer.tokens ++ tokens_of_items_and_end (map host_group_object_value (map effective_host_group (map (host_group_in_tables l.groups.tables.now) (drop l.row-index l.groups.rows.now))))
      ≡ l.initial.self.writer.tokens ++ tokens_of_items_and_end (map host_group_object_value (map effective_host_group (map (host_group_in_tables l.groups.tables.now) l.groups.rows.now)));
  unicode : are_values_unicode (map host_group_object_value (map effective_host_group (map (host_group_in_tables l.groups.tables.now) (drop l.row-index l.groups.rows.now))))
      ≡ are_values_unicode (map host_group_object_value (map effective_host_group (map (host_group_in_tables l.groups.tables.now) l.groups.rows.now)));
}
