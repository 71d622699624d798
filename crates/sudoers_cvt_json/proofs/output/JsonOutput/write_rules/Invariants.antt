use Rattle.std.proofs.Common.{◌≡◌, ◌++◌, drop, map}
use Rattle.sudoers_cvt_json.specs.internal.Built.{are_values_unicode, tokens_of_items_and_end, rule_object_value}
use Rattle.sudoers_cvt_json.proofs.output.JsonOutput.write_rules.Given as goal

abbrev pub invariant-loop-rule : goal.invariant-loop-rule
invariant-loop-rule l = record {
  before : l.self.writer.before ≡ l.initial.self.writer.before;
  text : l.self.writer.tokens ++ tokens_of_items_and_end (map rule_object_value (drop l.rule-index l.rules))
      ≡ l.initial.self.writer.tokens ++ tokens_of_items_and_end (map rule_object_value l.rules);
  unicode : are_values_unicode (map rule_object_value (drop l.rule-index l.rules))
      ≡ are_values_unicode (map rule_object_value l.rules);
}
