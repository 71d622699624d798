use Rattle.std.proofs.Common.{◌≡◌, ◌≤◌, ◌++◌, length, drop, take, map}
use Rattle.std.specs.List.{AllByRecursion}
use Rattle.sudoers_text.specs.Fault.{text_limit, line_limit}
use Rattle.sudoers_cvt_spell.specs.Lines.{printed_line, printed_lines}
use Rattle.sudoers_cvt_rules.specs.Rule.{node_of_rule_view}
use Rattle.sudoers_cvt_rules.proofs.printing.append_rule_lines.Given as goal

abbrev pub invariant-loop-rule : goal.invariant-loop-rule
invariant-loop-rule l = record {
  text : l.text.items ++ printed_lines (map node_of_rule_view (drop l.rule-index l.rules)) ≡ l.initial.text.items ++ printed_lines (map node_of_rule_view l.rules);
  fits : length l.initial.text.items ≤ text_limit → length l.text.items ≤ text_limit;
  lines : AllByRecursion (λ n. length (printed_line n) ≤ line_limit) (map node_of_rule_view (take l.rule-index l.rules));
}
