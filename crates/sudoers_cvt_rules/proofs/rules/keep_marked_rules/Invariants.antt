use Rattle.std.proofs.Common.{◌≡◌, ◌++◌, drop, map}
use Rattle.sudoers_cvt_rules.specs.Rule.{node_of_rule_view}
use Rattle.sudoers_cvt_rules.specs.Rules.{marked_items}
use Rattle.sudoers_cvt_rules.proofs.rules.keep_marked_rules.Given as goal

abbrev pub invariant-loop-i : goal.invariant-loop-i
invariant-loop-i l =
    map node_of_rule_view l.kept.items ++ marked_items (drop l.i l.marks) (map node_of_rule_view (drop l.i l.rules)) ≡ marked_items l.marks (map node_of_rule_view l.rules)
