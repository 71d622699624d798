-- Rules that may be broken on a line, as the code keeps them for the next finding. A device of the proof, which no public contract cites.
use Rattle.std.specs.Prelude.{◌≡◌, Option, Some, None}
use Rattle.sudoers_tree.specs.Load.{LoadedPolicy}
use Rattle.sudoers_lint.specs.declared.lint_rule.LintRule.{LintRule}
use Rattle.sudoers_lint.specs.declared.unsilenced.AllowedOnLine.{AllowedOnLine}
use Rattle.sudoers_lint.specs.RuleSets.{is_in_rule_set}
use Rattle.sudoers_lint.specs.Silenced.{is_silenced_on_line}

abbrev pub AreRulesOfLine : LoadedPolicy → AllowedOnLine → Type 0
AreRulesOfLine policy here = (r : LintRule) → is_in_rule_set here.rules r ≡ is_silenced_on_line policy here.line r

abbrev pub AreRulesKnown : LoadedPolicy → Option AllowedOnLine → Type 0
AreRulesKnown policy None = Unit {0}
AreRulesKnown policy (Some here) = AreRulesOfLine policy here
