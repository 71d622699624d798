-- What the code holds of sets of rules.
use Rattle.std.specs.Prelude.{Bool, List, ◌++◌}
use Rattle.sudoers_lint.specs.declared.lint_rule.LintRule.{LintRule}
use Rattle.sudoers_lint.specs.declared.lint_rule.LintRule.TheVariants as rule
use Rattle.sudoers_lint.specs.declared.rule_set.RuleSet.{RuleSet}
use Rattle.sudoers_lint.specs.Rules.{rule_if}

abbrev pub is_in_rule_set : RuleSet → LintRule → Bool
is_in_rule_set set rule.Everyone = set.everyone
is_in_rule_set set rule.AllBut = set.all_but
is_in_rule_set set rule.NopasswdAny = set.nopasswd_any
is_in_rule_set set rule.DenyList = set.deny_list
is_in_rule_set set rule.Environment = set.environment
is_in_rule_set set rule.WayOut = set.way_out

abbrev pub rules_in_set : RuleSet → List LintRule
rules_in_set set =
    rule_if set.everyone rule.Everyone ++ rule_if set.all_but rule.AllBut ++ rule_if set.nopasswd_any rule.NopasswdAny
    ++ rule_if set.deny_list rule.DenyList ++ rule_if set.environment rule.Environment ++ rule_if set.way_out rule.WayOut
