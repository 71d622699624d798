use Rattle.std.proofs.Common.{◌≡◌, ◌||◌, drop}
use Rattle.std.specs.List.{list_any}
use Rattle.sudoers_lint.specs.declared.lint_rule.LintRule.{LintRule}
use Rattle.sudoers_lint.specs.Comments.{rules_of_first_words}
use Rattle.sudoers_lint.specs.Names.{texts_of_view}
use Rattle.sudoers_lint.specs.RuleSets.{is_in_rule_set}
use Rattle.sudoers_lint.specs.Rules.{is_same_rule}
use Rattle.sudoers_lint.proofs.comments.add_rules_of_first_words.Given as goal

-- The rules so far, and those of the words still to come.
abbrev pub invariant-loop-word : goal.invariant-loop-word
invariant-loop-word l =
    (r : LintRule) → (is_in_rule_set l.allowed r || list_any (is_same_rule r) (rules_of_first_words (texts_of_view (drop l.word-index l.words))))
    ≡ (is_in_rule_set l.initial.allowed r || list_any (is_same_rule r) (rules_of_first_words (texts_of_view l.words)))
