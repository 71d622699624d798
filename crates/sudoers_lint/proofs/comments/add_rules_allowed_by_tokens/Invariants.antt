use Rattle.std.proofs.Common.{◌≡◌, ◌||◌, drop}
use Rattle.std.specs.List.{flat_map, list_any}
use Rattle.sudoers_grammar.specs.Piece.{tokens_with_bytes}
use Rattle.sudoers_lint.specs.declared.lint_rule.LintRule.{LintRule}
use Rattle.sudoers_lint.specs.Comments.{rules_allowed_by_token}
use Rattle.sudoers_lint.specs.RuleSets.{is_in_rule_set}
use Rattle.sudoers_lint.specs.Rules.{is_same_rule}
use Rattle.sudoers_lint.proofs.comments.add_rules_allowed_by_tokens.Given as goal

-- The rules so far, and those of the tokens still to come.
abbrev pub invariant-loop-token : goal.invariant-loop-token
invariant-loop-token l =
    (r : LintRule) → (is_in_rule_set l.allowed r || list_any (is_same_rule r) (flat_map rules_allowed_by_token (tokens_with_bytes l.text (drop l.token-index l.tokens))))
    ≡ (is_in_rule_set l.initial.allowed r || list_any (is_same_rule r) (flat_map rules_allowed_by_token (tokens_with_bytes l.text l.tokens)))
