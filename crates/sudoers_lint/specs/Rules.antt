-- The rules of lint, with their names and what is said where one is broken.
use Rattle.std.specs.Prelude.{ℕ, Bool, true, false, List, [], ◌∷◌, codes}
use Rattle.std.specs.Str.{bytes_eq}
use Rattle.sudoers_lint.specs.declared.lint_rule.LintRule.{LintRule}
use Rattle.sudoers_lint.specs.declared.lint_rule.LintRule.TheVariants as rule

abbrev pub rule_name : LintRule → List ℕ
rule_name rule.Everyone = codes "everyone"
rule_name rule.AllBut = codes "all-but"
rule_name rule.NopasswdAny = codes "nopasswd-any"
rule_name rule.DenyList = codes "deny-list"
rule_name rule.Environment = codes "environment"
rule_name rule.WayOut = codes "way-out"

abbrev pub named_rules : List (List ℕ × LintRule)
named_rules =
    (codes "everyone", rule.Everyone) ∷ (codes "all-but", rule.AllBut) ∷ (codes "nopasswd-any", rule.NopasswdAny)
    ∷ (codes "deny-list", rule.DenyList) ∷ (codes "environment", rule.Environment) ∷ (codes "way-out", rule.WayOut) ∷ []

abbrev pub is_same_rule : LintRule → LintRule → Bool
is_same_rule r s = bytes_eq (rule_name r) (rule_name s)

abbrev pub words_of_rule : LintRule → List ℕ
words_of_rule rule.Everyone = codes "every user may run it"
words_of_rule rule.AllBut = codes "who is left out of ALL by name can come under another name"
words_of_rule rule.NopasswdAny = codes "any command without a password"
words_of_rule rule.DenyList = codes "a copy of it under another name is still allowed"
words_of_rule rule.Environment = codes "the user may set variables that change what runs"
words_of_rule rule.WayOut = codes "it can start any other program"

abbrev pub rule_if : Bool → LintRule → List LintRule
rule_if true r = r ∷ []
rule_if false r = []
