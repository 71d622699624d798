-- Rules that comments of a policy silence.
use Rattle.std.specs.Prelude.{ℕ, ◌-◌, nat_eq, Bool, true, false, List, [], ◌++◌, slice_get, Option, Some, None, option_and_then, if◌then◌else◌}
use Rattle.std.specs.List.{list_any}
use Rattle.sudoers_grammar.specs.Node.{Node}
use Rattle.sudoers_grammar.specs.Node as node
use Rattle.sudoers_tree.specs.Files.{lines_of_numbered_file}
use Rattle.sudoers_tree.specs.Line.{Line}
use Rattle.sudoers_tree.specs.Load.{LoadedPolicy}
use Rattle.sudoers_tree.specs.declared.place.WalkLineSpot.{WalkLineSpot}
use Rattle.sudoers_lint.specs.declared.lint_rule.LintRule.{LintRule}
use Rattle.sudoers_lint.specs.Comments.{rules_allowed_by_text}
use Rattle.sudoers_lint.specs.Rules.{is_same_rule}

abbrev pub rules_allowed_by_line : Option Line → List LintRule
rules_allowed_by_line None = []
rules_allowed_by_line (Some line) = rules_allowed_by_text line.text

abbrev pub is_comment_node : Node → Bool
is_comment_node node.Comment = true
is_comment_node other = false

abbrev pub rules_allowed_by_comment_line : Option Line → List LintRule
rules_allowed_by_comment_line None = []
rules_allowed_by_comment_line (Some line) = if is_comment_node line.node then rules_allowed_by_text line.text else []

-- the line directly before this spot in its file
abbrev pub line_before_spot : LoadedPolicy → WalkLineSpot → Option Line
line_before_spot policy at = if nat_eq at.line 0 then None else slice_get (lines_of_numbered_file policy.files at.file) (at.line - 1)

-- The rules that may be broken on the line with this number of the walk: its own comment allows them, or a line before it that is a comment.
abbrev pub rules_allowed_on_line : LoadedPolicy → ℕ → List LintRule
rules_allowed_on_line policy number =
    rules_allowed_by_line (slice_get policy.walk.lines number)
    ++ rules_allowed_by_comment_line (option_and_then (line_before_spot policy) (slice_get policy.walk.spots number))

abbrev pub is_silenced_on_line : LoadedPolicy → ℕ → LintRule → Bool
is_silenced_on_line policy number r = list_any (is_same_rule r) (rules_allowed_on_line policy number)
