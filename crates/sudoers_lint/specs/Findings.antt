-- What lint finds in a policy, and where.
use Rattle.std.specs.Prelude.{ℕ, ◌+◌, not, List, [], ◌∷◌, ◌++◌, drop, map, Option, None}
use Rattle.std.specs.List.{filter}
use Rattle.sudoers_grammar.specs.Node.{Node, Param}
use Rattle.sudoers_grammar.specs.Node as node
use Rattle.sudoers_tree.specs.Line.{Line}
use Rattle.sudoers_tree.specs.Load.{LoadedPolicy}
use Rattle.sudoers_cvt_spell.specs.Parameters.{printed_param}
use Rattle.sudoers_compare.specs.FlatSpecs.{PlacedRow, placed_rows_of_policy}
use Rattle.sudoers_review.specs.OverruledText.{command_text_of_row}
use Rattle.sudoers_lint.specs.declared.lint_rule.LintRule.{LintRule}
use Rattle.sudoers_lint.specs.Lint.{AllowedAll, allowed_all_after, broken_rules_of_param, broken_rules_of_row}
use Rattle.sudoers_lint.specs.ParameterStarts.{parameter_starts}
use Rattle.sudoers_lint.specs.Silenced.{is_silenced_on_line}

-- A rule that is broken: on the line of the walk with this number, at this byte there. The subject is the command or the parameter.
pub record Finding : Type 0 where
  pub line : ℕ
  pub start : ℕ
  pub rule : LintRule
  pub subject : List ℕ

abbrev pub finding_at : ℕ → ℕ → List ℕ → LintRule → Finding
finding_at line start subject r = record { line = line; start = start; rule = r; subject = subject }

-- ---- rows

abbrev pub findings_of_row : Option AllowedAll → PlacedRow → List Finding
findings_of_row before placed = map (finding_at placed.line placed.start (command_text_of_row placed)) (broken_rules_of_row before placed)

-- those of rows in file order; before them this row was the last that allows any command
abbrev pub findings_of_rows : Option AllowedAll → List PlacedRow → List Finding
findings_of_rows before [] = []
findings_of_rows before (placed ∷ rows) = findings_of_row before placed ++ findings_of_rows (allowed_all_after before placed) rows

-- ---- Defaults lines

abbrev pub findings_of_param : ℕ → ℕ → Param → List Finding
findings_of_param number start p = map (finding_at number start (printed_param p)) (broken_rules_of_param p)

-- the first of these places, or 0
abbrev pub first_start : List ℕ → ℕ
first_start [] = 0
first_start (start ∷ starts) = start

-- those of parameters in their order, which begin at these places
abbrev pub findings_of_params : ℕ → List ℕ → List Param → List Finding
findings_of_params number starts [] = []
findings_of_params number starts (p ∷ ps) = findings_of_param number (first_start starts) p ++ findings_of_params number (drop 1 starts) ps

-- the findings of the line with this number that has this text and says this
abbrev pub findings_of_node : ℕ → List ℕ → Node → List Finding
findings_of_node number text (node.Defaults scope params) = findings_of_params number (parameter_starts text) params
findings_of_node number text node.Blank = []
findings_of_node number text node.Comment = []
findings_of_node number text (node.Include dir path) = []
findings_of_node number text (node.Alias k defs) = []
findings_of_node number text (node.Spec users groups) = []

-- those of Defaults lines; the lines are numbered from this number on
abbrev pub findings_of_lines : ℕ → List Line → List Finding
findings_of_lines number [] = []
findings_of_lines number (line ∷ lines) = findings_of_node number line.text line.node ++ findings_of_lines (number + 1) lines

-- ---- a policy

abbrev pub all_findings : List Line → List Finding
all_findings lines = findings_of_rows None (placed_rows_of_policy lines) ++ findings_of_lines 0 lines

-- those that no comment silences
abbrev pub unsilenced_findings : LoadedPolicy → List Finding → List Finding
unsilenced_findings policy findings = filter (λ (f : Finding). not (is_silenced_on_line policy f.line f.rule)) findings

-- What lint finds in a policy, but for what comments silence.
abbrev pub lint_findings : LoadedPolicy → List Finding
lint_findings policy = unsilenced_findings policy (all_findings policy.walk.lines)
