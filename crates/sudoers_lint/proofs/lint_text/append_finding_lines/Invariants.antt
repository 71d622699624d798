use Rattle.std.proofs.Common.{◌≡◌, ◌++◌, drop}
use Rattle.std.specs.List.{flat_map}
use Rattle.sudoers_lint.specs.LintText.{lint_line}
use Rattle.sudoers_lint.specs.Views.{findings_of_view}
use Rattle.sudoers_lint.proofs.lint_text.append_finding_lines.Given as goal

-- The lines so far, and those on the findings still to come. The cursor stays on the policy.
abbrev pub invariant-loop-finding : goal.invariant-loop-finding
invariant-loop-finding l =
    (l.out.items ++ flat_map (lint_line l.policy) (findings_of_view (drop l.finding-index l.findings)) ≡ l.initial.out.items ++ flat_map (lint_line l.policy) (findings_of_view l.findings))
    × (l.cursor.policy.now ≡ l.policy)
