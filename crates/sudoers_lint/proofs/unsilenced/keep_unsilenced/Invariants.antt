use Rattle.std.proofs.Common.{◌≡◌}
use Rattle.sudoers_lint.specs.Findings.{unsilenced_findings}
use Rattle.sudoers_lint.specs.Known.{AreRulesKnown}
use Rattle.sudoers_lint.specs.Views.{findings_of_view}
use Rattle.sudoers_lint.proofs.unsilenced.keep_unsilenced.Given as goal

-- Of the findings so far, those are kept that no comment silences.
abbrev pub invariant-loop-finding : goal.invariant-loop-finding
invariant-loop-finding l = (findings_of_view l.kept.items ≡ unsilenced_findings l.policy (findings_of_view l.yielded)) × AreRulesKnown l.policy l.last
