use Rattle.std.proofs.Common.{◌≡◌, drop}
use Rattle.std.specs.List.{list_any}
use Rattle.sudoers_lint.specs.Names.{is_risky_variable, texts_of_view}
use Rattle.sudoers_lint.proofs.default_findings.has_risky_variable.Given as goal

abbrev pub invariant-loop-word : goal.invariant-loop-word
invariant-loop-word l = list_any is_risky_variable (texts_of_view (drop l.word-index l.words)) ≡ list_any is_risky_variable (texts_of_view l.words)
