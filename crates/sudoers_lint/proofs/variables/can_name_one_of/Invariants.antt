use Rattle.std.proofs.Common.{◌≡◌, drop}
use Rattle.sudoers_lint.specs.Names.{can_name_one_of}
use Rattle.sudoers_lint.proofs.variables.can_name_one_of.Given as goal

abbrev pub invariant-loop-pattern : goal.invariant-loop-pattern
invariant-loop-pattern l = can_name_one_of (drop l.pattern-index l.patterns) l.word ≡ can_name_one_of l.patterns l.word
