use Rattle.std.proofs.Common.{◌≡◌, length}
use Rattle.sudoers_lint.specs.Names.{can_name_same}
use Rattle.sudoers_lint.proofs.variables.can_name_same.Given as goal

abbrev pub invariant-loop-byte : goal.invariant-loop-byte
invariant-loop-byte l = can_name_same l.left l.right ≡ can_name_same l.pattern l.other

abbrev pub decreases-loop-byte : goal.decreases-loop-byte
decreases-loop-byte l = length l.left
