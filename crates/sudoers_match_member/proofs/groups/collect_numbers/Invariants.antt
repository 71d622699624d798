use Rattle.std.proofs.Common.{take}
use Rattle.sudoers_match_member.specs.internal.LookedUp.{AreNumbersOf}
use Rattle.sudoers_match_member.proofs.groups.collect_numbers.Given as goal

abbrev pub invariant-loop-group : goal.invariant-loop-group
invariant-loop-group l = AreNumbersOf (take l.group-index l.groups) l.numbers
