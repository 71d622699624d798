use Rattle.std.proofs.Common.{take}
use Rattle.sudoers_match_member.specs.internal.LookedUp.{AreNumbersHitWithoutMask}
use Rattle.sudoers_match_member.proofs.network.collect_numbers_hit_without_mask.Given as goal

abbrev pub invariant-loop-interface : goal.invariant-loop-interface
invariant-loop-interface l = AreNumbersHitWithoutMask (take l.interface-index l.interfaces) l.numbers
