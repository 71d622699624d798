use Rattle.std.proofs.Common.{length}
use Rattle.sudoers_place.proofs.memory.+look_up.Given as goal

abbrev pub decreases-look_up : goal.decreases-look_up
decreases-look_up l = length l.log.now
