use Rattle.std.proofs.Common.{length}
use Rattle.sudoers_place.proofs.placing.+compare.Given as goal

abbrev pub decreases-compare : goal.decreases-compare
decreases-compare g l = length l.changes.now
