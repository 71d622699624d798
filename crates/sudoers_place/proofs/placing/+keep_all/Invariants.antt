use Rattle.std.proofs.Common.{length}
use Rattle.sudoers_place.proofs.placing.+keep_all.Given as goal

abbrev pub decreases-keep_all : goal.decreases-keep_all
decreases-keep_all g l = length l.changes.now
