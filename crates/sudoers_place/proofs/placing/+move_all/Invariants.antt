use Rattle.std.proofs.Common.{length}
use Rattle.sudoers_place.proofs.placing.+move_all.Given as goal

abbrev pub decreases-move_all : goal.decreases-move_all
decreases-move_all g l = length l.changes.now
