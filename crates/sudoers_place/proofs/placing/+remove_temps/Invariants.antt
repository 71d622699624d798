use Rattle.std.proofs.Common.{length}
use Rattle.sudoers_place.proofs.placing.+remove_temps.Given as goal

abbrev pub decreases-remove_temps : goal.decreases-remove_temps
decreases-remove_temps g l = length l.changes.now
