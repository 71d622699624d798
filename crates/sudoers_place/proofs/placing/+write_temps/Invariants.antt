use Rattle.std.proofs.Common.{length}
use Rattle.sudoers_place.proofs.placing.+write_temps.Given as goal

abbrev pub decreases-write_temps : goal.decreases-write_temps
decreases-write_temps g l = length l.changes.now
