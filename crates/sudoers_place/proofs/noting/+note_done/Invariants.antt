use Rattle.std.proofs.Common.{length}
use Rattle.sudoers_place.proofs.noting.+note_done.Given as goal

abbrev pub decreases-note_done : goal.decreases-note_done
decreases-note_done g l = length l.changes.now
