use Rattle.std.proofs.Common.{length}
use Rattle.sudoers_place.proofs.noting.+is_path_apart.Given as goal

abbrev pub decreases-is_path_apart : goal.decreases-is_path_apart
decreases-is_path_apart l = length l.changes.now
