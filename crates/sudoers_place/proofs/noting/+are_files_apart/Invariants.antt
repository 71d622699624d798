use Rattle.std.proofs.Common.{length}
use Rattle.sudoers_place.proofs.noting.+are_files_apart.Given as goal

abbrev pub decreases-are_files_apart : goal.decreases-are_files_apart
decreases-are_files_apart l = length l.changes.now
