use Rattle.sudoers_compare.proofs.FoundRows.{rows_that_stay_are_not_covered}
use Rattle.sudoers_compare.proofs.laws.row_that_stays_is_not_covered.Goals as goal

pub returns : goal.returns
returns c = rows_that_stay_are_not_covered
