use Rattle.sudoers_compare.proofs.FoundRows.{overruled_rows_are_covered}
use Rattle.sudoers_compare.proofs.laws.overruled_row_is_covered.Goals as goal

pub returns : goal.returns
returns c = overruled_rows_are_covered
