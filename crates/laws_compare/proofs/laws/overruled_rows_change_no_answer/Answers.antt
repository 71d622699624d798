use Rattle.laws_compare.proofs.OverruledRows.{rows_without_overruled_answer_same}
use Rattle.laws_compare.proofs.laws.overruled_rows_change_no_answer.Goals as goal

pub returns : goal.returns
returns c = rows_without_overruled_answer_same c.one_flat.ensures
