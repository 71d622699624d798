use Rattle.sudoers_match.proofs.Alike.{alike_rows_fit_same_requests}
use Rattle.sudoers_match.proofs.laws.alike_rows_fit.Goals as goal

pub returns : goal.returns
returns c = alike_rows_fit_same_requests c.alike_lists_say_same.ensures
