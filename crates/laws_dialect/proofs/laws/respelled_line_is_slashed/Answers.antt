use Rattle.laws_dialect.proofs.Slashes.{respelled_line_is_slashed_line, adapted_line_is_slashed_line}
use Rattle.laws_dialect.proofs.laws.respelled_line_is_slashed.Goals as goal

pub returns-clause-respelled : goal.returns-clause-respelled
returns-clause-respelled c = respelled_line_is_slashed_line

pub returns-clause-adapted : goal.returns-clause-adapted
returns-clause-adapted c = adapted_line_is_slashed_line c.respelled_line_is.ensures
