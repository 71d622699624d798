use Rattle.laws_dialect.proofs.ReadLines.{read_line_is_respelled_to_itself}
use Rattle.laws_dialect.proofs.AdaptedLines.{read_line_is_computed_respelled_line, read_line_is_its_adapted_line}
use Rattle.laws_dialect.proofs.laws.read_line_is_adapted.Goals as goal

pub returns-clause-respelled : goal.returns-clause-respelled
returns-clause-respelled c = read_line_is_respelled_to_itself

pub returns-clause-computed : goal.returns-clause-computed
returns-clause-computed c = read_line_is_computed_respelled_line c.respelled_line_is.ensures c.one_respelled_line.ensures

pub returns-clause-adapted : goal.returns-clause-adapted
returns-clause-adapted c = read_line_is_its_adapted_line c.respelled_line_is.ensures c.one_respelled_line.ensures
