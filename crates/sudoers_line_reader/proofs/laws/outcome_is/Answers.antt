use Rattle.sudoers_line_reader.proofs.Contract.{computed_outcome_is_outcome_of_line}
use Rattle.sudoers_line_reader.proofs.laws.outcome_is.Goals as goal

pub returns : goal.returns
returns c = computed_outcome_is_outcome_of_line c.tokens_are.ensures
