use Rattle.sudoers_tree.proofs.OneOutcome.{read_outcome_of_text_is_unique}
use Rattle.sudoers_tree.proofs.laws.one_outcome.Goals as goal

pub returns : goal.returns
returns c = read_outcome_of_text_is_unique c.cut_is.ensures c.one_outcome.ensures c.outcome_is.ensures c.one_reading.ensures c.no_fault.ensures c.one_fault.ensures
