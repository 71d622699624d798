use Rattle.sudoers_tree.proofs.Outcomes.{policy_lines_of_text_are_read_outcome}
use Rattle.sudoers_tree.proofs.laws.read_is.Goals as goal

pub returns : goal.returns
returns c = policy_lines_of_text_are_read_outcome c.cut_is.ensures c.outcome_is.ensures
