use Rattle.sudoers_text.proofs.Outcomes.{outcome_of_cut_is_unique}
use Rattle.sudoers_text.proofs.laws.one_outcome.Goals as goal

pub returns : goal.returns
returns c = outcome_of_cut_is_unique
