use Rattle.sudoers_text.proofs.Found.{computed_outcome_is_outcome_of_cut}
use Rattle.sudoers_text.proofs.laws.cut_is.Goals as goal

pub returns : goal.returns
returns c = computed_outcome_is_outcome_of_cut
