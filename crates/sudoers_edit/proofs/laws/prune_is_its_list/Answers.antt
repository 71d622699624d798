use Rattle.sudoers_edit.proofs.PruneList.{prune_step_is_run_of_its_edits, prune_inverse_is_inverse_of_its_edits}
use Rattle.sudoers_edit.proofs.laws.prune_is_its_list.Goals as goal

pub returns-clause-step : goal.returns-clause-step
returns-clause-step c = prune_step_is_run_of_its_edits

pub returns-clause-inverse : goal.returns-clause-inverse
returns-clause-inverse c = prune_inverse_is_inverse_of_its_edits
