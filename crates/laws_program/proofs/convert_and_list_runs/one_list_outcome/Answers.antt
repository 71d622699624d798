use Rattle.laws_program.proofs.ListOutcome.{list_outcome_is_unique}
use Rattle.laws_program.proofs.convert_and_list_runs.one_list_outcome.Goals as goal

pub returns : goal.returns
returns c = list_outcome_is_unique (record { listing = c.one_listing.ensures; reason = c.one_reason.ensures; answer = c.one_answer.ensures; default = c.one_runas_default.ensures })
