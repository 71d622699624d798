use Rattle.sudoers_edit_script.proofs.FrontLemmas.{first_bad_line_is_unique, first_bad_line_is_reported_by_reading}
use Rattle.sudoers_edit_script.proofs.laws.first_dead_line_is_told.Goals as goal

pub returns-clause-one : goal.returns-clause-one
returns-clause-one c = first_bad_line_is_unique

pub returns-clause-told : goal.returns-clause-told
returns-clause-told c = first_bad_line_is_reported_by_reading
