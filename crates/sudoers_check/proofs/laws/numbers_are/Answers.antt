use Rattle.sudoers_check.proofs.Linked.{definition_in_valid_lines_has_number}
use Rattle.sudoers_check.proofs.laws.numbers_are.Goals as goal

pub returns : goal.returns
returns c = definition_in_valid_lines_has_number
