use Rattle.sudoers_match.specs.Spellings.{is_spelled_command_match}
use Rattle.sudoers_match.proofs.answering.find_row_in_specs.Goals as goal

pub find_last_fitting_row-requires-clause-question : goal.find_last_fitting_row-requires-clause-question
find_last_fitting_row-requires-clause-question c = c.in_ok-question.ensures (is_spelled_command_match c.args.command.now)
