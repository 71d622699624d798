use Rattle.sudoers_match.proofs.Spelled.{sole_spelling_answers}
use Rattle.sudoers_match.proofs.answering.find_answer_without_args_limit.Goals as goal

pub returns-clause-answer : goal.returns-clause-answer
returns-clause-answer c =
    sole_spelling_answers c.args.policy.now c.in_ok-command.command c.args.request.now c.in_ok-command.ensures.command c.in_ok-command.ensures.others c.find_row_in_specs.result c.find_row_in_specs.ensures.answer
