use Rattle.sudoers_undecided.proofs.AnswersByTests.{answer_by_request_tests}
use Rattle.sudoers_undecided.proofs.laws.answer_by_request_tests_is_the_answer.Goals as goal

pub returns : goal.returns
returns c lines r answer = answer_by_request_tests lines r answer
