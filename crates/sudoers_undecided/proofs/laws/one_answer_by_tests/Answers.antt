use Rattle.sudoers_undecided.proofs.AnswersByTests.{answer_by_tests_is_unique}
use Rattle.sudoers_undecided.proofs.laws.one_answer_by_tests.Goals as goal

pub returns : goal.returns
returns c lines tests r answer other a b = answer_by_tests_is_unique c.one_flat.ensures lines tests r answer other a b
