use Rattle.std.proofs.Common.{option_map}
use Rattle.sudoers_match.specs.Found.{answer_without_member_and_settings}
use Rattle.sudoers_ask.proofs.Ready.{ready_answer, ready_found, ready_itself}
use Rattle.sudoers_ask.proofs.user_facts.append_facts_of_user.Goals as goal

pub ask_user-requires : goal.ask_user-requires
ask_user-requires c = ready_itself c.args.policy.now.walk.lines c.args.asked.now.people.now c.args.asked.now.question.now c.args.asked.now c.requires

pub append_facts_of_answer-requires-clause-same : goal.append_facts_of_answer-requires-clause-same
append_facts_of_answer-requires-clause-same c =
    c.requires.walk

pub append_facts_of_answer-requires-clause-answer : goal.append_facts_of_answer-requires-clause-answer
append_facts_of_answer-requires-clause-answer c =
    ready_answer c.args.policy.now.walk.lines c.args.asked.now.people.now c.args.asked.now.question.now c.args.asked.now c.requires c.in_ok-answer.answer.request (option_map answer_without_member_and_settings c.in_ok-answer.answer.found) c.in_ok-answer.ensures.answer

pub append_facts_of_answer-requires-clause-found : goal.append_facts_of_answer-requires-clause-found
append_facts_of_answer-requires-clause-found c =
    ready_found c.args.policy.now.walk.lines c.args.asked.now.people.now c.args.asked.now.question.now c.args.asked.now c.requires c.in_ok-answer.answer.found c.in_ok-answer.ensures.found

pub append_facts_of_answer-requires-clause-default : goal.append_facts_of_answer-requires-clause-default
append_facts_of_answer-requires-clause-default c =
    c.in_ok-answer.ensures.request.is_default
