use Rattle.std.proofs.Common.{option_map}
use Rattle.sudoers_match.specs.Found.{answer_without_member_and_settings}
use Rattle.sudoers_ask.proofs.Ready.{ready_answer, ready_found, ready_itself}
use Rattle.sudoers_ask.proofs.user_facts.find_facts_of_user.Goals as goal

pub ask_user-requires : goal.ask_user-requires
ask_user-requires c = ready_itself c.args.policy.now.walk.lines c.args.asked.now.people.now c.args.asked.now.question.now c.args.asked.now c.requires

pub make_user_facts-requires-clause-same : goal.make_user_facts-requires-clause-same
make_user_facts-requires-clause-same c =
    c.requires.walk

pub make_user_facts-requires-clause-answer : goal.make_user_facts-requires-clause-answer
make_user_facts-requires-clause-answer c =
    ready_answer c.args.policy.now.walk.lines c.args.asked.now.people.now c.args.asked.now.question.now c.args.asked.now c.requires c.in_ok-answer.answer.request (option_map answer_without_member_and_settings c.in_ok-answer.answer.found) c.in_ok-answer.ensures.answer

pub make_user_facts-requires-clause-found : goal.make_user_facts-requires-clause-found
make_user_facts-requires-clause-found c =
    ready_found c.args.policy.now.walk.lines c.args.asked.now.people.now c.args.asked.now.question.now c.args.asked.now c.requires c.in_ok-answer.answer.found c.in_ok-answer.ensures.found

pub make_user_facts-requires-clause-default : goal.make_user_facts-requires-clause-default
make_user_facts-requires-clause-default c =
    c.in_ok-answer.ensures.request.is_default
