use Rattle.sudoers_ask.proofs.Ready.{ready_with_its_own}
use Rattle.sudoers_ask.proofs.user_facts.find_user_facts.Goals as goal

pub find_facts_of_user-requires : goal.find_facts_of_user-requires
find_facts_of_user-requires c = ready_with_its_own c.args.policy.now.walk.lines c.args.people.now c.args.question.now c.in_ok-asked.asked c.in_ok-asked.ensures.ready
