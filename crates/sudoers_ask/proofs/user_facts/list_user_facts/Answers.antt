use Rattle.sudoers_ask.proofs.Ready.{ready_with_its_own}
use Rattle.sudoers_ask.proofs.user_facts.list_user_facts.Goals as goal

pub list_facts_of_users-requires : goal.list_facts_of_users-requires
list_facts_of_users-requires c = ready_with_its_own c.args.policy.now.walk.lines c.args.people.now c.args.question.now c.in_ok-asked.asked c.in_ok-asked.ensures.ready
