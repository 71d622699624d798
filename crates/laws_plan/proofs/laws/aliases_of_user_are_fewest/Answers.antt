use Rattle.laws_plan.proofs.FewestAliases.{aliases_of_user_have_each, aliases_of_user_are_in_other_names}
use Rattle.laws_plan.proofs.laws.aliases_of_user_are_fewest.Goals as goal

pub returns-clause-each : goal.returns-clause-each
returns-clause-each c = aliases_of_user_have_each

pub returns-clause-fewest : goal.returns-clause-fewest
returns-clause-fewest c = aliases_of_user_are_in_other_names
