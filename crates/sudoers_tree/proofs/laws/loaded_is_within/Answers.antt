use Rattle.sudoers_tree.proofs.Known.{loaded_walk_is_distinct_and_within_limit}
use Rattle.sudoers_tree.proofs.laws.loaded_is_within.Goals as goal

pub returns-clause-once : goal.returns-clause-once
returns-clause-once c = λ files w is. (loaded_walk_is_distinct_and_within_limit files w is).0

pub returns-clause-within : goal.returns-clause-within
returns-clause-within c = λ files w is. (loaded_walk_is_distinct_and_within_limit files w is).1
