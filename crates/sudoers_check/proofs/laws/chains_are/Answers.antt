use Rattle.sudoers_check.proofs.Led.{unused_definition_is_not_reachable, used_definition_is_reachable, definition_found_cyclic_is_cyclic, definition_found_acyclic_is_not_cyclic}
use Rattle.sudoers_check.proofs.laws.chains_are.Goals as goal

pub returns-clause-unused : goal.returns-clause-unused
returns-clause-unused c = unused_definition_is_not_reachable

pub returns-clause-used : goal.returns-clause-used
returns-clause-used c = used_definition_is_reachable

pub returns-clause-cyclic : goal.returns-clause-cyclic
returns-clause-cyclic c = definition_found_cyclic_is_cyclic

pub returns-clause-straight : goal.returns-clause-straight
returns-clause-straight c = definition_found_acyclic_is_not_cyclic
