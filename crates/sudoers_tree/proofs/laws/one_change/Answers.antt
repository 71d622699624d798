use Rattle.sudoers_tree.proofs.ChangedLines.{single_put_is_insert, single_take_is_remove, single_swap_is_replacement}
use Rattle.sudoers_tree.proofs.laws.one_change.Goals as goal

pub returns-clause-put : goal.returns-clause-put
returns-clause-put c = single_put_is_insert

pub returns-clause-take : goal.returns-clause-take
returns-clause-take c = single_take_is_remove

pub returns-clause-swap : goal.returns-clause-swap
returns-clause-swap c = single_swap_is_replacement
