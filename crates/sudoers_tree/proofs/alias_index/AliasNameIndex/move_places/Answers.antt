use Rattle.sudoers_tree.proofs.Common.{Cmnd, Host, Runas, User}
use Rattle.sudoers_tree.proofs.alias_index.AliasNameIndex.move_places.Goals as goal

pub move_places-requires-clause-reach : goal.move_places-requires-clause-reach
move_places-requires-clause-reach c = c.requires.reach User

pub move_places-requires-2-clause-reach : goal.move_places-requires-2-clause-reach
move_places-requires-2-clause-reach c = c.requires.reach Runas

pub move_places-requires-3-clause-reach : goal.move_places-requires-3-clause-reach
move_places-requires-3-clause-reach c = c.requires.reach Host

pub move_places-requires-4-clause-reach : goal.move_places-requires-4-clause-reach
move_places-requires-4-clause-reach c = c.requires.reach Cmnd
