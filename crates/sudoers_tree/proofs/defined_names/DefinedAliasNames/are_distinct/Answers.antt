use Rattle.sudoers_tree.proofs.NameLists.{are_apart}
use Rattle.sudoers_tree.proofs.defined_names.DefinedAliasNames.are_distinct.Goals as goal

pub returns : goal.returns
returns c = are_apart (λ k. k.items) c.self.inside.names.keys c.self.inside.places.items c.args.self.now c.self.invariant c.self.view_is c.len.ensures.unique
