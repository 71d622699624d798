use Rattle.sudoers_tree.proofs.Common.{◌∙◌}
use Rattle.sudoers_tree.proofs.NameLists.{number_is}
use Rattle.sudoers_tree.proofs.defined_names.DefinedAliasNames.number_of_name.Goals as goal

pub returns : goal.returns
returns c = c.get_index_of.ensures.index ∙ number_is (λ k. k.items) c.self.inside.names.keys c.self.inside.places.items c.args.self.now c.self.invariant c.self.view_is c.args.name.now
