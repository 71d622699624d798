use Rattle.sudoers_tree.proofs.Common.{ap, length, ◌∙◌}
use Rattle.sudoers_tree.proofs.NameLists.{count_is}
use Rattle.sudoers_tree.proofs.defined_names.DefinedAliasNames.len.Goals as goal

pub returns : goal.returns
returns c = ap length c.as_slice.ensures.value ∙ count_is (λ k. k.items) c.self.inside.names.keys c.self.inside.places.items c.args.self.now c.self.invariant c.self.view_is
