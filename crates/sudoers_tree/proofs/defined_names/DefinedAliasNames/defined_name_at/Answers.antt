use Rattle.sudoers_tree.proofs.Common.{Some, ap, option_copied, sym, ◌∙◌}
use Rattle.std.specs.Prelude.{option_map}
use Rattle.sudoers_tree.proofs.NameLists.{name_at}
use Rattle.sudoers_tree.proofs.defined_names.DefinedAliasNames.defined_name_at.Goals as goal

pub returns-in-Some : goal.returns-in-Some
returns-in-Some c =
    ap Some c.as_slice.ensures.value ∙ ap (option_map (λ k. k.items)) (sym (ap option_copied c.in-Some.is) ∙ c.get_index.ensures.key)
    ∙ name_at (λ k. k.items) c.self.inside.names.keys c.self.inside.places.items c.args.self.now c.self.invariant c.self.view_is c.args.number

pub returns-in-None : goal.returns-in-None
returns-in-None c =
    ap (option_map (λ k. k.items)) (sym (ap option_copied c.in-None.is) ∙ c.get_index.ensures.key) ∙ name_at (λ k. k.items) c.self.inside.names.keys c.self.inside.places.items c.args.self.now c.self.invariant c.self.view_is c.args.number
