use Rattle.sudoers_tree.proofs.Common.{ap, sym, ◌∙◌}
use Rattle.std.specs.Prelude.{slice_get}
use Rattle.sudoers_tree.proofs.NameLists.{place_is, no_place}
use Rattle.sudoers_tree.proofs.defined_names.DefinedAliasNames.get.Goals as goal

pub returns-in-Some : goal.returns-in-Some
returns-in-Some c =
    c.definition_place_at.ensures ∙ ap (λ ps. slice_get ps c.in-Some.number) c.as_slice.ensures.value
    ∙ place_is (λ k. k.items) c.self.inside.names.keys c.self.inside.places.items c.args.self.now c.self.invariant c.self.view_is c.args.name.now c.in-Some.number (sym c.number_of_name.ensures ∙ c.in-Some.is)

pub returns-in-None : goal.returns-in-None
returns-in-None c = no_place (λ k. k.items) c.self.inside.names.keys c.self.inside.places.items c.args.self.now c.self.invariant c.self.view_is c.args.name.now (sym c.number_of_name.ensures ∙ c.in-None.is)
