use Rattle.sudoers_tree.proofs.Common.{All, List, Place, ap, length-map, map, subst, sym, ℕ, ◌∙◌}
use Rattle.std.proofs.Common.{rules}
use Rattle.std.proofs.lemmas.List.{places, with_items_is}
use Rattle.std.specs.Vec.{with_items}
use Rattle.sudoers_tree.specs.internal.InPlace.{IsPlaceWithinReach, moved_place}
use Rattle.sudoers_tree.proofs.MovedPlaces.{all_pairs_have_all_seconds, names_with_moved_places}
use Rattle.sudoers_tree.proofs.defined_names.DefinedAliasNames.move_places.Goals as goal

pub move_places-requires-clause-reach : goal.move_places-requires-clause-reach
move_places-requires-clause-reach c =
    subst (All IsPlaceWithinReach) (sym c.as_mut_slice.ensures.value)
    (all_pairs_have_all_seconds IsPlaceWithinReach (map (λ name. name.items) c.self.inside.names.keys) c.self.inside.places.items (length-map c.self.inside.names.keys (λ name. name.items) ∙ c.self.invariant)
    (subst (All (λ (e : List ℕ × Place). IsPlaceWithinReach e.1)) (sym c.self.view_is) c.requires.reach))

pub returns : goal.returns
returns c =
    names_with_moved_places (λ k. k.items) c.self.inside.names.keys c.self.inside.places.items (with_items c.self.inside.places c.move_places.new.places).items c.args.self.now (moved_place c.args.from c.args.by)
    c.self.view_is
    (with_items_is c.self.inside.places c.move_places.new.places (search (rules, places)) ∙ c.move_places.ensures ∙ ap (map (moved_place c.args.from c.args.by)) c.as_mut_slice.ensures.value)
