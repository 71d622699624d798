use Rattle.sudoers_tree.proofs.Common.{List, Place, Some, ap, sym, ◌∙◌}
use Rattle.sudoers_tree.proofs.NameLists.{known_name_has_number_below_count, is_number_below_count_of_places}
use Rattle.sudoers_tree.proofs.alias_names_update.AliasNamesUpdate.has_reused_known_name.Goals as goal

pub returns-in-Some : goal.returns-in-Some
returns-in-Some c =
    let places : List Place = c.args.self.now.places.items in
    ap (λ ps. is_number_below_count_of_places (Some c.in-Some.number) ps) c.as_slice.ensures.value
    ∙ sym (known_name_has_number_below_count c.args.name.now c.args.known.now places ∙ ap (λ o. is_number_below_count_of_places o places) (sym c.number_of_name.ensures ∙ c.in-Some.is))

pub returns-in-None : goal.returns-in-None
returns-in-None c =
    let places : List Place = c.args.self.now.places.items in
    sym (known_name_has_number_below_count c.args.name.now c.args.known.now places ∙ ap (λ o. is_number_below_count_of_places o places) (sym c.number_of_name.ensures ∙ c.in-None.is))
