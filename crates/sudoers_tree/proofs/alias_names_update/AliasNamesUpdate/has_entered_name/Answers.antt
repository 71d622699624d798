use Rattle.sudoers_tree.proofs.Common.{List, Place, ap, is_next_known_entry, is_some, known_or_own_entries, not, place_of_named_entry, rules, sym, true, ◌∙◌, ◌≡◌}
use Rattle.sudoers_tree.proofs.NameLists.{next_known_name_is_not_among_first}
use Rattle.sudoers_tree.proofs.alias_names_update.AliasNamesUpdate.has_entered_name.Goals as goal

pub returns-else-not-is_next_known_name : goal.returns-else-not-is_next_known_name
returns-else-not-is_next_known_name c =
    let places : List Place = c.args.self.now.places.items in
    let next : is_next_known_entry c.args.known.now c.args.self.now c.args.name.now ≡ true = search rules in
    ap not (c.is_next_known_name.ensures ∙ next)
    ∙ sym (ap (λ o. is_some (place_of_named_entry c.args.name.now (known_or_own_entries c.args.known.now o places))) c.in-None.is
    ∙ ap is_some (next_known_name_is_not_among_first c.args.known.now places c.args.name.now c.are_distinct.ensures next))
