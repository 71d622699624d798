use Rattle.sudoers_tree.proofs.Common.{List, Place, ap, ap₂, known_or_own_entries, length, length-map, min, names_of_entries, sym, ◌∙◌}
use Rattle.sudoers_tree.proofs.NameLists.{zipped_entries_have_smaller_count}
use Rattle.sudoers_tree.proofs.alias_names_update.AliasNamesUpdate.len.Goals as goal

pub returns-in-None : goal.returns-in-None
returns-in-None c =
    let places : List Place = c.args.self.now.places.items in
    c.min.ensures
    ∙ ap₂ min (ap length c.as_slice.ensures.value) (c.len-in-None.ensures ∙ sym (length-map c.args.known.now (λ e. e.0)))
    ∙ sym (zipped_entries_have_smaller_count (names_of_entries c.args.known.now) places)
    ∙ sym (ap (λ o. length (known_or_own_entries c.args.known.now o places)) c.in-None.is)
