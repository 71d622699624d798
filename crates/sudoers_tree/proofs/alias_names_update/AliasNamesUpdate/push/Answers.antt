use Rattle.sudoers_tree.proofs.Common.{List, Place, [], ap, ap₂, is_next_known_entry, known_names_with_places, known_or_own_entries, length-map, names_of_entries, place_of_named_entry, sym, take, true, ◌++◌, ◌∙◌}
use Rattle.sudoers_tree.proofs.Common.{◌∷◌, ◌≡◌}
use Rattle.sudoers_tree.proofs.NameLists.{next_known_name_is_added_with_place, places_past_names_do_not_count}
use Rattle.sudoers_tree.proofs.alias_names_update.AliasNamesUpdate.push.Goals as goal

pub returns-then-is_next_known_name : goal.returns-then-is_next_known_name
returns-then-is_next_known_name c =
    let known = c.args.known.now in
    let places : List Place = c.args.self.now.places.items in
    let next : is_next_known_entry known c.args.self.now c.args.name.now ≡ true = sym c.is_next_known_name.ensures ∙ c.if-is_next_known_name.true in
    ap₂ (known_or_own_entries known) c.in_default.is c.in_ok-push.ensures.items
    ∙ next_known_name_is_added_with_place known places c.args.name.now c.args.place next
    ∙ ap (λ o. known_or_own_entries known o places ++ (c.args.name.now, c.args.place) ∷ []) (sym c.in_default.is)

pub push-requires-2 : goal.push-requires-2
push-requires-2 c =
    let known = c.args.known.now in
    let places : List Place = c.args.self.now.places.items in
    ap (place_of_named_entry c.args.name.now) (c.in_ok-names.ensures
    ∙ ap (known_names_with_places known) (c.truncate.ensures.items ∙ ap₂ (λ n ps. take n ps) (c.len.ensures ∙ sym (length-map known (λ e. e.0))) (ap (λ v. v.items) c.replace-places.ensures.value))
    ∙ places_past_names_do_not_count (names_of_entries known) places
    ∙ ap (λ o. known_or_own_entries known o places) (sym c.in_default.is))
    ∙ c.requires

pub returns : goal.returns
returns c =
    let known = c.args.known.now in
    let places : List Place = c.args.self.now.places.items in
    c.in_ok-push-2.ensures
    ∙ ap (λ es. es ++ (c.args.name.now, c.args.place) ∷ []) (c.in_ok-names.ensures
    ∙ ap (known_names_with_places known) (c.truncate.ensures.items ∙ ap₂ (λ n ps. take n ps) (c.len.ensures ∙ sym (length-map known (λ e. e.0))) (ap (λ v. v.items) c.replace-places.ensures.value))
    ∙ places_past_names_do_not_count (names_of_entries known) places
    ∙ ap (λ o. known_or_own_entries known o places) (sym c.in_default.is))
