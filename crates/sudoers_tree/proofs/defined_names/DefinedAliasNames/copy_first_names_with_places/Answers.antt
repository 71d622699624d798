use Rattle.sudoers_tree.proofs.Common.{[], ap, length, names_of_entries, place_of_named_entry, rules, subst, sym, take_all, zip, ◌++◌, ◌<◌, ◌∙◌, ◌∷◌}
use Rattle.sudoers_tree.proofs.NameLists.{first_entries_add_next_name_and_place, name_absent_from_front_is_absent_from_zip, no_places_make_no_entries, numbered_place_has_name}
use Rattle.sudoers_tree.proofs.defined_names.DefinedAliasNames.copy_first_names_with_places.Goals as goal

pub loop-number-init : goal.loop-number-init
loop-number-init c = c.new-names.ensures ∙ sym (no_places_make_no_entries (names_of_entries c.args.self.now) c.args.places.items)

pub push-requires : goal.push-requires
push-requires c =
    ap (place_of_named_entry c.in-Some.name.now) c.loop-number.invariant
    ∙ name_absent_from_front_is_absent_from_zip c.in-Some.name.now c.loop-number.number c.args.self.now c.args.places.items
    (c.are_distinct.ensures c.loop-number.number c.in-Some.name.now (sym c.in-Some.ensures))

pub returns-in_default : goal.returns-in_default
returns-in_default c =
    absurd (numbered_place_has_name c.args.self.now c.args.places.items c.loop-number.number
    (subst (λ n. c.loop-number.number < n) (ap length c.as_slice-number-end.ensures.value) c.loop-number-test.true) c.requires (search rules))

pub loop-number-preserved : goal.loop-number-preserved
loop-number-preserved c =
    let less : c.loop-number.number < length c.args.places.items = subst (λ n. c.loop-number.number < n) (ap length c.as_slice-number-end.ensures.value) c.loop-number-test.true in
    c.in_ok-push.ensures
    ∙ ap (λ es. es ++ (c.in-Some.name.now, c.index.result.now) ∷ []) c.loop-number.invariant
    ∙ first_entries_add_next_name_and_place c.args.self.now c.args.places.items c.loop-number.number c.in-Some.name.now c.index.result.now less c.index.ensures (sym c.in-Some.ensures)

pub returns : goal.returns
returns c = c.loop-number.invariant ∙ ap (zip (names_of_entries c.args.self.now)) (take_all c.loop-number.number c.args.places.items (search rules))
