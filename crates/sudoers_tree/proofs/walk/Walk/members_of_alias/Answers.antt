use Rattle.sudoers_tree.proofs.Common.{Alias, Def, None, Some, alias_definitions_of_view, ap, node_of_view, option_map, slice_get, sym, ◌∙◌, ◌≡◌}
use Rattle.sudoers_tree.proofs.AtPlaces.{place_of_alias_holds_its_definition, node_at_alias_place_is_alias_line, view_of_alias_node_is_alias_view, equal_alias_nodes_have_equal_definitions}
use Rattle.sudoers_tree.proofs.walk.Walk.members_of_alias.Goals as goal

pub returns-in_err-defs : goal.returns-in_err-defs
returns-in_err-defs c =
    let at = place_of_alias_holds_its_definition c.args.self.now c.args.kind c.args.name.now c.in_ok-place.place c.in_ok-place.ensures in
    let none = node_at_alias_place_is_alias_line _ _ _ _ at None c.in_err-defs.ensures in
    absurd cc

pub returns-in_default : goal.returns-in_default
returns-in_default c =
    let at = place_of_alias_holds_its_definition c.args.self.now c.args.kind c.args.name.now c.in_ok-place.place c.in_ok-place.ensures in
    let is = node_at_alias_place_is_alias_line _ _ _ _ at (Some (node_of_view c.in_ok-defs.field-0)) c.in_ok-defs.ensures in
    let says : node_of_view c.in_ok-defs.field-0 ≡ Alias at.kind at.defs = cc in
    let view = view_of_alias_node_is_alias_view c.in_ok-defs.field-0 at.kind at.defs says in
    absurd (c.in_default.not-Alias at.kind view.0 view.1)

pub returns : goal.returns
returns c =
    let at = place_of_alias_holds_its_definition c.args.self.now c.args.kind c.args.name.now c.in_ok-place.place c.in_ok-place.ensures in
    let is = node_at_alias_place_is_alias_line _ _ _ _ at (Some (node_of_view c.in_ok-defs.field-0)) c.in_ok-defs.ensures in
    let says : node_of_view c.in_ok-defs.field-0 ≡ Alias at.kind at.defs = cc in
    let same : alias_definitions_of_view c.in-Alias.defs ≡ at.defs = equal_alias_nodes_have_equal_definitions _ _ _ _ (sym (ap node_of_view c.in-Alias.is) ∙ says) in
    c.members_of_definition_at.ensures
    ∙ ap (λ ds. option_map (λ (d : Def). d.members) (slice_get ds c.in_ok-place.place.def)) same
    ∙ ap (option_map (λ (d : Def). d.members)) at.def_is
    ∙ sym at.members_are
