use Rattle.sudoers_tree.proofs.Common.{Def, List, alias_definitions_of_view, alias_names_in_host_group, alias_names_in_members, ap, bits_said, bits_with_names_added, flat_map, host_groups_of_view, map}
use Rattle.sudoers_tree.proofs.Common.{members_of_view, node_of_view, option_map, scope_of_view, sym, ℕ, ◌++◌, ◌∙◌, ◌≡◌}
use Rattle.sudoers_line_rows.specs.declared.view.Node.{Node as NodeView}
use Rattle.sudoers_tree.proofs.AddedBits.{bits_of_appended_names_are_added_in_turn, alias_names_of_definition_members, alias_names_of_scope_members, alias_names_of_user_spec_members}
use Rattle.sudoers_tree.proofs.name_bits.alias_name_bits_of_node.Goals as goal

-- the bits of what is shown
shown_as : (view shown : NodeView) (bits : ℕ) → view ≡ shown → bits ≡ bits_said (node_of_view shown) → bits ≡ bits_said (node_of_view view)
shown_as view shown bits is here = here ∙ sym (ap (λ (n : NodeView). bits_said (node_of_view n)) is)

pub returns-in-Defaults : goal.returns-in-Defaults
returns-in-Defaults c =
    shown_as c.args.node.now _ c.add_bits_of_scope.new.bits c.in-Defaults.is
    (c.add_bits_of_scope.ensures ∙ ap (bits_with_names_added 0) (sym (alias_names_of_scope_members (option_map scope_of_view c.in-Defaults.scope))))

pub returns-in-Alias : goal.returns-in-Alias
returns-in-Alias c =
    let defs : List Def = alias_definitions_of_view c.in-Alias.defs in
    let names : List (List ℕ) = map (λ (d : Def). d.name) defs in
    shown_as c.args.node.now _ c.add_bits_of_definition_members.new.bits c.in-Alias.is
    (c.add_bits_of_definition_members.ensures
    ∙ ap (λ (m : ℕ). bits_with_names_added m (flat_map (λ (d : Def). alias_names_in_members d.members) defs)) c.add_bits_of_defined_names.ensures
    ∙ sym (bits_of_appended_names_are_added_in_turn 0 names (flat_map (λ (d : Def). alias_names_in_members d.members) defs))
    ∙ ap (λ (ns : List (List ℕ)). bits_with_names_added 0 (names ++ ns)) (sym (alias_names_of_definition_members c.in-Alias.kind defs)))

pub returns-in-Spec : goal.returns-in-Spec
returns-in-Spec c =
    shown_as c.args.node.now _ c.add_bits_of_host_groups.new.bits c.in-Spec.is
    (c.add_bits_of_host_groups.ensures
    ∙ ap (λ (m : ℕ). bits_with_names_added m (flat_map alias_names_in_host_group (host_groups_of_view c.in-Spec.groups))) c.add_bits_of_members.ensures
    ∙ sym (bits_of_appended_names_are_added_in_turn 0 (alias_names_in_members (members_of_view c.in-Spec.users)) (flat_map alias_names_in_host_group (host_groups_of_view c.in-Spec.groups)))
    ∙ ap (bits_with_names_added 0) (sym (alias_names_of_user_spec_members (members_of_view c.in-Spec.users) (host_groups_of_view c.in-Spec.groups))))
