use Rattle.std.proofs.Common.{List, ◌++◌, ap, ◌∙◌}
use Rattle.std.specs.List.{flat_map}
use Rattle.sudoers_grammar.specs.declared.node.Kind.TheVariants.{User}
use Rattle.laws_compare.specs.Computed.{flat_list_of_members}
use Rattle.sudoers_compare.specs.declared.flat_specs.FlatHostGroup.{FlatHostGroup}
use Rattle.sudoers_compare.specs.FlatSpecs.{PlacedRow, placed_rows_of_flat_host_group}
use Rattle.sudoers_compare.proofs.FlatCommands.{rows_of_one_more}
use Rattle.sudoers_compare.proofs.flattening.append_flat_host_group.Goals as goal

pub returns : goal.returns
returns c = λ number users.
    let flat : FlatHostGroup → List PlacedRow = placed_rows_of_flat_host_group c.args.source.now.lines.tables.now number (flat_list_of_members User c.args.source.now.policy.now users) in
    let before = c.args.groups.now.items in
    ap (flat_map flat) c.in_ok-push.ensures.items ∙ rows_of_one_more flat before c.in_ok-flatten_host_group.field-0
    ∙ ap (λ (rows : List PlacedRow). flat_map flat before ++ rows) (c.in_ok-flatten_host_group.ensures number users)
