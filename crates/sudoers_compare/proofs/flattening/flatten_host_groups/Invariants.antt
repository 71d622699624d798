use Rattle.std.proofs.Common.{◌≡◌, ℕ, ◌++◌, List, drop, map}
use Rattle.std.specs.List.{flat_map}
use Rattle.sudoers_grammar.specs.Node.{Member}
use Rattle.sudoers_grammar.specs.declared.node.Kind.TheVariants.{User}
use Rattle.sudoers_line_rows.specs.Tables.{host_group_in_tables}
use Rattle.laws_compare.specs.Computed.{flat_list_of_members}
use Rattle.sudoers_compare.specs.FlatSpecs.{placed_rows_of_flat_host_group, placed_rows_of_host_group}
use Rattle.sudoers_compare.proofs.flattening.flatten_host_groups.Given as goal

-- The rows so far, and those of the groups still to come.
abbrev pub invariant-loop-row : goal.invariant-loop-row
invariant-loop-row l =
    (number : ℕ) (users : List Member) → flat_map (placed_rows_of_flat_host_group l.source.lines.tables.now number (flat_list_of_members User l.source.policy.now users)) l.groups.items
    ++ flat_map (placed_rows_of_host_group l.source.policy.now number users) (map (host_group_in_tables l.source.lines.tables.now) (drop l.row-index l.rows))
    ≡ flat_map (placed_rows_of_host_group l.source.policy.now number users) (map (host_group_in_tables l.source.lines.tables.now) l.rows)
