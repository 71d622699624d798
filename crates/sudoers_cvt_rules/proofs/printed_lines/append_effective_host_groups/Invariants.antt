use Rattle.std.proofs.Common.{◌≡◌, ◌++◌, drop, map, flat_map, codes}
use Rattle.std.specs.List.{join_by}
use Rattle.sudoers_grammar.specs.Node.{HostGroup}
use Rattle.sudoers_line_rows.specs.Tables.{host_group_in_tables}
use Rattle.sudoers_cvt_spell.specs.Lines.{printed_host_group}
use Rattle.sudoers_cvt_rules.specs.Effective.{effective_host_group}
use Rattle.sudoers_cvt_rules.proofs.printed_lines.append_effective_host_groups.Given as goal

abbrev pub invariant-loop-row : goal.invariant-loop-row
invariant-loop-row l =
    l.out.items ++ flat_map (λ (g : HostGroup). codes " : " ++ printed_host_group g) (map effective_host_group (map (host_group_in_tables l.groups.tables.now) (drop l.row-index l.rest)))
    ≡ l.fn.out.items ++ join_by printed_host_group (codes " : ") (map effective_host_group (map (host_group_in_tables l.groups.tables.now) l.groups.rows.now))
