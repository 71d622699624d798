-- What is left of a line. A device of the proof, which no public contract cites.
use Rattle.std.specs.Prelude.{List, map, Option}
use Rattle.std.specs.Option.{option_map}
use Rattle.sudoers_grammar.specs.declared.node.Kind.TheVariants.{User}
use Rattle.sudoers_grammar.specs.Node.{HostGroup, Node}
use Rattle.sudoers_grammar.specs.Node as node
use Rattle.sudoers_line_rows.specs.declared.rows.NodeRow.{NodeRow}
use Rattle.sudoers_line_rows.specs.declared.rows.Tables.{Tables}
use Rattle.sudoers_line_rows.specs.Tables.{commands_of_range_in_tables, member_in_tables, node_in_tables}
use Rattle.sudoers_tree.specs.Line.{Line}
use Rattle.sudoers_match.specs.internal.Straight.{HostGroupsLeadToNoCycle, LeadsToNoCyclicAlias, ScopeLeadsToNoCycle}
use Rattle.sudoers_cvt_rewrite.specs.declared.selecting.FilteredLine.{FilteredLine}
use Rattle.sudoers_cvt_rewrite.specs.declared.selecting.FilteredLine.TheVariants as choice
use Rattle.sudoers_cvt_rewrite.specs.declared.selecting.FilteredHostGroup.{FilteredHostGroup}
use Rattle.sudoers_cvt_rewrite.specs.internal.Written.{host_group_of_lists}

-- the host group that is left
abbrev pub host_group_of_filtered : Tables → FilteredHostGroup → HostGroup
host_group_of_filtered t s = host_group_of_lists (map (member_in_tables t) s.hosts.items) (commands_of_range_in_tables t s.commands)

abbrev pub optional_host_group_of_filtered : Tables → Option FilteredHostGroup → Option HostGroup
optional_host_group_of_filtered t o = option_map (host_group_of_filtered t) o

-- what is left of what the row says
abbrev pub node_of_filtered_line : Tables → NodeRow → FilteredLine → Node
node_of_filtered_line t row choice.Falls = node.Blank
node_of_filtered_line t row choice.Stays = node_in_tables t row
node_of_filtered_line t row (choice.Spec users groups) = node.Spec (map (member_in_tables t) users.items) (map (host_group_of_filtered t) groups.items)

-- No list that a filter asks for leads to a cyclic alias.
abbrev pub FilterListsLeadToNoCycle : List Line → Node → Type 0
FilterListsLeadToNoCycle lines (node.Spec users groups) = LeadsToNoCyclicAlias User lines users × HostGroupsLeadToNoCycle lines groups
FilterListsLeadToNoCycle lines (node.Defaults scope params) = ScopeLeadsToNoCycle lines scope
FilterListsLeadToNoCycle lines (node.Alias k defs) = Unit {0}
FilterListsLeadToNoCycle lines node.Blank = Unit {0}
FilterListsLeadToNoCycle lines node.Comment = Unit {0}
FilterListsLeadToNoCycle lines (node.Include dir path) = Unit {0}
