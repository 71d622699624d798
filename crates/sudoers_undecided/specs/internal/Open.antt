-- A device of the proof, which no public contract cites: members that could be undecided in a list of any kind.
use Rattle.std.specs.Prelude.{◌||◌, Bool, false, List, Option, Some, None}
use Rattle.std.specs.List.{list_any}
use Rattle.sudoers_grammar.specs.Node.{CmdSpec, Def, HostGroup, Member, Node, RunasSpec, Scope}
use Rattle.sudoers_grammar.specs.Node as node
use Rattle.sudoers_tree.specs.Line.{Line}
use Rattle.sudoers_match_member.specs.declared.people_and_commands.CommandLine.{CommandLine}
use Rattle.sudoers_match_member.specs.declared.people_and_commands.Who.{Who}
use Rattle.sudoers_match_list.specs.Flat.{SignedAtom, signed_atom_of_member}
use Rattle.sudoers_undecided.specs.MatchTests.{is_netgroup_or_non_unix_group_atom}
use Rattle.sudoers_undecided.specs.MemberQuestions.{is_command_undecided, is_host_atom_undecided}

-- it is undecided in a list of users or groups, of hosts, or of commands
abbrev pub is_atom_open : Who → CommandLine → SignedAtom → Bool
is_atom_open who c s = is_netgroup_or_non_unix_group_atom s.atom || (is_host_atom_undecided who s.atom || is_command_undecided c s)

abbrev pub is_member_open : Who → CommandLine → Member → Bool
is_member_open who c m = is_atom_open who c (signed_atom_of_member m)

abbrev pub is_list_open : Who → CommandLine → List Member → Bool
is_list_open who c ms = list_any (is_member_open who c) ms

-- a list of it is open
abbrev pub is_runas_open : Who → CommandLine → Option RunasSpec → Bool
is_runas_open who c None = false
is_runas_open who c (Some r) = is_list_open who c r.users || is_list_open who c r.groups

abbrev pub is_command_open : Who → CommandLine → CmdSpec → Bool
is_command_open who c spec = is_runas_open who c spec.runas || is_member_open who c spec.member

abbrev pub is_host_group_open : Who → CommandLine → HostGroup → Bool
is_host_group_open who c g = is_list_open who c g.hosts || list_any (is_command_open who c) g.commands

abbrev pub is_user_spec_open : Who → CommandLine → List Member → List HostGroup → Bool
is_user_spec_open who c users groups = is_list_open who c users || list_any (is_host_group_open who c) groups

abbrev pub is_definition_open : Who → CommandLine → Def → Bool
is_definition_open who c d = is_list_open who c d.members

abbrev pub is_scope_open : Who → CommandLine → Option Scope → Bool
is_scope_open who c None = false
is_scope_open who c (Some s) = is_list_open who c s.members

abbrev pub is_node_open : Who → CommandLine → Node → Bool
is_node_open who c (node.Defaults scope params) = is_scope_open who c scope
is_node_open who c (node.Alias k defs) = list_any (is_definition_open who c) defs
is_node_open who c (node.Spec users groups) = is_user_spec_open who c users groups
is_node_open who c node.Blank = false
is_node_open who c node.Comment = false
is_node_open who c (node.Include dir path) = false

abbrev pub is_line_open : Who → CommandLine → Line → Bool
is_line_open who c line = is_node_open who c line.node
