-- What views show: the values of which contracts speak.
use Rattle.std.specs.Prelude.{ℕ, Bool, List, map, option_map}
use Rattle.sudoers_grammar.specs.declared.node.Args.{Args}
use Rattle.sudoers_grammar.specs.declared.node.Atom.{Atom}
use Rattle.sudoers_grammar.specs.Node.{Digest, Member, RunasSpec, CmdSpec, HostGroup, Def, Setting, Param, Scope, Node}
use Rattle.sudoers_grammar.specs.declared.node.OptionName.{OptionName}
use Rattle.sudoers_grammar.specs.declared.node.Tag.{Tag}
use Rattle.sudoers_grammar.specs.declared.node.Args.TheVariants as args
use Rattle.sudoers_grammar.specs.declared.node.Atom.TheVariants as atom
use Rattle.sudoers_grammar.specs.Node as node
use Rattle.sudoers_line_rows.specs.declared.view.BorrowedArgs.{BorrowedArgs as ArgsView}
use Rattle.sudoers_line_rows.specs.declared.view.BorrowedAtom.{BorrowedAtom as AtomView}
use Rattle.sudoers_line_rows.specs.declared.view.Digest.{Digest as DigestView}
use Rattle.sudoers_line_rows.specs.declared.view.Member.{Member as MemberView}
use Rattle.sudoers_line_rows.specs.declared.view.RunasSpec.{RunasSpec as RunasSpecView}
use Rattle.sudoers_line_rows.specs.declared.view.CmdSpec.{CmdSpec as CmdSpecView}
use Rattle.sudoers_line_rows.specs.declared.view.HostGroup.{HostGroup as HostGroupView}
use Rattle.sudoers_line_rows.specs.declared.view.Def.{Def as DefView}
use Rattle.sudoers_line_rows.specs.declared.view.Setting.{Setting as SettingView}
use Rattle.sudoers_line_rows.specs.declared.view.Param.{Param as ParamView}
use Rattle.sudoers_line_rows.specs.declared.view.Scope.{Scope as ScopeView}
use Rattle.sudoers_line_rows.specs.declared.view.Node.{Node as NodeView}
use Rattle.sudoers_line_rows.specs.declared.view.BorrowedArgs.TheVariants as args_view
use Rattle.sudoers_line_rows.specs.declared.view.BorrowedAtom.TheVariants as atom_view
use Rattle.sudoers_line_rows.specs.declared.view.Node.TheVariants as node_view
use Rattle.sudoers_line_rows.specs.declared.rows.DigestRow.{DigestRow}
use Rattle.sudoers_line_rows.specs.declared.rows.MemberRow.{MemberRow}
use Rattle.sudoers_line_rows.specs.declared.rows.OptionRow.{OptionRow}
use Rattle.sudoers_line_rows.specs.declared.rows.TagRow.{TagRow}
use Rattle.sudoers_line_rows.specs.declared.rows.CommandRow.{CommandRow}
use Rattle.sudoers_line_rows.specs.declared.rows.HostGroupRow.{HostGroupRow}
use Rattle.sudoers_line_rows.specs.declared.rows.AliasDefinitionRow.{AliasDefinitionRow}
use Rattle.sudoers_line_rows.specs.declared.rows.ParamRow.{ParamRow}
use Rattle.sudoers_line_rows.specs.declared.row_lists.RowsOfTable.{RowsOfTable}
use Rattle.sudoers_line_rows.specs.Tables.{digest_in_tables, member_in_tables, option_in_tables, tag_in_tables, command_in_tables, host_group_in_tables, alias_definition_in_tables, parameter_in_tables}

-- ---- lists

abbrev pub digests_of_view : RowsOfTable DigestRow → List Digest
digests_of_view l = map (digest_in_tables l.tables.now) l.rows.now

abbrev pub members_of_view : RowsOfTable MemberRow → List Member
members_of_view l = map (member_in_tables l.tables.now) l.rows.now

abbrev pub options_of_view : RowsOfTable OptionRow → List (OptionName × List ℕ)
options_of_view l = map (option_in_tables l.tables.now) l.rows.now

abbrev pub tags_of_view : RowsOfTable TagRow → List (Tag × Bool)
tags_of_view l = map (tag_in_tables l.tables.now) l.rows.now

abbrev pub commands_of_view : RowsOfTable CommandRow → List CmdSpec
commands_of_view l = map (command_in_tables l.tables.now) l.rows.now

abbrev pub host_groups_of_view : RowsOfTable HostGroupRow → List HostGroup
host_groups_of_view l = map (host_group_in_tables l.tables.now) l.rows.now

abbrev pub alias_definitions_of_view : RowsOfTable AliasDefinitionRow → List Def
alias_definitions_of_view l = map (alias_definition_in_tables l.tables.now) l.rows.now

abbrev pub parameters_of_view : RowsOfTable ParamRow → List Param
parameters_of_view l = map (parameter_in_tables l.tables.now) l.rows.now

-- ---- what one is

abbrev pub args_of_view : ArgsView → Args
args_of_view args_view.Any = args.Any
args_of_view args_view.Nothing = args.Nothing
args_of_view (args_view.Pattern x) = args.Pattern x.now

abbrev pub atom_of_view : AtomView → Atom
atom_of_view atom_view.All = atom.All
atom_of_view (atom_view.Alias x) = atom.Alias x.now
atom_of_view (atom_view.Name x) = atom.Name x.now
atom_of_view (atom_view.Id n) = atom.Id n
atom_of_view (atom_view.Group x) = atom.Group x.now
atom_of_view (atom_view.GroupId n) = atom.GroupId n
atom_of_view (atom_view.NonUnix x) = atom.NonUnix x.now
atom_of_view (atom_view.Netgroup x) = atom.Netgroup x.now
atom_of_view (atom_view.Host x) = atom.Host x.now
atom_of_view (atom_view.Address a) = atom.Address a
atom_of_view (atom_view.Network a m) = atom.Network a m
atom_of_view atom_view.Listing = atom.Listing
atom_of_view (atom_view.Path x v) = atom.Path x.now (args_of_view v)
atom_of_view (atom_view.Sudoedit v) = atom.Sudoedit (args_of_view v)

abbrev pub digest_of_view : DigestView → Digest
digest_of_view d = record { kind = d.kind; text = d.text.now }

abbrev pub member_of_view : MemberView → Member
member_of_view m = record { start = m.start; stop = m.stop; negated = m.negated; digests = digests_of_view m.digests; atom = atom_of_view m.atom }

abbrev pub runas_of_view : RunasSpecView → RunasSpec
runas_of_view r = record { users = members_of_view r.users; groups = members_of_view r.groups }

abbrev pub command_of_view : CmdSpecView → CmdSpec
command_of_view c = record { runas = option_map runas_of_view c.runas; options = options_of_view c.options; tags = tags_of_view c.tags; member = member_of_view c.member }

abbrev pub host_group_of_view : HostGroupView → HostGroup
host_group_of_view g = record { hosts = members_of_view g.hosts; commands = commands_of_view g.commands }

abbrev pub alias_definition_of_view : DefView → Def
alias_definition_of_view d = record { name = d.name.now; start = d.start; stop = d.stop; members = members_of_view d.members }

abbrev pub setting_of_view : SettingView → Setting
setting_of_view s = record { operator = s.operator; value = s.value.now }

abbrev pub parameter_of_view : ParamView → Param
parameter_of_view p = record { negated = p.negated; name = p.name.now; setting = option_map setting_of_view p.setting }

abbrev pub scope_of_view : ScopeView → Scope
scope_of_view s = record { kind = s.kind; members = members_of_view s.members }

-- what a line says
abbrev pub node_of_view : NodeView → Node
node_of_view node_view.Blank = node.Blank
node_of_view node_view.Comment = node.Comment
node_of_view (node_view.Include dir path) = node.Include dir path.now
node_of_view (node_view.Defaults scope params) = node.Defaults (option_map scope_of_view scope) (parameters_of_view params)
node_of_view (node_view.Alias kind defs) = node.Alias kind (alias_definitions_of_view defs)
node_of_view (node_view.Spec users groups) = node.Spec (members_of_view users) (host_groups_of_view groups)
