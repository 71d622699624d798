-- What the rows of tables say, and tables that only grow.
use Rattle.std.specs.Prelude.{◌≡◌, ℕ, Bool, List, ◌++◌, map, slice_range, Option, option_map}
use Rattle.sudoers_grammar.specs.declared.node.OptionName.{OptionName}
use Rattle.sudoers_grammar.specs.declared.node.Tag.{Tag}
use Rattle.sudoers_grammar.specs.declared.node.Args.{Args}
use Rattle.sudoers_grammar.specs.declared.node.Args.TheVariants as args
use Rattle.sudoers_grammar.specs.declared.node.Atom.{Atom}
use Rattle.sudoers_grammar.specs.declared.node.Atom.TheVariants as atom
use Rattle.sudoers_grammar.specs.Node.{Digest, Member, RunasSpec, CmdSpec, HostGroup, Def, Setting, Param, Scope, Node}
use Rattle.sudoers_grammar.specs.Node as node
use Rattle.sudoers_line_rows.specs.declared.rows.ByteRange.{ByteRange}
use Rattle.sudoers_line_rows.specs.declared.rows.RowRange.{RowRange}
use Rattle.sudoers_line_rows.specs.declared.rows.ArgsRow.{ArgsRow}
use Rattle.sudoers_line_rows.specs.declared.rows.ArgsRow.TheVariants as args_row
use Rattle.sudoers_line_rows.specs.declared.rows.AtomRow.{AtomRow}
use Rattle.sudoers_line_rows.specs.declared.rows.AtomRow.TheVariants as atom_row
use Rattle.sudoers_line_rows.specs.declared.rows.DigestRow.{DigestRow}
use Rattle.sudoers_line_rows.specs.declared.rows.MemberRow.{MemberRow}
use Rattle.sudoers_grammar.specs.Grammar.{stop_of_last_member}
use Rattle.sudoers_line_rows.specs.declared.rows.RunasRow.{RunasRow}
use Rattle.sudoers_line_rows.specs.declared.rows.OptionRow.{OptionRow}
use Rattle.sudoers_line_rows.specs.declared.rows.TagRow.{TagRow}
use Rattle.sudoers_line_rows.specs.declared.rows.CommandRow.{CommandRow}
use Rattle.sudoers_line_rows.specs.declared.rows.HostGroupRow.{HostGroupRow}
use Rattle.sudoers_line_rows.specs.declared.rows.AliasDefinitionRow.{AliasDefinitionRow}
use Rattle.sudoers_line_rows.specs.declared.rows.SettingRow.{SettingRow}
use Rattle.sudoers_line_rows.specs.declared.rows.ParamRow.{ParamRow}
use Rattle.sudoers_line_rows.specs.declared.rows.ScopeRow.{ScopeRow}
use Rattle.sudoers_line_rows.specs.declared.rows.NodeRow.{NodeRow}
use Rattle.sudoers_line_rows.specs.declared.rows.NodeRow.TheVariants as node_row
use Rattle.sudoers_line_rows.specs.declared.rows.Tables.{Tables}

-- ---- what rows say

abbrev pub text_in_tables : Tables → ByteRange → List ℕ
text_in_tables t x = slice_range t.bytes.items x.from x.to

-- a list: the rows of a range, by what each says
abbrev pub values_of_row_range : {R X : Type 0} → List R → (R → X) → RowRange → List X
values_of_row_range rows view r = map view (slice_range rows r.from r.to)

abbrev pub args_in_tables : Tables → ArgsRow → Args
args_in_tables t args_row.Any = args.Any
args_in_tables t args_row.Nothing = args.Nothing
args_in_tables t (args_row.Pattern x) = args.Pattern (text_in_tables t x)

abbrev pub atom_in_tables : Tables → AtomRow → Atom
atom_in_tables t atom_row.All = atom.All
atom_in_tables t (atom_row.Alias x) = atom.Alias (text_in_tables t x)
atom_in_tables t (atom_row.Name x) = atom.Name (text_in_tables t x)
atom_in_tables t (atom_row.Id n) = atom.Id n
atom_in_tables t (atom_row.Group x) = atom.Group (text_in_tables t x)
atom_in_tables t (atom_row.GroupId n) = atom.GroupId n
atom_in_tables t (atom_row.NonUnix x) = atom.NonUnix (text_in_tables t x)
atom_in_tables t (atom_row.Netgroup x) = atom.Netgroup (text_in_tables t x)
atom_in_tables t (atom_row.Host x) = atom.Host (text_in_tables t x)
atom_in_tables t (atom_row.Address a) = atom.Address a
atom_in_tables t (atom_row.Network a m) = atom.Network a m
atom_in_tables t atom_row.Listing = atom.Listing
atom_in_tables t (atom_row.Path x r) = atom.Path (text_in_tables t x) (args_in_tables t r)
atom_in_tables t (atom_row.Sudoedit r) = atom.Sudoedit (args_in_tables t r)

abbrev pub digest_in_tables : Tables → DigestRow → Digest
digest_in_tables t d = record { kind = d.kind; text = text_in_tables t d.text }

abbrev pub digests_of_range_in_tables : Tables → RowRange → List Digest
digests_of_range_in_tables t = values_of_row_range t.digests.items (digest_in_tables t)

abbrev pub member_in_tables : Tables → MemberRow → Member
member_in_tables t m = record { start = m.start; stop = m.stop; negated = m.negated; digests = digests_of_range_in_tables t m.digests; atom = atom_in_tables t m.atom }

abbrev pub members_of_range_in_tables : Tables → RowRange → List Member
members_of_range_in_tables t = values_of_row_range t.members.items (member_in_tables t)

abbrev pub runas_in_tables : Tables → RunasRow → RunasSpec
runas_in_tables t r = record { users = members_of_range_in_tables t r.users; groups = members_of_range_in_tables t r.groups }

abbrev pub optional_runas_in_tables : Tables → Option RunasRow → Option RunasSpec
optional_runas_in_tables t o = option_map (runas_in_tables t) o

abbrev pub option_in_tables : Tables → OptionRow → OptionName × List ℕ
option_in_tables t o = (o.name, text_in_tables t o.value)

abbrev pub options_of_range_in_tables : Tables → RowRange → List (OptionName × List ℕ)
options_of_range_in_tables t = values_of_row_range t.options.items (option_in_tables t)

abbrev pub tag_in_tables : Tables → TagRow → Tag × Bool
tag_in_tables t g = (g.tag, g.on)

abbrev pub tags_of_range_in_tables : Tables → RowRange → List (Tag × Bool)
tags_of_range_in_tables t = values_of_row_range t.tags.items (tag_in_tables t)

abbrev pub command_in_tables : Tables → CommandRow → CmdSpec
command_in_tables t c = record { runas = option_map (runas_in_tables t) c.runas; options = options_of_range_in_tables t c.options; tags = tags_of_range_in_tables t c.tags; member = member_in_tables t c.member }

abbrev pub commands_of_range_in_tables : Tables → RowRange → List CmdSpec
commands_of_range_in_tables t = values_of_row_range t.commands.items (command_in_tables t)

abbrev pub host_group_in_tables : Tables → HostGroupRow → HostGroup
host_group_in_tables t g = record { hosts = members_of_range_in_tables t g.hosts; commands = commands_of_range_in_tables t g.commands }

abbrev pub host_groups_of_range_in_tables : Tables → RowRange → List HostGroup
host_groups_of_range_in_tables t = values_of_row_range t.groups.items (host_group_in_tables t)

abbrev pub alias_definition_in_tables : Tables → AliasDefinitionRow → Def
alias_definition_in_tables t d = record { name = text_in_tables t d.name; start = d.start; stop = stop_of_last_member (members_of_range_in_tables t d.members); members = members_of_range_in_tables t d.members }

abbrev pub alias_definitions_of_range_in_tables : Tables → RowRange → List Def
alias_definitions_of_range_in_tables t = values_of_row_range t.defs.items (alias_definition_in_tables t)

abbrev pub setting_in_tables : Tables → SettingRow → Setting
setting_in_tables t s = record { operator = s.operator; value = text_in_tables t s.value }

abbrev pub parameter_in_tables : Tables → ParamRow → Param
parameter_in_tables t p = record { negated = p.negated; name = text_in_tables t p.name; setting = option_map (setting_in_tables t) p.setting }

abbrev pub parameters_of_range_in_tables : Tables → RowRange → List Param
parameters_of_range_in_tables t = values_of_row_range t.params.items (parameter_in_tables t)

abbrev pub scope_in_tables : Tables → ScopeRow → Scope
scope_in_tables t s = record { kind = s.kind; members = members_of_range_in_tables t s.members }

abbrev pub node_in_tables : Tables → NodeRow → Node
node_in_tables t node_row.Blank = node.Blank
node_in_tables t node_row.Comment = node.Comment
node_in_tables t (node_row.Include dir path) = node.Include dir (text_in_tables t path)
node_in_tables t (node_row.Defaults scope params) = node.Defaults (option_map (scope_in_tables t) scope) (parameters_of_range_in_tables t params)
node_in_tables t (node_row.Alias kind defs) = node.Alias kind (alias_definitions_of_range_in_tables t defs)
node_in_tables t (node_row.Spec users groups) = node.Spec (members_of_range_in_tables t users) (host_groups_of_range_in_tables t groups)

-- ---- tables that only grow

-- The second is the first, and more behind it.
abbrev pub IsExtendedList : {X : Type 0} → List X → List X → Type 0
IsExtendedList {X} xs ys = (more : List X) × (ys ≡ xs ++ more)

pub record TablesHaveGrown (t u : Tables) : Type 0 where
  pub bytes : IsExtendedList t.bytes.items u.bytes.items
  pub digests : IsExtendedList t.digests.items u.digests.items
  pub members : IsExtendedList t.members.items u.members.items
  pub options : IsExtendedList t.options.items u.options.items
  pub tags : IsExtendedList t.tags.items u.tags.items
  pub commands : IsExtendedList t.commands.items u.commands.items
  pub groups : IsExtendedList t.groups.items u.groups.items
  pub defs : IsExtendedList t.defs.items u.defs.items
  pub params : IsExtendedList t.params.items u.params.items

-- The row goes on saying what it says, however the tables grow.
abbrev pub RowMeaningLasts : {R X : Type 0} → (Tables → R → X) → Tables → R → Type 0
RowMeaningLasts view t r = (u : Tables) → TablesHaveGrown t u → view u r ≡ view t r

-- The row says this for good.
abbrev pub RowMeansForGood : {R X : Type 0} → (Tables → R → X) → Tables → R → X → Type 0
RowMeansForGood view t r x = (u : Tables) → TablesHaveGrown t u → view u r ≡ x

-- The row, if any, says this for good.
abbrev pub OptionalRowMeansForGood : {R X : Type 0} → (Tables → R → X) → Tables → Option R → Option X → Type 0
OptionalRowMeansForGood view t o p = (u : Tables) → TablesHaveGrown t u → option_map (view u) o ≡ p

abbrev pub IsRowRangeFromTo : RowRange → ℕ → ℕ → Type 0
IsRowRangeFromTo r from to = (r.from ≡ from) × (r.to ≡ to)
