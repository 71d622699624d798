-- A device of the proof, which no public contract cites: lines that are written with their aliases replaced, or as they stand.
use Rattle.std.specs.Prelude.{◌≡◌, ◌⊎◌, ◌<◌, ℕ, Bool, true, false, List, [], ◌∷◌, map, Option}
use Rattle.std.specs.List.{flat_map}
use Rattle.std.specs.Option.{option_map}
use Rattle.sudoers_grammar.specs.declared.node.Kind.{Kind}
use Rattle.sudoers_grammar.specs.declared.node.Kind.TheVariants.{User, Runas, Host, Cmnd}
use Rattle.sudoers_grammar.specs.Node.{Member, RunasSpec, CmdSpec, HostGroup, Scope, Node}
use Rattle.sudoers_grammar.specs.Node as node
use Rattle.sudoers_line_rows.specs.declared.rows.Tables.{Tables}
use Rattle.sudoers_line_rows.specs.declared.rows.ScopeRow.{ScopeRow}
use Rattle.sudoers_line_rows.specs.declared.rows.CommandRow.{CommandRow}
use Rattle.sudoers_line_rows.specs.declared.rows.AtomRow.{AtomRow}
use Rattle.sudoers_line_rows.specs.declared.rows.AtomRow.TheVariants as atom_row
use Rattle.sudoers_line_rows.specs.declared.rows.MemberRow.{MemberRow}
use Rattle.sudoers_line_rows.specs.Tables.{command_in_tables, member_in_tables, optional_runas_in_tables, scope_in_tables}
use Rattle.sudoers_tree.specs.Line.{Line}
use Rattle.sudoers_match_list.specs.Flattened.{expanded_member_limit, fully_expanded_list}
use Rattle.sudoers_cvt_rules.specs.declared.fault.CvtFault.{CvtFault}
use Rattle.sudoers_cvt_rules.specs.declared.fault.CvtFault.TheVariants.{TooLarge, NoMemory}
use Rattle.sudoers_cvt_rewrite.specs.Expand.{command_with_runas_and_member}
use Rattle.sudoers_cvt_rewrite.specs.internal.Extended.{IsTableExtension}

-- ---- lines whose aliases are replaced if `expand`

abbrev pub is_alias_atom_row : AtomRow → Bool
is_alias_atom_row (atom_row.Alias name) = true
is_alias_atom_row other = false

-- The member names an alias.
abbrev pub is_alias_row : MemberRow → Bool
is_alias_row row = is_alias_atom_row row.atom

abbrev pub list_expanded_if : Bool → Kind → List Line → List Member → List Member
list_expanded_if true k lines ms = fully_expanded_list k lines ms
list_expanded_if false k lines ms = ms

abbrev pub runas_spec_expanded_if : Bool → List Line → RunasSpec → RunasSpec
runas_spec_expanded_if expand lines r = record { users = list_expanded_if expand Runas lines r.users; groups = list_expanded_if expand Runas lines r.groups }

abbrev pub commands_of_command_expanded_if : Bool → List Line → CmdSpec → List CmdSpec
commands_of_command_expanded_if expand lines c = map (command_with_runas_and_member (option_map (runas_spec_expanded_if expand lines) c.runas) c) (list_expanded_if expand Cmnd lines (c.member ∷ []))

abbrev pub host_group_expanded_if : Bool → List Line → HostGroup → HostGroup
host_group_expanded_if expand lines g = record { hosts = list_expanded_if expand Host lines g.hosts; commands = flat_map (commands_of_command_expanded_if expand lines) g.commands }

abbrev pub scope_list_expanded_if : Bool → List Line → Kind → List Member → List Member
scope_list_expanded_if expand lines User ms = list_expanded_if expand User lines ms
scope_list_expanded_if expand lines Runas ms = list_expanded_if expand Runas lines ms
scope_list_expanded_if expand lines Host ms = list_expanded_if expand Host lines ms
scope_list_expanded_if expand lines Cmnd ms = ms

abbrev pub scope_expanded_if : Bool → List Line → Scope → Scope
scope_expanded_if expand lines s = record { kind = s.kind; members = scope_list_expanded_if expand lines s.kind s.members }

abbrev pub line_node_expanded_if : Bool → List Line → Node → Node
line_node_expanded_if expand lines (node.Defaults scope params) = node.Defaults (option_map (scope_expanded_if expand lines) scope) params
line_node_expanded_if expand lines (node.Spec users groups) = node.Spec (list_expanded_if expand User lines users) (map (host_group_expanded_if expand lines) groups)
line_node_expanded_if expand lines (node.Alias k defs) = node.Alias k defs
line_node_expanded_if expand lines node.Blank = node.Blank
line_node_expanded_if expand lines node.Comment = node.Comment
line_node_expanded_if expand lines (node.Include dir path) = node.Include dir path

-- lines that say another thing each, and have no text
abbrev pub textless_lines_with_nodes_mapped : (Node → Node) → List Line → List Line
textless_lines_with_nodes_mapped written lines = map (λ (line : Line). record { text = []; node = written line.node }) lines

-- ---- what a writer answers

-- Memory ran out; or aliases are replaced, and there are too many members then.
abbrev pub IsTooManyMembersOrNoMemoryFault : Bool → ℕ → CvtFault → Type 0
IsTooManyMembersOrNoMemoryFault expand count fault = (fault ≡ NoMemory) ⊎ ((fault ≡ TooLarge) × (expand ≡ true) × (expanded_member_limit < count))

-- The rows say this for good.
abbrev pub RowsKeepMeaning : {R X : Type 0} → (Tables → R → X) → Tables → List R → List X → Type 0
RowsKeepMeaning view t rs xs = (u : Tables) → IsTableExtension t u → map (view u) rs ≡ xs

abbrev pub optional_scope_of_row : Tables → Option ScopeRow → Option Scope
optional_scope_of_row t o = option_map (scope_in_tables t) o

-- hosts, and what may be run there
abbrev pub host_group_of_lists : List Member → List CmdSpec → HostGroup
host_group_of_lists hosts commands = record { hosts = hosts; commands = commands }

-- the command that the row holds, once for each of the members
abbrev pub commands_for_each_member : Tables → CommandRow → List MemberRow → List CmdSpec
commands_for_each_member t row ms = map (command_with_runas_and_member (optional_runas_in_tables t row.runas) (command_in_tables t row)) (map (member_in_tables t) ms)
