-- The rows that flat user specifications hold.
use Rattle.std.specs.Prelude.{ℕ, ◌+◌, List, [], ◌∷◌, ◌++◌, map, Option, Vec}
use Rattle.std.specs.declared.alloc.Global.{Global}
use Rattle.std.specs.List.{flat_map}
use Rattle.std.specs.Option.{option_map}
use Rattle.sudoers_line_rows.specs.declared.rows.MemberRow.{MemberRow}
use Rattle.sudoers_line_rows.specs.declared.rows.Tables.{Tables}
use Rattle.sudoers_line_rows.specs.Tables.{member_in_tables}
use Rattle.sudoers_match_list.specs.Flat.{SignedAtom, signed_atom_of_member}
use Rattle.sudoers_match.specs.Values.{option_values_of_view}
use Rattle.sudoers_grammar.specs.Node.{Member, HostGroup, Node}
use Rattle.sudoers_grammar.specs.Node as node
use Rattle.sudoers_tree.specs.Line.{Line}
use Rattle.sudoers_match.specs.Heads.{AccumulatedCommandSettings, commands_with_settings, empty_command_settings}
use Rattle.laws_compare.specs.Computed.{flat_rows_of_command}
use Rattle.laws_compare.specs.Content.{FlatRunasSpec, FlatPrivilegeRow}
use Rattle.sudoers_compare.specs.declared.flat_rows.PlacedFlatRow.{PlacedFlatRow}
use Rattle.sudoers_compare.specs.FlatRow.{flat_row_of_view}
use Rattle.sudoers_compare.specs.declared.flat_specs.FlatRunas.{FlatRunas}
use Rattle.sudoers_compare.specs.declared.flat_specs.FlatCommand.{FlatCommand}
use Rattle.sudoers_compare.specs.declared.flat_specs.FlatHostGroup.{FlatHostGroup}
use Rattle.sudoers_compare.specs.declared.flat_specs.FlatSpec.{FlatSpec}

abbrev pub signed_atoms_in_tables : Tables → List MemberRow → List SignedAtom
signed_atoms_in_tables t rows = map signed_atom_of_member (map (member_in_tables t) rows)

abbrev pub optional_signed_atoms_in_tables : Tables → Option (Vec MemberRow Global) → Option (List SignedAtom)
optional_signed_atoms_in_tables t rows = option_map (λ (vec : Vec MemberRow Global). signed_atoms_in_tables t vec.items) rows

abbrev pub flat_runas_spec_in_tables : Tables → FlatRunas → FlatRunasSpec
flat_runas_spec_in_tables t runas = record { users = optional_signed_atoms_in_tables t runas.users; groups = optional_signed_atoms_in_tables t runas.groups }

-- the row of one atom of a command
abbrev pub row_of_flat_command : Tables → List SignedAtom → List SignedAtom → FlatCommand → SignedAtom → FlatPrivilegeRow
row_of_flat_command t users hosts command s = record {
  users = users;
  hosts = hosts;
  grant = record {
    runas = option_map (flat_runas_spec_in_tables t) command.runas;
    options = option_values_of_view command.options;
    tags = command.tags;
    atom = s;
  };
}

abbrev pub rows_of_flat_command : Tables → List SignedAtom → List SignedAtom → FlatCommand → List FlatPrivilegeRow
rows_of_flat_command t users hosts command = map (row_of_flat_command t users hosts command) (signed_atoms_in_tables t command.members.items)

-- A row, with the number of the line of its command on the walk, from 0, and the byte at which the command begins there.
pub record PlacedRow : Type 0 where
  pub line : ℕ
  pub start : ℕ
  pub row : FlatPrivilegeRow

abbrev pub row_at_place : ℕ → ℕ → FlatPrivilegeRow → PlacedRow
row_at_place line start row = record { line = line; start = start; row = row }

abbrev pub placed_rows_of_flat_command : Tables → ℕ → List SignedAtom → List SignedAtom → FlatCommand → List PlacedRow
placed_rows_of_flat_command t line users hosts command = map (row_at_place line command.start) (rows_of_flat_command t users hosts command)

abbrev pub placed_rows_of_flat_host_group : Tables → ℕ → List SignedAtom → FlatHostGroup → List PlacedRow
placed_rows_of_flat_host_group t line users group = flat_map (placed_rows_of_flat_command t line users (signed_atoms_in_tables t group.hosts.items)) group.commands.items

abbrev pub placed_rows_of_flat_spec : Tables → FlatSpec → List PlacedRow
placed_rows_of_flat_spec t spec = flat_map (placed_rows_of_flat_host_group t spec.line (signed_atoms_in_tables t spec.users.items)) spec.groups.items

-- in file order
abbrev pub placed_rows_of_flat_specs : Tables → List FlatSpec → List PlacedRow
placed_rows_of_flat_specs t specs = flat_map (placed_rows_of_flat_spec t) specs

-- ---- the rows of a policy, each at its place

abbrev pub placed_rows_of_command : List Line → ℕ → List Member → List Member → AccumulatedCommandSettings × Member → List PlacedRow
placed_rows_of_command lines number users hosts command = map (row_at_place number command.1.start) (flat_rows_of_command lines users hosts command)

abbrev pub placed_rows_of_host_group : List Line → ℕ → List Member → HostGroup → List PlacedRow
placed_rows_of_host_group lines number users group = flat_map (placed_rows_of_command lines number users group.hosts) (commands_with_settings empty_command_settings group.commands)

-- the rows of the line with this number that says this
abbrev pub placed_rows_of_node : List Line → ℕ → Node → List PlacedRow
placed_rows_of_node lines number (node.Spec users groups) = flat_map (placed_rows_of_host_group lines number users) groups
placed_rows_of_node lines number node.Blank = []
placed_rows_of_node lines number node.Comment = []
placed_rows_of_node lines number (node.Include dir path) = []
placed_rows_of_node lines number (node.Defaults scope params) = []
placed_rows_of_node lines number (node.Alias k defs) = []

-- the rows of lines of the policy that `all` are; they are numbered from this number on
abbrev pub placed_rows_from_line : List Line → ℕ → List Line → List PlacedRow
placed_rows_from_line all number [] = []
placed_rows_from_line all number (line ∷ lines) = placed_rows_of_node all number line.node ++ placed_rows_from_line all (number + 1) lines

-- The rows of a policy, in file order.
abbrev pub placed_rows_of_policy : List Line → List PlacedRow
placed_rows_of_policy lines = placed_rows_from_line lines 0 lines

-- a row that the code holds
abbrev pub placed_row_of_view : PlacedFlatRow → PlacedRow
placed_row_of_view placed = row_at_place placed.line placed.start (flat_row_of_view placed.row)

-- the same, without its place
abbrev pub row_of_placed_view : PlacedFlatRow → FlatPrivilegeRow
row_of_placed_view placed = flat_row_of_view placed.row
