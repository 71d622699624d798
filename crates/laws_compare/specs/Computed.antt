-- The content of a policy, computed. That this is the content where no reachable alias is cyclic is a law (`content_is`).
use Rattle.std.specs.Prelude.{ℕ, List, [], ◌∷◌, map, Option, Some, None}
use Rattle.std.specs.List.{flat_map}
use Rattle.std.specs.Option.{option_map}
use Rattle.sudoers_grammar.specs.declared.node.Kind.{Kind}
use Rattle.sudoers_grammar.specs.declared.node.Kind.TheVariants.{User, Runas, Host, Cmnd}
use Rattle.sudoers_grammar.specs.Node.{Member, RunasSpec, HostGroup, Scope}
use Rattle.sudoers_tree.specs.Line.{Line}
use Rattle.sudoers_match_list.specs.Flat.{SignedAtom, signed_atom_of_member}
use Rattle.sudoers_match_list.specs.Flattened.{fully_expanded_list}
use Rattle.sudoers_match.specs.Default.{runas_defaults_of_lines}
use Rattle.sudoers_match.specs.Heads.{AccumulatedCommandSettings, empty_command_settings, commands_with_settings, final_tags_of}
use Rattle.sudoers_match.specs.Specs.{UserSpec, user_specs_of_lines}
use Rattle.sudoers_match.specs.Values.{final_values_of_options}
use Rattle.laws_compare.specs.Content.{FlatRunasSpec, flat_runas_spec_of_lists, FlatPrivilegeRow, FlatRunasDefault, PolicyContent}

-- the flat list of members, computed
abbrev pub flat_list_of_members : Kind → List Line → List Member → List SignedAtom
flat_list_of_members k lines ms = map signed_atom_of_member (fully_expanded_list k lines ms)

-- that of a list of a Runas_Spec, which is absent if it has no members
abbrev pub optional_flat_list_of_members : List Line → List Member → Option (List SignedAtom)
optional_flat_list_of_members lines [] = None
optional_flat_list_of_members lines (m ∷ ms) = Some (flat_list_of_members Runas lines (m ∷ ms))

abbrev pub flat_runas_spec_of : List Line → RunasSpec → FlatRunasSpec
flat_runas_spec_of lines spec =
    flat_runas_spec_of_lists (optional_flat_list_of_members lines spec.users) (optional_flat_list_of_members lines spec.groups)

-- the row of one atom of the flat list of a command
abbrev pub flat_row_of_command_atom : List Line → List Member → List Member → AccumulatedCommandSettings → SignedAtom → FlatPrivilegeRow
flat_row_of_command_atom lines users hosts settings s = record {
  users = flat_list_of_members User lines users;
  hosts = flat_list_of_members Host lines hosts;
  grant = record {
    runas = option_map (flat_runas_spec_of lines) settings.runas;
    options = final_values_of_options settings.options;
    tags = final_tags_of settings.tags;
    atom = s;
  };
}

abbrev pub flat_rows_of_command : List Line → List Member → List Member → AccumulatedCommandSettings × Member → List FlatPrivilegeRow
flat_rows_of_command lines users hosts command = map (flat_row_of_command_atom lines users hosts command.0) (flat_list_of_members Cmnd lines (command.1 ∷ []))

abbrev pub flat_rows_of_host_group : List Line → List Member → HostGroup → List FlatPrivilegeRow
flat_rows_of_host_group lines users group = flat_map (flat_rows_of_command lines users group.hosts) (commands_with_settings empty_command_settings group.commands)

abbrev pub flat_rows_of_user_spec : List Line → UserSpec → List FlatPrivilegeRow
flat_rows_of_user_spec lines spec = flat_map (flat_rows_of_host_group lines spec.users) spec.groups

abbrev pub flat_scope_of : List Line → Scope → Kind × List SignedAtom
flat_scope_of lines scope = (scope.kind, flat_list_of_members scope.kind lines scope.members)

abbrev pub flat_runas_default_of : List Line → Option Scope × List ℕ → FlatRunasDefault
flat_runas_default_of lines setting = record { scope = option_map (flat_scope_of lines) setting.0; name = setting.1 }

abbrev pub content_of_lines : List Line → PolicyContent
content_of_lines lines = record {
  rows = flat_map (flat_rows_of_user_spec lines) (user_specs_of_lines lines);
  runas_defaults = map (flat_runas_default_of lines) (runas_defaults_of_lines lines);
}
