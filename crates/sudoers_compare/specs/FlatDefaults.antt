-- The settings of runas_default that the code holds, their scopes flat.
use Rattle.std.specs.Prelude.{◌&&◌, Bool, true, false, List, map, Option, Some, None}
use Rattle.std.specs.Option.{option_map}
use Rattle.sudoers_grammar.specs.declared.node.Kind.{Kind}
use Rattle.sudoers_grammar.specs.Node.{Node, Param, Scope}
use Rattle.sudoers_line_rows.specs.declared.rows.Tables.{Tables}
use Rattle.sudoers_tree.specs.Definition.{is_equal_kind}
use Rattle.sudoers_tree.specs.Line.{Line}
use Rattle.sudoers_match_list.specs.Flat.{SignedAtom}
use Rattle.sudoers_match.specs.Default.{runas_defaults_in_node, runas_defaults_in_params, setting_with_scope}
use Rattle.laws_compare.specs.Computed.{flat_runas_default_of}
use Rattle.laws_compare.specs.Content.{FlatRunasDefault}
use Rattle.laws_compare.specs.Decided.{is_same_flat_list}
use Rattle.sudoers_compare.specs.declared.flat_defaults.FlatRunasDefault.{FlatRunasDefault as FlatRunasDefaultView}
use Rattle.sudoers_compare.specs.declared.flat_defaults.FlatScope.{FlatScope}
use Rattle.sudoers_compare.specs.FlatSpecs.{signed_atoms_in_tables}

-- ---- what they say

abbrev pub flat_scope_in_tables : Tables → FlatScope → Kind × List SignedAtom
flat_scope_in_tables t scope = (scope.kind, signed_atoms_in_tables t scope.members.items)

abbrev pub flat_runas_default_in_tables : Tables → FlatRunasDefaultView → FlatRunasDefault
flat_runas_default_in_tables t setting = record { scope = option_map (flat_scope_in_tables t) setting.scope; name = setting.name.now }

-- ---- the settings of a policy, part by part

-- the settings of a list of parameters behind this scope
abbrev pub flat_runas_defaults_in_params : List Line → Option Scope → List Param → List FlatRunasDefault
flat_runas_defaults_in_params lines scope params = map (flat_runas_default_of lines) (map (setting_with_scope scope) (runas_defaults_in_params params))

-- the settings of a line that says this
abbrev pub flat_runas_defaults_in_node : List Line → Node → List FlatRunasDefault
flat_runas_defaults_in_node lines says = map (flat_runas_default_of lines) (runas_defaults_in_node says)

-- ---- which scopes are the same

abbrev pub is_same_flat_scope : Option (Kind × List SignedAtom) → Option (Kind × List SignedAtom) → Bool
is_same_flat_scope None None = true
is_same_flat_scope (Some a) (Some b) = is_equal_kind a.0 b.0 && is_same_flat_list a.1 b.1
is_same_flat_scope None (Some b) = false
is_same_flat_scope (Some a) None = false
