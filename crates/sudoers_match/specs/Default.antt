-- As whom a command runs where nothing else is said (sudoers(5), runas_default).
use Rattle.std.specs.Prelude.{◌≡◌, ℕ, Bool, true, false, List, [], codes, map, Option, Some, None, if◌then◌else◌}
use Rattle.std.specs.List.{filter_map, flat_map}
use Rattle.std.specs.Str.{bytes_eq}
use Rattle.sudoers_grammar.specs.declared.node.Kind.{Kind}
use Rattle.sudoers_grammar.specs.declared.node.Kind.TheVariants.{User, Runas, Host, Cmnd}
use Rattle.sudoers_grammar.specs.Node.{Member, Param, Setting, Scope, Node}
use Rattle.sudoers_grammar.specs.declared.node.Operator.{Operator}
use Rattle.sudoers_grammar.specs.declared.node.Operator.TheVariants as operator
use Rattle.sudoers_grammar.specs.Node as node
use Rattle.sudoers_tree.specs.Line.{Line}
use Rattle.sudoers_match_member.specs.Hits.{is_user_atom_match, is_host_atom_match}
use Rattle.sudoers_match_member.specs.declared.people_and_commands.Who.{Who}
use Rattle.sudoers_match.specs.Allows.{ListAllows}
use Rattle.sudoers_match.specs.Last.{IsLastItemWith}

abbrev pub value_assigned_by_operator : Operator → List ℕ → Option (List ℕ)
value_assigned_by_operator operator.Set value = Some value
value_assigned_by_operator operator.Add value = None
value_assigned_by_operator operator.Remove value = None

-- what a parameter sets it to: `=` sets it to the value, an odd number of `!` to root; every other form sets nothing
abbrev pub runas_default_by_negation_or_setting : Bool → Option Setting → Option (List ℕ)
runas_default_by_negation_or_setting true setting = Some (codes "root")
runas_default_by_negation_or_setting false None = None
runas_default_by_negation_or_setting false (Some s) = value_assigned_by_operator s.operator s.value

abbrev pub runas_default_in_param : Param → Option (List ℕ)
runas_default_in_param p = if bytes_eq p.name (codes "runas_default") then runas_default_by_negation_or_setting p.negated p.setting else None

-- the settings of a list of parameters
abbrev pub runas_defaults_in_params : List Param → List (List ℕ)
runas_defaults_in_params params = filter_map runas_default_in_param params

abbrev pub setting_with_scope : Option Scope → List ℕ → Option Scope × List ℕ
setting_with_scope scope name = (scope, name)

-- the settings of runas_default with their scopes, in file order
abbrev pub runas_defaults_in_node : Node → List (Option Scope × List ℕ)
runas_defaults_in_node (node.Defaults scope params) = map (setting_with_scope scope) (runas_defaults_in_params params)
runas_defaults_in_node (node.Spec users groups) = []
runas_defaults_in_node (node.Alias k defs) = []
runas_defaults_in_node node.Blank = []
runas_defaults_in_node node.Comment = []
runas_defaults_in_node (node.Include dir path) = []

abbrev pub runas_defaults_of_lines : List Line → List (Option Scope × List ℕ)
runas_defaults_of_lines lines = flat_map (λ (line : Line). runas_defaults_in_node line.node) lines

abbrev pub IsScopeListForUserOrHost : List Line → Who → Kind → List Member → Type 0
IsScopeListForUserOrHost lines who User ms = ListAllows User lines (is_user_atom_match who.user) ms
IsScopeListForUserOrHost lines who Host ms = ListAllows Host lines (is_host_atom_match who) ms
IsScopeListForUserOrHost lines who Runas ms = ⊥
IsScopeListForUserOrHost lines who Cmnd ms = ⊥

-- The setting is for this user on this host: one without scope is for all; those for runas users and for commands never count.
abbrev pub IsScopeForUserOnHost : List Line → Who → Option Scope → Type 0
IsScopeForUserOnHost lines who None = Unit {0}
IsScopeForUserOnHost lines who (Some scope) = IsScopeListForUserOrHost lines who scope.kind scope.members

abbrev pub runas_name_or_root : Option (Option Scope × List ℕ) → List ℕ
runas_name_or_root None = codes "root"
runas_name_or_root (Some setting) = setting.1

-- The name of the user as whom a command runs where nothing else is said: the last setting counts.
pub record IsRunasDefault (lines : List Line) (who : Who) (name : List ℕ) : Type 0 where
  pub last : Option (Option Scope × List ℕ)
  pub is_last : IsLastItemWith (λ setting. IsScopeForUserOnHost lines who setting.0) (runas_defaults_of_lines lines) last
  pub says : name ≡ runas_name_or_root last
