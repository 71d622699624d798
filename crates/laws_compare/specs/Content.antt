-- What two policies are compared by: their rows and their settings of runas_default, with their aliases replaced.
use Rattle.std.specs.Prelude.{◌≡◌, ℕ, List, [], ◌∷◌, Option, Some, None}
use Rattle.sudoers_grammar.specs.declared.node.Kind.{Kind}
use Rattle.sudoers_grammar.specs.declared.node.Kind.TheVariants.{User, Runas, Host}
use Rattle.sudoers_grammar.specs.Node.{Member, RunasSpec, Scope}
use Rattle.sudoers_tree.specs.Line.{Line}
use Rattle.sudoers_match_list.specs.Flat.{SignedAtom, IsFlatListOf}
use Rattle.sudoers_match_list.specs.Alike.{IsPointwiseRelated}
use Rattle.sudoers_match.specs.declared.tags.CommandTags.{CommandTags}
use Rattle.sudoers_match.specs.Default.{runas_defaults_of_lines}
use Rattle.sudoers_match.specs.Heads.{final_tags_of}
use Rattle.sudoers_match.specs.Rows.{PrivilegeRow, AreRowsPerFlatAtomOfPolicy}
use Rattle.sudoers_match.specs.Values.{OptionValues, final_values_of_options}

-- ---- rows

-- The two lists of a Runas_Spec. A list is None where nothing stands on its side of the colon.
pub record FlatRunasSpec : Type 0 where
  pub users : Option (List SignedAtom)
  pub groups : Option (List SignedAtom)

abbrev pub flat_runas_spec_of_lists : Option (List SignedAtom) → Option (List SignedAtom) → FlatRunasSpec
flat_runas_spec_of_lists users groups = record { users = users; groups = groups }

-- What a row allows its users on its hosts, or forbids them.
pub record Grant : Type 0 where
  pub runas : Option FlatRunasSpec
  pub options : OptionValues
  pub tags : CommandTags
  pub atom : SignedAtom

-- A row with its aliases replaced. It has no numbers.
pub record FlatPrivilegeRow : Type 0 where
  pub users : List SignedAtom
  pub hosts : List SignedAtom
  pub grant : Grant

-- A list of a Runas_Spec has this flat list. One without members has none.
abbrev pub IsOptionalFlatListOf : List Line → List Member → Option (List SignedAtom) → Type 0
IsOptionalFlatListOf lines [] flat = flat ≡ None
IsOptionalFlatListOf lines (m ∷ ms) flat = (fs : List SignedAtom) × IsFlatListOf Runas lines (m ∷ ms) fs × (flat ≡ Some fs)

-- Both lists of the Runas_Spec have these flat lists; or there is no Runas_Spec.
abbrev pub IsFlatRunasSpecOf : List Line → Option RunasSpec → Option FlatRunasSpec → Type 0
IsFlatRunasSpecOf lines None flat = flat ≡ None
IsFlatRunasSpecOf lines (Some spec) flat =
    (users groups : Option (List SignedAtom)) × IsOptionalFlatListOf lines spec.users users × IsOptionalFlatListOf lines spec.groups groups
    × (flat ≡ Some (flat_runas_spec_of_lists users groups))

-- The grant says what the row says beside its users and hosts, with the aliases replaced.
pub record IsGrantOfRow (lines : List Line) (row : PrivilegeRow) (grant : Grant) : Type 0 where
  pub runas : IsFlatRunasSpecOf lines row.head.runas grant.runas
  pub options : grant.options ≡ final_values_of_options row.head.options
  pub tags : grant.tags ≡ final_tags_of row.head.tags
  pub atom : grant.atom ≡ row.atom

-- The flat row says what the row says, with the aliases replaced. The numbers of the row do not count.
pub record IsFlatRowOf (lines : List Line) (row : PrivilegeRow) (flat : FlatPrivilegeRow) : Type 0 where
  pub users : IsFlatListOf User lines row.users flat.users
  pub hosts : IsFlatListOf Host lines row.hosts flat.hosts
  pub grant : IsGrantOfRow lines row flat.grant

-- ---- settings of runas_default

-- A setting of runas_default: for whom it is, and the name.
pub record FlatRunasDefault : Type 0 where
  pub scope : Option (Kind × List SignedAtom)
  pub name : List ℕ

-- The list of the scope has this flat list; or there is no scope.
abbrev pub IsFlatScopeOf : List Line → Option Scope → Option (Kind × List SignedAtom) → Type 0
IsFlatScopeOf lines None flat = flat ≡ None
IsFlatScopeOf lines (Some scope) flat = (fs : List SignedAtom) × IsFlatListOf scope.kind lines scope.members fs × (flat ≡ Some (scope.kind, fs))

-- It is the setting, with the aliases of its scope replaced.
pub record IsFlatRunasDefaultOf (lines : List Line) (setting : Option Scope × List ℕ) (flat : FlatRunasDefault) : Type 0 where
  pub scope : IsFlatScopeOf lines setting.0 flat.scope
  pub name : flat.name ≡ setting.1

-- ---- both

pub record PolicyContent : Type 0 where
  pub rows : List FlatPrivilegeRow
  pub runas_defaults : List FlatRunasDefault

-- The content has the rows and the settings of runas_default of the policy, in file order.
pub record IsContentOfPolicy (lines : List Line) (content : PolicyContent) : Type 0 where
  pub rows : List PrivilegeRow
  pub are_rows : AreRowsPerFlatAtomOfPolicy lines rows
  pub are_flat : IsPointwiseRelated (IsFlatRowOf lines) rows content.rows
  pub runas_defaults : IsPointwiseRelated (IsFlatRunasDefaultOf lines) (runas_defaults_of_lines lines) content.runas_defaults
