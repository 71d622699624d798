-- Rows that never decide, since a later row covers them (sudoers(5): the last match is used).
use Rattle.std.specs.Prelude.{◌≡◌, ◌⊎◌, ℕ, true, List, [], ◌∷◌, ◌++◌, Option, Some, None}
use Rattle.std.specs.List.{AllByRecursion}
use Rattle.sudoers_grammar.specs.declared.node.Args.{Args}
use Rattle.sudoers_grammar.specs.declared.node.Args.TheVariants as args
use Rattle.sudoers_grammar.specs.declared.node.Atom.{Atom}
use Rattle.sudoers_grammar.specs.declared.node.Atom.TheVariants as atom
use Rattle.sudoers_tree.specs.Line.{Line}
use Rattle.sudoers_check.specs.Chain.{ListHasElement}
use Rattle.sudoers_match_list.specs.Flat.{SignedAtom}
use Rattle.sudoers_match_list.specs.Alike.{IsPointwiseRelated}
use Rattle.sudoers_match.specs.Default.{runas_defaults_of_lines}
use Rattle.sudoers_match.specs.Rows.{PrivilegeRow, AreRowsPerFlatAtomOfPolicy}
use Rattle.laws_compare.specs.Content.{FlatRunasSpec, flat_runas_spec_of_lists, Grant, FlatPrivilegeRow, IsFlatRowOf, IsFlatRunasDefaultOf, PolicyContent}

-- ---- lists

-- No member of the list is negated.
abbrev pub HasNoNegation : List SignedAtom → Type 0
HasNoNegation fs = AllByRecursion (λ (s : SignedAtom). s.allow ≡ true) fs

-- `ALL`, without `!` and without digests
abbrev pub all_without_negation_and_digests : SignedAtom
all_without_negation_and_digests = record { allow = true; digests = []; atom = atom.All }

-- `ALL` stands in the list, and no negated member behind it. So the list allows everything.
abbrev pub HasAllInForce : List SignedAtom → Type 0
HasAllInForce fs = (before after : List SignedAtom) × (fs ≡ before ++ all_without_negation_and_digests ∷ after) × HasNoNegation after

-- The first list allows all that the second allows. They are the same, or `ALL` is in force in the first. Or the first negates nothing
-- and has each member that is not negated in the second.
pub data IsListWider (wide narrow : List SignedAtom) : Type 0 where
  same_list : wide ≡ narrow → IsListWider wide narrow
  list_with_all_in_force : HasAllInForce wide → IsListWider wide narrow
  list_with_more_members : HasNoNegation wide → ((s : SignedAtom) → ListHasElement narrow s → s.allow ≡ true → ListHasElement wide s) → IsListWider wide narrow

-- ---- as whom

-- No group is written, or no group of the list is negated. So a group of the target's own is as good.
abbrev pub HasNoNegatedGroup : Option (List SignedAtom) → Type 0
HasNoNegatedGroup None = Unit {0}
HasNoNegatedGroup (Some groups) = HasNoNegation groups

-- Each target of the second Runas_Spec is one of the first. They are the same, or the first is `(ALL:ALL)`, or each list of the first is
-- wider. Or the first adds groups, none of them negated, to wider users; or to `ALL`, where there is no second Runas_Spec.
pub data IsRunasSpecWider : Option FlatRunasSpec → Option FlatRunasSpec → Type 0 where
  same_runas_spec : (spec : Option FlatRunasSpec) → IsRunasSpecWider spec spec
  all_users_and_all_groups : (users groups : List SignedAtom) (spec : Option FlatRunasSpec) → HasAllInForce users → HasAllInForce groups
      → IsRunasSpecWider (Some (flat_runas_spec_of_lists (Some users) (Some groups))) spec
  all_users_over_absent_spec : (users : List SignedAtom) (groups : Option (List SignedAtom)) → HasAllInForce users → HasNoNegatedGroup groups
      → IsRunasSpecWider (Some (flat_runas_spec_of_lists (Some users) groups)) None
  more_users : (wide narrow : List SignedAtom) (groups : Option (List SignedAtom)) → IsListWider wide narrow → HasNoNegatedGroup groups
      → IsRunasSpecWider (Some (flat_runas_spec_of_lists (Some wide) groups)) (Some (flat_runas_spec_of_lists (Some narrow) None))
  more_groups : (wide narrow : List SignedAtom) → IsListWider wide narrow
      → IsRunasSpecWider (Some (flat_runas_spec_of_lists None (Some wide))) (Some (flat_runas_spec_of_lists None (Some narrow)))
  more_users_and_groups : (wide narrow groups others : List SignedAtom) → IsListWider wide narrow → IsListWider groups others
      → IsRunasSpecWider (Some (flat_runas_spec_of_lists (Some wide) (Some groups))) (Some (flat_runas_spec_of_lists (Some narrow) (Some others)))

-- ---- when, and what

-- The first is `ALL`, the same atom, or the same path or `sudoedit` with any arguments.
pub data IsCommandAtomWider : Atom → Atom → Type 0 where
  all_over_any_command : (narrow : Atom) → IsCommandAtomWider atom.All narrow
  same_command : (command : Atom) → IsCommandAtomWider command command
  any_arguments_over_arguments : (path : List ℕ) (narrow : Args) → IsCommandAtomWider (atom.Path path args.Any) (atom.Path path narrow)
  any_files_over_files : (narrow : Args) → IsCommandAtomWider (atom.Sudoedit args.Any) (atom.Sudoedit narrow)

-- There is no first bound, or it is the second.
abbrev pub IsTimeBoundWider : Option (List ℕ) → Option (List ℕ) → Type 0
IsTimeBoundWider wide narrow = (wide ≡ None) ⊎ (wide ≡ narrow)

-- Each command that matches the second matches the first, for the same targets and moments.
pub record GrantCoversGrant (wide narrow : Grant) : Type 0 where
  pub runas : IsRunasSpecWider wide.runas narrow.runas
  pub from : IsTimeBoundWider wide.options.notbefore narrow.options.notbefore
  pub up_to : IsTimeBoundWider wide.options.notafter narrow.options.notafter
  pub digests : wide.atom.digests ≡ []
  pub atom : IsCommandAtomWider wide.atom.atom narrow.atom.atom

-- So it is for the users and hosts of the second row, too.
pub record RowCoversRow (wide narrow : FlatPrivilegeRow) : Type 0 where
  pub users : IsListWider wide.users narrow.users
  pub hosts : IsListWider wide.hosts narrow.hosts
  pub grant : GrantCoversGrant wide.grant narrow.grant

-- ---- lists without what is covered

-- The second list is the first without some of its items. It may lack an item only where this holds of the item and of those behind it.
pub data IsListWithoutSome {X : Type 0} (MayLack : X → List X → Type 0) : List X → List X → Type 0 where
  nothing_left : IsListWithoutSome MayLack [] []
  item_kept : (x : X) (xs ys : List X) → IsListWithoutSome MayLack xs ys → IsListWithoutSome MayLack (x ∷ xs) (x ∷ ys)
  item_left_out : (x : X) (xs ys : List X) → MayLack x xs → IsListWithoutSome MayLack xs ys → IsListWithoutSome MayLack (x ∷ xs) ys

-- A row behind this row covers it.
pub record IsRowOverruledByLater (lines : List Line) (row : PrivilegeRow) (behind : List PrivilegeRow) : Type 0 where
  pub later : PrivilegeRow
  pub stands : ListHasElement behind later
  pub wide : FlatPrivilegeRow
  pub is_wide : IsFlatRowOf lines later wide
  pub narrow : FlatPrivilegeRow
  pub is_narrow : IsFlatRowOf lines row narrow
  pub covers : RowCoversRow wide narrow

-- The second rows are the first without some that are overruled.
abbrev pub AreRowsWithoutSomeOverruled : List Line → List PrivilegeRow → List PrivilegeRow → Type 0
AreRowsWithoutSomeOverruled lines rows deciding = IsListWithoutSome (IsRowOverruledByLater lines) rows deciding

-- The content has the rows of the policy, perhaps without some that are overruled, and its settings of runas_default, in file order.
pub record IsEffectOfPolicy (lines : List Line) (content : PolicyContent) : Type 0 where
  pub rows : List PrivilegeRow
  pub are_rows : AreRowsPerFlatAtomOfPolicy lines rows
  pub deciding : List PrivilegeRow
  pub are_deciding : AreRowsWithoutSomeOverruled lines rows deciding
  pub are_flat : IsPointwiseRelated (IsFlatRowOf lines) deciding content.rows
  pub runas_defaults : IsPointwiseRelated (IsFlatRunasDefaultOf lines) (runas_defaults_of_lines lines) content.runas_defaults

-- A grant behind this grant covers it.
abbrev pub IsGrantOverruledByLater : Grant → List Grant → Type 0
IsGrantOverruledByLater narrow behind = (wide : Grant) × ListHasElement behind wide × GrantCoversGrant wide narrow
