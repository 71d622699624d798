-- Policies with the same content have rows and settings that say the same.
use Rattle.std.proofs.Common.{◌≡◌, ℕ, List, [], ◌∷◌, map, Option, Some, None, refl, sym, ap, ap₂, subst, ◌∙◌, map-id}
use Rattle.sudoers_grammar.specs.declared.node.Kind.{Kind}
use Rattle.sudoers_grammar.specs.declared.node.Kind.TheVariants.{User, Runas, Host, Cmnd}
use Rattle.sudoers_grammar.specs.declared.node.Atom.{Atom}
use Rattle.sudoers_grammar.specs.Node.{Member, RunasSpec, Scope}
use Rattle.sudoers_tree.specs.Line.{Line}
use Rattle.sudoers_match_list.specs.Flat.{SignedAtom, IsFlatListOf}
use Rattle.sudoers_match_list.specs.Alike.{IsPointwiseRelated, HaveSameFlatListAfterRewrite, unchanged_atom, signed_atom_with_atom_mapped}
use Rattle.sudoers_match.specs.Alike.{AreScopeListsAlike, AreDefaultsScopesAlike, AreRunasDefaultsAlike, AreAllRunasDefaultsAlike, AreRunasMemberListsAlike, AreRunasSpecsAlike, AreTwoRowsAlikeButSpecNumbers}
use Rattle.sudoers_match.specs.declared.tags.CommandTags.{CommandTags}
use Rattle.sudoers_match.specs.Default.{runas_defaults_of_lines}
use Rattle.sudoers_match.specs.Values.{OptionValues}
use Rattle.sudoers_match.specs.Rows.{PrivilegeRow}
use Rattle.sudoers_match.proofs.OneAnswer.{FlatListIsUnique, rows_one}
use Rattle.laws_compare.specs.Content.{FlatRunasSpec, flat_runas_spec_of_lists, Grant, FlatPrivilegeRow, IsOptionalFlatListOf, IsFlatRunasSpecOf, IsGrantOfRow, IsFlatRowOf, FlatRunasDefault, IsFlatScopeOf, IsFlatRunasDefaultOf, PolicyContent, IsContentOfPolicy}

-- what the law of lists says that have the same flat list
abbrev pub ListsOfSameFlatListAreAlike : Type 0
ListsOfSameFlatListAreAlike = (write : Atom → Atom) (k : Kind) (lines others : List Line) (ms ns : List Member) (fs : List SignedAtom)
    → IsFlatListOf k lines ms fs → IsFlatListOf k others ns (map (signed_atom_with_atom_mapped write) fs) → HaveSameFlatListAfterRewrite write k lines others ms ns

values_of_equal_somes_are_equal : {X : Type 0} (x y : X) → Some x ≡ Some y → x ≡ y
values_of_equal_somes_are_equal x y e = cc

-- Two lists are related if both are related to a third, and if items are related that are both related to one of the third.
lists_related_to_third_are_related : {X Y Z : Type 0} (R : X → Z → Type 0) (S : Y → Z → Type 0) (Q : X → Y → Type 0)
    → ((x : X) (y : Y) (z : Z) → R x z → S y z → Q x y)
    → (xs : List X) (ys : List Y) (zs : List Z) → IsPointwiseRelated R xs zs → IsPointwiseRelated S ys zs → IsPointwiseRelated Q xs ys
lists_related_to_third_are_related R S Q meet [] [] [] r s = tt
lists_related_to_third_are_related R S Q meet [] [] (z ∷ zs) r s = absurd r
lists_related_to_third_are_related R S Q meet [] (y ∷ ys) [] r s = absurd s
lists_related_to_third_are_related R S Q meet [] (y ∷ ys) (z ∷ zs) r s = absurd r
lists_related_to_third_are_related R S Q meet (x ∷ xs) ys [] r s = absurd r
lists_related_to_third_are_related R S Q meet (x ∷ xs) [] (z ∷ zs) r s = absurd s
lists_related_to_third_are_related R S Q meet (x ∷ xs) (y ∷ ys) (z ∷ zs) r s = (meet x y z r.0 s.0, lists_related_to_third_are_related R S Q meet xs ys zs r.1 s.1)

module _ (law : ListsOfSameFlatListAreAlike) (lines others : List Line) where
  lists_of_same_flat_list_are_alike : (k : Kind) (ms ns : List Member) (fs : List SignedAtom) → IsFlatListOf k lines ms fs → IsFlatListOf k others ns fs
      → HaveSameFlatListAfterRewrite unchanged_atom k lines others ms ns
  lists_of_same_flat_list_are_alike k ms ns fs f g = law unchanged_atom k lines others ms ns fs f (subst (IsFlatListOf k others ns) (sym (map-id fs)) g)

  -- ---- settings of runas_default

  scope_lists_of_same_flat_list_are_alike : (k : Kind) (ms ns : List Member) (fs : List SignedAtom) → IsFlatListOf k lines ms fs → IsFlatListOf k others ns fs
      → AreScopeListsAlike unchanged_atom lines others k ms ns
  scope_lists_of_same_flat_list_are_alike User ms ns fs f g = lists_of_same_flat_list_are_alike User ms ns fs f g
  scope_lists_of_same_flat_list_are_alike Host ms ns fs f g = lists_of_same_flat_list_are_alike Host ms ns fs f g
  scope_lists_of_same_flat_list_are_alike Runas ms ns fs f g = tt
  scope_lists_of_same_flat_list_are_alike Cmnd ms ns fs f g = tt

  scopes_of_same_flat_scope_are_alike : (s t : Option Scope) (flat : Option (Kind × List SignedAtom)) → IsFlatScopeOf lines s flat → IsFlatScopeOf others t flat
      → AreDefaultsScopesAlike unchanged_atom lines others s t
  scopes_of_same_flat_scope_are_alike None None flat f g = tt
  scopes_of_same_flat_scope_are_alike None (Some t) flat f g = absurd cc
  scopes_of_same_flat_scope_are_alike (Some s) None flat f g = absurd cc
  scopes_of_same_flat_scope_are_alike (Some s) (Some t) flat f g =
      let both = values_of_equal_somes_are_equal (t.kind, g.0) (s.kind, f.0) (sym g.2 ∙ f.2) in
      let kinds : t.kind ≡ s.kind = ap (λ (p : Kind × List SignedAtom). p.0) both in
      let flats : g.0 ≡ f.0 = ap (λ (p : Kind × List SignedAtom). p.1) both in (
        kinds,
        scope_lists_of_same_flat_list_are_alike s.kind s.members t.members f.0 f.1
            (subst (λ (k : Kind). IsFlatListOf k others t.members f.0) kinds (subst (IsFlatListOf t.kind others t.members) flats g.1)),
      )

  runas_defaults_of_same_flat_form_are_alike : (s t : Option Scope × List ℕ) (flat : FlatRunasDefault) → IsFlatRunasDefaultOf lines s flat
      → IsFlatRunasDefaultOf others t flat → AreRunasDefaultsAlike unchanged_atom lines others s t
  runas_defaults_of_same_flat_form_are_alike s t flat f g = record { scope = scopes_of_same_flat_scope_are_alike s.0 t.0 flat.scope f.scope g.scope; value = sym g.name ∙ f.name }

  -- ---- rows

  runas_lists_of_same_flat_list_are_alike : (ms ns : List Member) (flat : Option (List SignedAtom)) → IsOptionalFlatListOf lines ms flat
      → IsOptionalFlatListOf others ns flat → AreRunasMemberListsAlike unchanged_atom lines others ms ns
  runas_lists_of_same_flat_list_are_alike [] [] flat f g = tt
  runas_lists_of_same_flat_list_are_alike [] (n ∷ ns) flat f g = absurd cc
  runas_lists_of_same_flat_list_are_alike (m ∷ ms) [] flat f g = absurd cc
  runas_lists_of_same_flat_list_are_alike (m ∷ ms) (n ∷ ns) flat f g =
      let both : Some f.0 ≡ Some g.0 = sym f.2 ∙ g.2 in
      let flats : g.0 ≡ f.0 = cc in
      lists_of_same_flat_list_are_alike Runas (m ∷ ms) (n ∷ ns) f.0 f.1 (subst (IsFlatListOf Runas others (n ∷ ns)) flats g.1)

  runas_specs_of_same_flat_form_are_alike : (r s : Option RunasSpec) (flat : Option FlatRunasSpec) → IsFlatRunasSpecOf lines r flat
      → IsFlatRunasSpecOf others s flat → AreRunasSpecsAlike unchanged_atom lines others r s
  runas_specs_of_same_flat_form_are_alike None None flat f g = tt
  runas_specs_of_same_flat_form_are_alike None (Some s) flat f g = absurd cc
  runas_specs_of_same_flat_form_are_alike (Some r) None flat f g = absurd cc
  runas_specs_of_same_flat_form_are_alike (Some r) (Some s) flat f g =
      let both = values_of_equal_somes_are_equal (flat_runas_spec_of_lists g.0 g.1) (flat_runas_spec_of_lists f.0 f.1) (sym g.4 ∙ f.4) in
      let users : g.0 ≡ f.0 = ap (λ (x : FlatRunasSpec). x.users) both in
      let groups : g.1 ≡ f.1 = ap (λ (x : FlatRunasSpec). x.groups) both in (
        runas_lists_of_same_flat_list_are_alike r.users s.users f.0 f.2 (subst (IsOptionalFlatListOf others s.users) users g.2),
        runas_lists_of_same_flat_list_are_alike r.groups s.groups f.1 f.3 (subst (IsOptionalFlatListOf others s.groups) groups g.3),
      )

  rows_of_same_flat_row_are_alike : (r s : PrivilegeRow) (flat : FlatPrivilegeRow) → IsFlatRowOf lines r flat → IsFlatRowOf others s flat
      → AreTwoRowsAlikeButSpecNumbers unchanged_atom lines others r s
  rows_of_same_flat_row_are_alike r s flat f g = record {
    users = lists_of_same_flat_list_are_alike User r.users s.users flat.users f.users g.users;
    hosts = lists_of_same_flat_list_are_alike Host r.hosts s.hosts flat.hosts f.hosts g.hosts;
    runas = runas_specs_of_same_flat_form_are_alike r.head.runas s.head.runas flat.grant.runas f.grant.runas g.grant.runas;
    options = sym g.grant.options ∙ f.grant.options;
    tags = sym g.grant.tags ∙ f.grant.tags;
    atom = sym g.grant.atom ∙ f.grant.atom;
  }

  -- ---- all of them

  pub policies_of_same_flat_runas_defaults_are_alike : (flats : List FlatRunasDefault)
      → IsPointwiseRelated (IsFlatRunasDefaultOf lines) (runas_defaults_of_lines lines) flats
      → IsPointwiseRelated (IsFlatRunasDefaultOf others) (runas_defaults_of_lines others) flats
      → AreAllRunasDefaultsAlike unchanged_atom lines others
  policies_of_same_flat_runas_defaults_are_alike flats f g =
      lists_related_to_third_are_related (IsFlatRunasDefaultOf lines) (IsFlatRunasDefaultOf others)
      (AreRunasDefaultsAlike unchanged_atom lines others) runas_defaults_of_same_flat_form_are_alike (runas_defaults_of_lines lines) (runas_defaults_of_lines others) flats f g

  pub row_lists_of_same_flat_rows_are_alike : (rows ranks : List PrivilegeRow) (flats : List FlatPrivilegeRow)
      → IsPointwiseRelated (IsFlatRowOf lines) rows flats → IsPointwiseRelated (IsFlatRowOf others) ranks flats
      → IsPointwiseRelated (AreTwoRowsAlikeButSpecNumbers unchanged_atom lines others) rows ranks
  row_lists_of_same_flat_rows_are_alike rows ranks flats f g =
      lists_related_to_third_are_related (IsFlatRowOf lines) (IsFlatRowOf others) (AreTwoRowsAlikeButSpecNumbers unchanged_atom lines others) rows_of_same_flat_row_are_alike rows ranks flats f g

-- ---- a policy has one content

list_related_by_unique_relation_is_unique : {X Y : Type 0} (R : X → Y → Type 0) → ((x : X) (y z : Y) → R x y → R x z → y ≡ z)
    → (xs : List X) (ys zs : List Y) → IsPointwiseRelated R xs ys → IsPointwiseRelated R xs zs → ys ≡ zs
list_related_by_unique_relation_is_unique R one [] [] [] r s = refl
list_related_by_unique_relation_is_unique R one [] [] (z ∷ zs) r s = absurd s
list_related_by_unique_relation_is_unique R one [] (y ∷ ys) zs r s = absurd r
list_related_by_unique_relation_is_unique R one (x ∷ xs) [] zs r s = absurd r
list_related_by_unique_relation_is_unique R one (x ∷ xs) (y ∷ ys) [] r s = absurd s
list_related_by_unique_relation_is_unique R one (x ∷ xs) (y ∷ ys) (z ∷ zs) r s = ap₂ (λ a b. a ∷ b) (one x y z r.0 s.0) (list_related_by_unique_relation_is_unique R one xs ys zs r.1 s.1)

abbrev the_runas_default : Option (Kind × List SignedAtom) → List ℕ → FlatRunasDefault
the_runas_default scope name = record { scope = scope; name = name }

abbrev the_grant : Option FlatRunasSpec → OptionValues → CommandTags → SignedAtom → Grant
the_grant runas options tags atom = record { runas = runas; options = options; tags = tags; atom = atom }

abbrev the_row : List SignedAtom → List SignedAtom → Grant → FlatPrivilegeRow
the_row users hosts grant = record { users = users; hosts = hosts; grant = grant }

abbrev the_content : List FlatPrivilegeRow → List FlatRunasDefault → PolicyContent
the_content rows runas_defaults = record { rows = rows; runas_defaults = runas_defaults }

module _ (one : FlatListIsUnique) (lines : List Line) where
  flat_scope_is_unique : (s : Option Scope) (x y : Option (Kind × List SignedAtom)) → IsFlatScopeOf lines s x → IsFlatScopeOf lines s y → x ≡ y
  flat_scope_is_unique None x y f g = f ∙ sym g
  flat_scope_is_unique (Some s) x y f g = f.2 ∙ ap (λ (fs : List SignedAtom). Some (s.kind, fs)) (one s.kind lines s.members f.0 g.0 f.1 g.1) ∙ sym g.2

  flat_runas_default_is_unique : (s : Option Scope × List ℕ) (x y : FlatRunasDefault) → IsFlatRunasDefaultOf lines s x → IsFlatRunasDefaultOf lines s y → x ≡ y
  flat_runas_default_is_unique s x y f g =
      ap₂ the_runas_default (flat_scope_is_unique s.0 x.scope y.scope f.scope g.scope) (f.name ∙ sym g.name)

  optional_flat_list_is_unique : (ms : List Member) (x y : Option (List SignedAtom)) → IsOptionalFlatListOf lines ms x → IsOptionalFlatListOf lines ms y → x ≡ y
  optional_flat_list_is_unique [] x y f g = f ∙ sym g
  optional_flat_list_is_unique (m ∷ ms) x y f g = f.2 ∙ ap Some (one Runas lines (m ∷ ms) f.0 g.0 f.1 g.1) ∙ sym g.2

  flat_runas_spec_is_unique : (r : Option RunasSpec) (x y : Option FlatRunasSpec) → IsFlatRunasSpecOf lines r x → IsFlatRunasSpecOf lines r y → x ≡ y
  flat_runas_spec_is_unique None x y f g = f ∙ sym g
  flat_runas_spec_is_unique (Some r) x y f g =
      f.4
      ∙ ap₂ (λ users groups. Some (flat_runas_spec_of_lists users groups)) (optional_flat_list_is_unique r.users f.0 g.0 f.2 g.2)
      (optional_flat_list_is_unique r.groups f.1 g.1 f.3 g.3)
      ∙ sym g.4

  grant_of_row_is_unique : (r : PrivilegeRow) (x y : Grant) → IsGrantOfRow lines r x → IsGrantOfRow lines r y → x ≡ y
  grant_of_row_is_unique r x y f g =
      ap₂ (λ (runas : Option FlatRunasSpec) (options : OptionValues). the_grant runas options x.tags x.atom)
      (flat_runas_spec_is_unique r.head.runas x.runas y.runas f.runas g.runas) (f.options ∙ sym g.options)
      ∙ ap₂ (λ (tags : CommandTags) (atom : SignedAtom). the_grant y.runas y.options tags atom) (f.tags ∙ sym g.tags) (f.atom ∙ sym g.atom)

  flat_row_is_unique : (r : PrivilegeRow) (x y : FlatPrivilegeRow) → IsFlatRowOf lines r x → IsFlatRowOf lines r y → x ≡ y
  flat_row_is_unique r x y f g =
      ap₂ (λ (users hosts : List SignedAtom). the_row users hosts x.grant)
      (one User lines r.users x.users y.users f.users g.users) (one Host lines r.hosts x.hosts y.hosts f.hosts g.hosts)
      ∙ ap (the_row y.users y.hosts) (grant_of_row_is_unique r x.grant y.grant f.grant g.grant)

  pub content_of_policy_is_unique : (x y : PolicyContent) → IsContentOfPolicy lines x → IsContentOfPolicy lines y → x ≡ y
  content_of_policy_is_unique x y f g =
      let same = rows_one one lines f.rows g.rows f.are_rows g.are_rows in
      let rows = list_related_by_unique_relation_is_unique (IsFlatRowOf lines) flat_row_is_unique g.rows x.rows y.rows
      (subst (λ (rs : List PrivilegeRow). IsPointwiseRelated (IsFlatRowOf lines) rs x.rows) same f.are_flat) g.are_flat in
      ap₂ the_content rows
      (list_related_by_unique_relation_is_unique (IsFlatRunasDefaultOf lines) flat_runas_default_is_unique (runas_defaults_of_lines lines) x.runas_defaults y.runas_defaults f.runas_defaults g.runas_defaults)
