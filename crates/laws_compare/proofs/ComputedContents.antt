-- The computed content is the content of the policy, if no reachable alias is cyclic.
use Rattle.std.proofs.Common.{◌≡◌, ◌⊎◌, inl, inr, ℕ, suc, List, [], ◌∷◌, ◌++◌, map, Option, Some, None, refl, sym, ap, subst, ◌∙◌}
use Rattle.std.specs.List.{cons_option, filter_map, flat_map}
use Rattle.std.specs.Option.{option_map, option_or}
use Rattle.std.proofs.lemmas.List.{map-append}
use Rattle.sudoers_grammar.specs.declared.node.Kind.{Kind}
use Rattle.sudoers_grammar.specs.declared.node.Kind.TheVariants.{User, Runas, Host, Cmnd}
use Rattle.sudoers_grammar.specs.Node.{Member, RunasSpec, CmdSpec, Scope, Node}
use Rattle.sudoers_grammar.specs.Node as node
use Rattle.sudoers_tree.specs.Line.{Line}
use Rattle.sudoers_tree.specs.Policy.{AreValidWalkLines}
use Rattle.sudoers_check.specs.Chain.{ListHasElement}
use Rattle.sudoers_check.specs.Chains.{HasCyclicAliasReachedFromSpecOrDefaults}
use Rattle.sudoers_match_list.specs.Alike.{IsPointwiseRelated}
use Rattle.sudoers_match_list.specs.Cycle.{ListLeadsToCyclicAlias}
use Rattle.sudoers_match_list.specs.Flat.{SignedAtom, signed_atom_of_member, IsFlatListOf}
use Rattle.sudoers_match_list.specs.Flattened.{fully_expanded_list}
use Rattle.sudoers_match.specs.Default.{runas_defaults_in_params, setting_with_scope, runas_defaults_in_node, runas_defaults_of_lines}
use Rattle.sudoers_match.specs.Heads.{AccumulatedCommandSettings, empty_command_settings, settings_after_command, commands_with_settings}
use Rattle.sudoers_match.specs.Rows.{PrivilegeRow, privilege_row_of, AreRowsPerFlatAtomOfCommand, AreRowsPerFlatAtomOfHostGroup, AreRowsPerFlatAtomOfSpec, AreRowsPerFlatAtomOfPolicy}
use Rattle.sudoers_match.specs.Specs.{UserSpec, user_spec_in_node, user_specs_of_lines, IsConcatenationOfParts}
use Rattle.sudoers_match.specs.internal.Straight.{LeadsToNoCyclicAlias, ScopeLeadsToNoCycle, RunasSpecLeadsToNoCycle, CommandLeadsToNoCycle}
use Rattle.sudoers_match.proofs.Alike.{appended_related_lists_are_related}
use Rattle.sudoers_match.proofs.Existing.{node_with_user_spec_is_spec_node, some_rows}
use Rattle.sudoers_match.proofs.Reached.{users_straight, groups_straight, scope_straight}
use Rattle.laws_compare.specs.Content.{IsOptionalFlatListOf, IsFlatRunasSpecOf, IsFlatRowOf, IsFlatScopeOf, IsFlatRunasDefaultOf, IsContentOfPolicy}
use Rattle.laws_compare.specs.Computed.{flat_list_of_members, optional_flat_list_of_members, flat_runas_spec_of, flat_row_of_command_atom, flat_rows_of_command, flat_rows_of_host_group, flat_rows_of_user_spec, flat_scope_of, flat_runas_default_of, content_of_lines}

-- what the laws of flat lists say
abbrev ListIsFlatOrLeadsToCycle : Type 0
ListIsFlatOrLeadsToCycle = (k : Kind) (lines : List Line) (ms : List Member) → ((fs : List SignedAtom) × IsFlatListOf k lines ms fs) ⊎ ListLeadsToCyclicAlias k lines ms

abbrev FlatListIsFullyExpandedList : Type 0
FlatListIsFullyExpandedList = (k : Kind) (lines : List Line) → AreValidWalkLines lines → (ms : List Member) (fs : List SignedAtom)
    → IsFlatListOf k lines ms fs → fs ≡ map signed_atom_of_member (fully_expanded_list k lines ms)

filter_map_element_is_of_some_element : {X Y : Type 0} (f : X → Option Y) (xs : List X) (y : Y) → ListHasElement (filter_map f xs) y
    → (x : X) × ListHasElement xs x × (f x ≡ Some y)
filter_map_element_is_of_some_element f [] y h = absurd h
filter_map_element_is_of_some_element {X} {Y} f (x ∷ xs) y h = by (filter_map_element_is_of_some_element f xs y) (f x) refl h
  where
    by : (ListHasElement (filter_map f xs) y → (z : X) × ListHasElement xs z × (f z ≡ Some y)) → (o : Option Y) → f x ≡ o
        → ListHasElement (cons_option o (filter_map f xs)) y → (z : X) × ListHasElement (x ∷ xs) z × (f z ≡ Some y)
    by more None e h = let w = more h in (w.0, inr w.1, w.2)
    by more (Some z) e (inl s) = (x, inl refl, e ∙ ap Some s)
    by more (Some z) e (inr h) = let w = more h in (w.0, inr w.1, w.2)

-- If what each numbered thing gives is related to what is computed of it, so are all that they give and all that is computed.
concatenation_is_related_to_flat_map_of_parts : {X Y Z : Type 0} (Part : ℕ → X → List Y → Type 0) (R : Y → Z → Type 0) (f : X → List Z) (xs : List X)
    → ((i : ℕ) (x : X) (ys : List Y) → ListHasElement xs x → Part i x ys → IsPointwiseRelated R ys (f x)) → (i : ℕ) (ys : List Y)
    → IsConcatenationOfParts Part i xs ys → IsPointwiseRelated R ys (flat_map f xs)
concatenation_is_related_to_flat_map_of_parts Part R f [] each i ys joined = subst (λ zs. IsPointwiseRelated R zs []) (sym joined) tt
concatenation_is_related_to_flat_map_of_parts Part R f (x ∷ xs) each i ys joined =
    subst (λ zs. IsPointwiseRelated R zs (f x ++ flat_map f xs)) (sym joined.2)
    (appended_related_lists_are_related R joined.0 (f x) joined.1 (flat_map f xs) (each i x joined.0 (inl refl) joined.3)
    (concatenation_is_related_to_flat_map_of_parts Part R f xs (λ n z zs h. each n z zs (inr h)) (suc i) joined.1 joined.4))

module _ (flat_or_cycle : ListIsFlatOrLeadsToCycle) (expanded : FlatListIsFullyExpandedList) (lines : List Line) (walk : AreValidWalkLines lines) where
  computed_flat_list_is_flat_list : (k : Kind) (ms : List Member) → LeadsToNoCyclicAlias k lines ms → IsFlatListOf k lines ms (flat_list_of_members k lines ms)
  computed_flat_list_is_flat_list k ms straight = elim (flat_or_cycle k lines ms) as (λ _. IsFlatListOf k lines ms (flat_list_of_members k lines ms)) [
    | inl f ↦ subst (IsFlatListOf k lines ms) (expanded k lines walk ms f.0 f.1) f.1
    | inr l ↦ absurd (straight l)
  ]

  computed_optional_flat_list_is_optional_flat_list : (ms : List Member) → LeadsToNoCyclicAlias Runas lines ms → IsOptionalFlatListOf lines ms (optional_flat_list_of_members lines ms)
  computed_optional_flat_list_is_optional_flat_list [] straight = refl
  computed_optional_flat_list_is_optional_flat_list (m ∷ ms) straight = (flat_list_of_members Runas lines (m ∷ ms), computed_flat_list_is_flat_list Runas (m ∷ ms) straight, refl)

  computed_flat_runas_spec_is_flat_runas_spec : (r : Option RunasSpec) → RunasSpecLeadsToNoCycle lines r → IsFlatRunasSpecOf lines r (option_map (flat_runas_spec_of lines) r)
  computed_flat_runas_spec_is_flat_runas_spec None straight = refl
  computed_flat_runas_spec_is_flat_runas_spec (Some r) straight = (
    optional_flat_list_of_members lines r.users,
    optional_flat_list_of_members lines r.groups,
    computed_optional_flat_list_is_optional_flat_list r.users straight.0,
    computed_optional_flat_list_is_optional_flat_list r.groups straight.1,
    refl,
  )

  -- ---- rows

  module _ (i j : ℕ) (users hosts : List Member) (of_users : LeadsToNoCyclicAlias User lines users) (of_hosts : LeadsToNoCyclicAlias Host lines hosts) where
    computed_flat_row_is_flat_row : (k : ℕ) (head : AccumulatedCommandSettings) (s : SignedAtom) → RunasSpecLeadsToNoCycle lines head.runas
        → IsFlatRowOf lines (privilege_row_of i j users hosts k head s) (flat_row_of_command_atom lines users hosts head s)
    computed_flat_row_is_flat_row k head s straight = record {
      users = computed_flat_list_is_flat_list User users of_users;
      hosts = computed_flat_list_is_flat_list Host hosts of_hosts;
      grant = record { runas = computed_flat_runas_spec_is_flat_runas_spec head.runas straight; options = refl; tags = refl; atom = refl };
    }

    rows_of_command_have_computed_flat_rows : (k : ℕ) (head : AccumulatedCommandSettings) → RunasSpecLeadsToNoCycle lines head.runas → (fs : List SignedAtom)
        → IsPointwiseRelated (IsFlatRowOf lines) (map (privilege_row_of i j users hosts k head) fs) (map (flat_row_of_command_atom lines users hosts head) fs)
    rows_of_command_have_computed_flat_rows k head straight [] = tt
    rows_of_command_have_computed_flat_rows k head straight (s ∷ fs) = (computed_flat_row_is_flat_row k head s straight, rows_of_command_have_computed_flat_rows k head straight fs)

    inherited_runas_spec_leads_to_no_cycle : (r h : Option RunasSpec) → RunasSpecLeadsToNoCycle lines r → RunasSpecLeadsToNoCycle lines h
        → RunasSpecLeadsToNoCycle lines (option_or r h)
    inherited_runas_spec_leads_to_no_cycle None h a b = b
    inherited_runas_spec_leads_to_no_cycle (Some r) h a b = a

    rows_of_commands_have_computed_flat_rows : (cs : List CmdSpec) → ((c : CmdSpec) → ListHasElement cs c → CommandLeadsToNoCycle lines c)
        → (head : AccumulatedCommandSettings) → RunasSpecLeadsToNoCycle lines head.runas → (k : ℕ) (rows : List PrivilegeRow)
        → IsConcatenationOfParts (AreRowsPerFlatAtomOfCommand lines i j users hosts) k (commands_with_settings head cs) rows
        → IsPointwiseRelated (IsFlatRowOf lines) rows (flat_map (flat_rows_of_command lines users hosts) (commands_with_settings head cs))
    rows_of_commands_have_computed_flat_rows [] straight head of_head k rows joined = subst (λ zs. IsPointwiseRelated (IsFlatRowOf lines) zs []) (sym joined) tt
    rows_of_commands_have_computed_flat_rows (c ∷ cs) straight head of_head k rows joined =
        let new = settings_after_command head c in
        let is = straight c (inl refl) in
        let of_new = inherited_runas_spec_leads_to_no_cycle c.runas head.runas is.runas of_head in
        let flat = expanded Cmnd lines walk (c.member ∷ []) joined.3.0 joined.3.1 in
        let first : IsPointwiseRelated (IsFlatRowOf lines) joined.0 (flat_rows_of_command lines users hosts (new, c.member)) =
        subst (λ zs. IsPointwiseRelated (IsFlatRowOf lines) zs (flat_rows_of_command lines users hosts (new, c.member))) (sym (joined.3.2 ∙ ap (map (privilege_row_of i j users hosts k new)) flat))
        (rows_of_command_have_computed_flat_rows k new of_new (flat_list_of_members Cmnd lines (c.member ∷ []))) in
        subst (λ zs. IsPointwiseRelated (IsFlatRowOf lines) zs (flat_map (flat_rows_of_command lines users hosts) (commands_with_settings head (c ∷ cs)))) (sym joined.2)
        (appended_related_lists_are_related (IsFlatRowOf lines) joined.0 (flat_rows_of_command lines users hosts (new, c.member)) joined.1
        (flat_map (flat_rows_of_command lines users hosts) (commands_with_settings new cs)) first
        (rows_of_commands_have_computed_flat_rows cs (λ d h. straight d (inr h)) new of_new (suc k) joined.1 joined.4))

  module _ (straight : HasCyclicAliasReachedFromSpecOrDefaults lines → ⊥) where
    rows_of_user_spec_have_computed_flat_rows : (i : ℕ) (s : UserSpec) (rows : List PrivilegeRow) → ListHasElement (user_specs_of_lines lines) s
        → AreRowsPerFlatAtomOfSpec lines i s rows → IsPointwiseRelated (IsFlatRowOf lines) rows (flat_rows_of_user_spec lines s)
    rows_of_user_spec_have_computed_flat_rows i s rows stands are =
        let w = filter_map_element_is_of_some_element (λ (line : Line). user_spec_in_node line.node) lines s stands in
        let e = node_with_user_spec_is_spec_node w.0.node s w.2 in
        let groups = groups_straight lines straight w.0 w.1 s.users s.groups e in
        concatenation_is_related_to_flat_map_of_parts (AreRowsPerFlatAtomOfHostGroup lines i s.users) (IsFlatRowOf lines) (flat_rows_of_host_group lines s.users) s.groups
        (λ j g ys there joined. rows_of_commands_have_computed_flat_rows i j s.users g.hosts (users_straight lines straight w.0 w.1 s.users s.groups e) (groups g there).hosts g.commands
        (groups g there).commands empty_command_settings tt 0 ys joined) 0 rows are

    rows_of_policy_have_computed_flat_rows : (rows : List PrivilegeRow) → AreRowsPerFlatAtomOfPolicy lines rows
        → IsPointwiseRelated (IsFlatRowOf lines) rows (flat_map (flat_rows_of_user_spec lines) (user_specs_of_lines lines))
    rows_of_policy_have_computed_flat_rows rows are =
        concatenation_is_related_to_flat_map_of_parts (AreRowsPerFlatAtomOfSpec lines) (IsFlatRowOf lines) (flat_rows_of_user_spec lines)
        (user_specs_of_lines lines) rows_of_user_spec_have_computed_flat_rows 0 rows are

    -- ---- settings of runas_default

    computed_flat_scope_is_flat_scope : (s : Option Scope) → ScopeLeadsToNoCycle lines s → IsFlatScopeOf lines s (option_map (flat_scope_of lines) s)
    computed_flat_scope_is_flat_scope None is = refl
    computed_flat_scope_is_flat_scope (Some s) is = (flat_list_of_members s.kind lines s.members, computed_flat_list_is_flat_list s.kind s.members is, refl)

    values_have_computed_flat_runas_defaults : (s : Option Scope) → ScopeLeadsToNoCycle lines s → (values : List (List ℕ))
        → IsPointwiseRelated (IsFlatRunasDefaultOf lines) (map (setting_with_scope s) values) (map (flat_runas_default_of lines) (map (setting_with_scope s) values))
    values_have_computed_flat_runas_defaults s is [] = tt
    values_have_computed_flat_runas_defaults s is (value ∷ values) = (record { scope = computed_flat_scope_is_flat_scope s is; name = refl }, values_have_computed_flat_runas_defaults s is values)

    node_has_computed_flat_runas_defaults : (line : Line) → ListHasElement lines line → (n : Node) → line.node ≡ n
        → IsPointwiseRelated (IsFlatRunasDefaultOf lines) (runas_defaults_in_node n) (map (flat_runas_default_of lines) (runas_defaults_in_node n))
    node_has_computed_flat_runas_defaults line there (node.Defaults scope params) e =
        values_have_computed_flat_runas_defaults scope (scope_straight lines straight line there scope params e) (runas_defaults_in_params params)
    node_has_computed_flat_runas_defaults line there n e = tt

    lines_have_computed_flat_runas_defaults : (ls : List Line) → ((line : Line) → ListHasElement ls line → ListHasElement lines line)
        → IsPointwiseRelated (IsFlatRunasDefaultOf lines) (runas_defaults_of_lines ls) (map (flat_runas_default_of lines) (runas_defaults_of_lines ls))
    lines_have_computed_flat_runas_defaults [] among = tt
    lines_have_computed_flat_runas_defaults (line ∷ ls) among =
        subst (IsPointwiseRelated (IsFlatRunasDefaultOf lines) (runas_defaults_of_lines (line ∷ ls)))
        (sym (map-append (flat_runas_default_of lines) (runas_defaults_in_node line.node) (runas_defaults_of_lines ls)))
        (appended_related_lists_are_related (IsFlatRunasDefaultOf lines) (runas_defaults_in_node line.node)
        (map (flat_runas_default_of lines) (runas_defaults_in_node line.node)) (runas_defaults_of_lines ls) (map (flat_runas_default_of lines) (runas_defaults_of_lines ls))
        (node_has_computed_flat_runas_defaults line (among line (inl refl)) line.node refl) (lines_have_computed_flat_runas_defaults ls (λ l h. among l (inr h))))

    pub computed_content_is_content_of_policy : IsContentOfPolicy lines (content_of_lines lines)
    computed_content_is_content_of_policy =
        let rows = some_rows flat_or_cycle lines straight in
        record {
          rows = rows.0;
          are_rows = rows.1;
          are_flat = rows_of_policy_have_computed_flat_rows rows.0 rows.1;
          runas_defaults = lines_have_computed_flat_runas_defaults lines (λ line h. h);
        }
