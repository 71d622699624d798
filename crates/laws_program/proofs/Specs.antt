-- The user specifications of a policy with its aliases replaced.
use Rattle.laws_program.proofs.Common.{◌≡◌, inl, inr, ℕ, List, [], ◌∷◌, map, refl, sym, subst, cons_option, filter_map, User, Host, HostGroup, Member, Node}
use Rattle.laws_program.proofs.Common.{Line, AreWalkLinesWithoutNul, ListHasElement, HasCyclicAliasReachedFromSpecOrDefaults, fully_expanded_list, IsPointwiseRelated, AreHostListsAlike, AreSpecUsersAndHostsAlike, empty_command_settings, PrivilegeRow, AreRowsPerFlatAtomOfHostGroup}
use Rattle.laws_program.proofs.Common.{AreRowsPerFlatAtomOfSpec, AreRowsPerFlatAtomOfPolicy, UserSpec, user_spec_of_users_and_groups, user_spec_in_node, user_specs_of_lines, LeadsToNoCyclicAlias, pointwise_relation_is_weakened, related_parts_give_related_concatenation, expanded_host_group, expanded_node}
use Rattle.laws_program.proofs.Common.{lines_with_aliases_replaced}
use Rattle.sudoers_grammar.specs.Node as node
use Rattle.sudoers_match.specs.internal.Straight.{HostGroupLeadsToNoCycle, HostGroupsLeadToNoCycle}
use Rattle.sudoers_match.proofs.Reached.{users_straight, groups_straight}
use Rattle.sudoers_match_list.specs.Alike.{unchanged_atom}
use Rattle.laws_program.proofs.Flattened.{LawsOfFlatLists, KeepsUndefinedAliases, list_alike, line_with_aliases_expanded}
use Rattle.laws_program.proofs.ExpandedHeads.{no_heads}
use Rattle.laws_program.proofs.Rows.{AreRowsAlikeAfterExpansion, commands_alike}

-- The host group leads to no cyclic alias, and the other is it with its aliases replaced.
record IsAcyclicGroupExpanded (lines : List Line) (g h : HostGroup) : Type 0 where
  straight : HostGroupLeadsToNoCycle lines g
  is : h ≡ expanded_host_group lines g

-- The user specification too.
record IsAcyclicSpecExpanded (lines : List Line) (s t : UserSpec) : Type 0 where
  users : LeadsToNoCyclicAlias User lines s.users
  groups : HostGroupsLeadToNoCycle lines s.groups
  is : t ≡ user_spec_of_users_and_groups (fully_expanded_list User lines s.users) (map (expanded_host_group lines) s.groups)

acyclic_groups_are_expanded_pairwise : (lines : List Line) (gs : List HostGroup) → HostGroupsLeadToNoCycle lines gs → IsPointwiseRelated (IsAcyclicGroupExpanded lines) gs (map (expanded_host_group lines) gs)
acyclic_groups_are_expanded_pairwise lines [] straight = tt
acyclic_groups_are_expanded_pairwise lines (g ∷ gs) straight = (record { straight = straight g (inl refl); is = refl }, acyclic_groups_are_expanded_pairwise lines gs (λ h there. straight h (inr there)))

module _ (lines : List Line) (straight : HasCyclicAliasReachedFromSpecOrDefaults lines → ⊥) where
  abbrev specs_in : List Line → List UserSpec
  specs_in ls = filter_map (λ (line : Line). user_spec_in_node line.node) ls

  -- the specifications with one line more
  one_line : (line : Line) → ListHasElement lines line → (n : Node) → line.node ≡ n → (rest others : List UserSpec) → IsPointwiseRelated (IsAcyclicSpecExpanded lines) rest others
      → IsPointwiseRelated (IsAcyclicSpecExpanded lines) (cons_option (user_spec_in_node n) rest) (cons_option (user_spec_in_node (expanded_node lines n)) others)
  one_line line there (node.Spec users groups) e rest others all =
      (record { users = users_straight lines straight line there users groups e; groups = groups_straight lines straight line there users groups e; is = refl }, all)
  one_line line there n e rest others all = all

  each_spec : (ls : List Line) → ((line : Line) → ListHasElement ls line → ListHasElement lines line) → IsPointwiseRelated (IsAcyclicSpecExpanded lines) (specs_in ls) (specs_in (map (line_with_aliases_expanded lines) ls))
  each_spec [] among = tt
  each_spec (line ∷ ls) among =
      one_line line (among line (inl refl)) line.node refl (specs_in ls) (specs_in (map (line_with_aliases_expanded lines) ls)) (each_spec ls (λ l h. among l (inr h)))

  all_specs : IsPointwiseRelated (IsAcyclicSpecExpanded lines) (user_specs_of_lines lines) (user_specs_of_lines (lines_with_aliases_replaced lines))
  all_specs = each_spec lines (λ line h. h)

  module _ (laws : LawsOfFlatLists) (others : List Line) (policy : AreWalkLinesWithoutNul lines) (keep : KeepsUndefinedAliases lines others) (specs_are : user_specs_of_lines others ≡ user_specs_of_lines (lines_with_aliases_replaced lines)) where
    these_specs : IsPointwiseRelated (IsAcyclicSpecExpanded lines) (user_specs_of_lines lines) (user_specs_of_lines others)
    these_specs = subst (IsPointwiseRelated (IsAcyclicSpecExpanded lines) (user_specs_of_lines lines)) (sym specs_are) all_specs

    -- ---- rows

    abbrev HaveLikes : List PrivilegeRow → (List PrivilegeRow → Type 0) → Type 0
    HaveLikes rows AreNew = (likes : List PrivilegeRow) × AreNew likes × IsPointwiseRelated (AreRowsAlikeAfterExpansion lines others) rows likes

    group_alike : (i : ℕ) (users : List Member) → LeadsToNoCyclicAlias User lines users → (j : ℕ) (g h : HostGroup) (rows : List PrivilegeRow) → IsAcyclicGroupExpanded lines g h
        → AreRowsPerFlatAtomOfHostGroup lines i users j g rows → HaveLikes rows (AreRowsPerFlatAtomOfHostGroup others i (fully_expanded_list User lines users) j h)
    group_alike i users of_users j g h rows group are =
        subst (λ x. HaveLikes rows (AreRowsPerFlatAtomOfHostGroup others i (fully_expanded_list User lines users) j x)) (sym group.is)
        (commands_alike lines others i j users g.hosts (list_alike laws lines others policy keep User users of_users) (list_alike laws lines others policy keep Host g.hosts group.straight.hosts)
        laws policy keep g.commands group.straight.commands empty_command_settings empty_command_settings 0 0 (no_heads lines others) rows are)

    spec_alike : (i : ℕ) (s t : UserSpec) (rows : List PrivilegeRow) → IsAcyclicSpecExpanded lines s t → AreRowsPerFlatAtomOfSpec lines i s rows → HaveLikes rows (AreRowsPerFlatAtomOfSpec others i t)
    spec_alike i s t rows spec are =
        subst (λ x. HaveLikes rows (AreRowsPerFlatAtomOfSpec others i x)) (sym spec.is)
        (related_parts_give_related_concatenation (IsAcyclicGroupExpanded lines) (AreRowsAlikeAfterExpansion lines others) (AreRowsPerFlatAtomOfHostGroup lines i s.users) (AreRowsPerFlatAtomOfHostGroup others i (fully_expanded_list User lines s.users))
        (group_alike i s.users spec.users) 0 s.groups (map (expanded_host_group lines) s.groups) rows (acyclic_groups_are_expanded_pairwise lines s.groups spec.groups) are)

    -- Each row has its like in the policy with its aliases replaced.
    pub rows_alike : (rows : List PrivilegeRow) → AreRowsPerFlatAtomOfPolicy lines rows → (likes : List PrivilegeRow) × AreRowsPerFlatAtomOfPolicy others likes × IsPointwiseRelated (AreRowsAlikeAfterExpansion lines others) rows likes
    rows_alike rows are =
        related_parts_give_related_concatenation (IsAcyclicSpecExpanded lines) (AreRowsAlikeAfterExpansion lines others) (AreRowsPerFlatAtomOfSpec lines) (AreRowsPerFlatAtomOfSpec others) spec_alike 0 (user_specs_of_lines lines) (user_specs_of_lines others) rows
        these_specs are

    -- ---- host groups

    hosts_alike : (g h : HostGroup) → IsAcyclicGroupExpanded lines g h → AreHostListsAlike unchanged_atom lines others g h
    hosts_alike g h group =
        subst (AreHostListsAlike unchanged_atom lines others g) (sym group.is) (list_alike laws lines others policy keep Host g.hosts group.straight.hosts)

    one_spec : (s t : UserSpec) → IsAcyclicSpecExpanded lines s t → AreSpecUsersAndHostsAlike unchanged_atom lines others s t
    one_spec s t spec = subst (AreSpecUsersAndHostsAlike unchanged_atom lines others s) (sym spec.is) (record {
      users = list_alike laws lines others policy keep User s.users spec.users;
      groups = pointwise_relation_is_weakened (IsAcyclicGroupExpanded lines) (AreHostListsAlike unchanged_atom lines others) hosts_alike s.groups (map (expanded_host_group lines) s.groups)
          (acyclic_groups_are_expanded_pairwise lines s.groups spec.groups);
    })

    -- The user specifications are for the same users and hosts.
    pub specs_alike : IsPointwiseRelated (AreSpecUsersAndHostsAlike unchanged_atom lines others) (user_specs_of_lines lines) (user_specs_of_lines others)
    specs_alike = pointwise_relation_is_weakened (IsAcyclicSpecExpanded lines) (AreSpecUsersAndHostsAlike unchanged_atom lines others) one_spec (user_specs_of_lines lines) (user_specs_of_lines others) these_specs
