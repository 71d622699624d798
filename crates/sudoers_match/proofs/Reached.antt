-- Where no reachable alias is cyclic, no list of a user specification or of a Defaults line leads to a cyclic alias.
use Rattle.sudoers_match.proofs.Common.{CmdSpec, Cmnd, CommandLeadsToNoCycle, HasCyclicAliasReachedFromSpecOrDefaults, Host, HostGroup, HostGroupLeadsToNoCycle, HostGroupsLeadToNoCycle, Kind, LeadsToNoCyclicAlias, Line, List}
use Rattle.sudoers_match.proofs.Common.{ListHasElement, Member, None, Option, Param, Runas, RunasSpec, RunasSpecLeadsToNoCycle, Scope, ScopeLeadsToNoCycle, Some, User, [], alias_names_among_members, ap, flat_map}
use Rattle.sudoers_match.proofs.Common.{element_of_back_is_in_appended, element_of_part_is_in_flat_map, element_of_front_is_in_appended, if◌then◌else◌, inl, inr, kind_is_equal_to_itself, map, members_in_host_group, members_of_runas, refl, root_names_in_node, subst, sym, ◌∙◌, ◌∷◌, ◌≡◌}
use Rattle.sudoers_grammar.specs.Node as node
use Rattle.sudoers_match_list.proofs.Straight.{list_straight}

mapped_list_has_mapped_element : {X Y : Type 0} (f : X → Y) (xs : List X) (x : X) → ListHasElement xs x → ListHasElement (map f xs) (f x)
mapped_list_has_mapped_element f [] x h = absurd h
mapped_list_has_mapped_element f (z ∷ xs) x (inl e) = inl (ap f e)
mapped_list_has_mapped_element f (z ∷ xs) x (inr h) = inr (mapped_list_has_mapped_element f xs x h)

module _ (lines : List Line) (straight : HasCyclicAliasReachedFromSpecOrDefaults lines → ⊥) (line : Line) (stands : ListHasElement lines line) where
  -- a list whose members are among those of the line
  among_line : (k : Kind) (ms all : List Member) → root_names_in_node k line.node ≡ alias_names_among_members all → ((m : Member) → ListHasElement ms m → ListHasElement all m) → LeadsToNoCyclicAlias k lines ms
  among_line = list_straight lines straight line stands

  module _ (users : List Member) (groups : List HostGroup) (e : line.node ≡ node.Spec users groups) where
    pub users_straight : LeadsToNoCyclicAlias User lines users
    users_straight = among_line User users users (ap (root_names_in_node User) e) (λ m h. h)

    module _ (g : HostGroup) (there : ListHasElement groups g) where
      hosts_straight : LeadsToNoCyclicAlias Host lines g.hosts
      hosts_straight = among_line Host g.hosts (flat_map (members_in_host_group Host) groups) (ap (root_names_in_node Host) e)
          (λ m h. element_of_part_is_in_flat_map (members_in_host_group Host) groups g m there h)

      module _ (c : CmdSpec) (written : ListHasElement g.commands c) where
        member_straight : LeadsToNoCyclicAlias Cmnd lines (c.member ∷ [])
        member_straight = among_line Cmnd (c.member ∷ []) (flat_map (members_in_host_group Cmnd) groups) (ap (root_names_in_node Cmnd) e)
            (λ m h. element_of_part_is_in_flat_map (members_in_host_group Cmnd) groups g m there (by m h))
          where
            by : (m : Member) → ListHasElement (c.member ∷ []) m → ListHasElement (members_in_host_group Cmnd g) m
            by m (inl s) = subst (λ x. ListHasElement (members_in_host_group Cmnd g) x) s (mapped_list_has_mapped_element (λ (d : CmdSpec). d.member) g.commands c written)
            by m (inr s) = absurd s

        among_runas : (ms : List Member) → ((m : Member) → ListHasElement ms m → ListHasElement (members_of_runas c.runas) m) → LeadsToNoCyclicAlias Runas lines ms
        among_runas ms among = among_line Runas ms (flat_map (members_in_host_group Runas) groups) (ap (root_names_in_node Runas) e)
            (λ m h. element_of_part_is_in_flat_map (members_in_host_group Runas) groups g m there
            (element_of_part_is_in_flat_map (λ (d : CmdSpec). members_of_runas d.runas) g.commands c m written (among m h)))

        runas_straight : (o : Option RunasSpec) → c.runas ≡ o → RunasSpecLeadsToNoCycle lines o
        runas_straight None is = tt
        runas_straight (Some s) is = (
          among_runas s.users (λ m h. subst (λ o. ListHasElement (members_of_runas o) m) (sym is) (element_of_front_is_in_appended s.users s.groups m h)),
          among_runas s.groups (λ m h. subst (λ o. ListHasElement (members_of_runas o) m) (sym is) (element_of_back_is_in_appended s.users s.groups m h)),
        )

        command_straight : CommandLeadsToNoCycle lines c
        command_straight = record { runas = runas_straight c.runas refl; member = member_straight }

      group_straight : HostGroupLeadsToNoCycle lines g
      group_straight = record { hosts = hosts_straight; commands = command_straight }

    pub groups_straight : HostGroupsLeadToNoCycle lines groups
    groups_straight = group_straight

  pub scope_straight : (scope : Option Scope) (params : List Param) → line.node ≡ node.Defaults scope params → ScopeLeadsToNoCycle lines scope
  scope_straight None params e = tt
  scope_straight (Some s) params e = among_line s.kind s.members s.members
      (ap (root_names_in_node s.kind) e ∙ ap (λ b. alias_names_among_members (if b then s.members else [])) (kind_is_equal_to_itself s.kind)) (λ m h. h)
