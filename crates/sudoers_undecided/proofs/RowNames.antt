-- The rows of a command: the lists that are counted name only atoms that could have changed whether one fits.
use Rattle.std.proofs.Common.{◌≡◌, ◌⊎◌, inl, inr, ◌&&◌, Bool, true, false, not, ℕ, List, [], ◌∷◌, ◌++◌, map, Option, Some, None, option_map, is_some, refl, sym, ap, subst, ◌∙◌}
use Rattle.std.proofs.lemmas.List.{map-append}
use Rattle.std.specs.List.{AllByRecursion}
use Rattle.sudoers_grammar.specs.declared.node.Kind.TheVariants.{User, Host, Runas, Cmnd}
use Rattle.sudoers_grammar.specs.declared.node.Atom.{Atom}
use Rattle.sudoers_grammar.specs.Node.{Member}
use Rattle.sudoers_line_rows.specs.declared.row_lists.RowsOfTable.{RowsOfTable}
use Rattle.sudoers_line_rows.specs.declared.rows.MemberRow.{MemberRow}
use Rattle.sudoers_line_rows.specs.declared.view.RunasSpec.{RunasSpec as RunasView}
use Rattle.sudoers_line_rows.specs.View.{members_of_view, runas_of_view}
use Rattle.sudoers_tree.specs.Line.{Line}
use Rattle.sudoers_check.specs.Chain.{ListHasElement}
use Rattle.sudoers_match_member.specs.declared.people_and_commands.Group.{Group}
use Rattle.sudoers_match_member.specs.declared.request.Request.{Request}
use Rattle.sudoers_match_member.specs.Hits.{is_command_atom_match}
use Rattle.sudoers_match_list.specs.Flat.{IsFlatListOf, SignedAtom, last_hit_of_list, none}
use Rattle.sudoers_match_list.proofs.Unique.{one_flat}
use Rattle.sudoers_match.specs.Allows.{ListAllows}
use Rattle.sudoers_match.specs.Answer.{command_with_joined_arguments_of_request}
use Rattle.sudoers_match.specs.Heads.{AccumulatedCommandSettings}
use Rattle.sudoers_match.specs.Rows.{PrivilegeRow, privilege_row_of}
use Rattle.sudoers_undecided.specs.declared.asked_request.CommandLists.{CommandLists}
use Rattle.sudoers_undecided.specs.declared.asked_request.CountedParts.{CountedParts}
use Rattle.sudoers_undecided.specs.declared.asked_request.RowStanding.{RowStanding}
use Rattle.sudoers_undecided.specs.declared.counted_lists.CountedLists.{CountedLists}
use Rattle.sudoers_undecided.specs.declared.decided_aliases.PartStanding.{PartStanding}
use Rattle.sudoers_undecided.specs.declared.user_and_host_lists.UserAndHostLists.{UserAndHostLists}
use Rattle.sudoers_undecided.specs.declared.request_part.RequestPart.{RequestPart}
use Rattle.sudoers_undecided.specs.declared.request_part.RequestPart.TheVariants as part
use Rattle.sudoers_undecided.specs.declared.wanted_members.CountedList.{CountedList}
use Rattle.sudoers_undecided.specs.declared.wanted_members.WantedMembers.TheVariants.{Allowing, Denying, All}
use Rattle.sudoers_undecided.specs.ListSway.{is_bare_and_undecided, may_list_match, sway_of_atoms}
use Rattle.sudoers_undecided.specs.MatchTests.{match_tests_of_request, undecided_by_files_or_paths}
use Rattle.sudoers_undecided.specs.RowParts.{CouldTurnRowPart, CouldTurnRunasGroupList, CouldTurnRunasSpecGroups, CouldTurnRunasSpecUsers, CouldTurnRunasUserList, RowPartHolds, RunasListsAllowGroupByTests, RunasSpecAllowsGroupByTests, RunasSpecAllowsUserByTests, RunasUserListAllowsByTests}
use Rattle.sudoers_undecided.specs.TurningMembers.{CouldTurnList}
use Rattle.sudoers_undecided.specs.UndecidedAnswer.{CouldChangeWhetherRowFits, RowFitsRequestByTests, RowMayFitRequest}
use Rattle.sudoers_undecided.specs.internal.Counted.{AddsOnlyListsOfParts, AreCountedListsFlat, AreGroupListsFlat, AreListsOfCommand, AreNoLists, CouldChangeOneOfRows, CoversAtom, FitsNot, HasOnlyListsOfParts, IsPartStanding, IsWantedGroupOf, IsWantedOfGroupLists, IsWantedRunasGroup, IsWantedRunasUser, NamesOnlyAtomsOfRows, command_list, hosts_list, runas_groups_list, runas_users_list, users_list}
use Rattle.sudoers_undecided.specs.internal.Parts.{all_parts, does_row_hold, may_part_hold, may_row_hold, parts_without_hold_of}
use Rattle.sudoers_undecided.specs.internal.Wanted.{AreFlat, HasFlatList, IsWantedOfList, IsWantedOfLists, NoneMatchesUnlessAllWanted, is_all_wanted}
use Rattle.sudoers_undecided.proofs.CommandAtoms.{hit_is_of_last_match, matching_list_has_atom, place_of_element, stands_behind, undecided_command_matches_not}
use Rattle.sudoers_undecided.proofs.RowCounts.{and_parts, fitting_row_holds, holding_row_fits, matching_atom_hits, no_row_fits, or_parts, runas_groups, runas_users}

-- ---- no lists

module _ (lines : List Line) (r : Request) where
  no_list_is_there : (xs : List CountedList) → xs ≡ [] → (x : CountedList) → ListHasElement xs x → ⊥
  no_list_is_there xs e x h = subst (λ ys. ListHasElement ys x) e h

  pub no_lists_are_flat : (c : CountedLists) → AreNoLists c → AreCountedListsFlat lines r c
  no_lists_are_flat c n = record {
    users = λ x h. absurd (no_list_is_there c.users.items n.users x h);
    hosts = λ x h. absurd (no_list_is_there c.hosts.items n.hosts x h);
    runas_users = λ x h. absurd (no_list_is_there c.runas_users.items n.runas_users x h);
    runas_groups = of_groups r.target_group;
    commands = λ x h. absurd (no_list_is_there c.commands.items n.commands x h);
  }
    where
      of_groups : (g : Option Group) → AreGroupListsFlat lines g c.runas_groups.items
      of_groups None = tt
      of_groups (Some g) = λ x h. absurd (no_list_is_there c.runas_groups.items n.runas_groups x h)

  pub no_lists_name_no_atom : (scopes : UserAndHostLists) (c : CountedLists) → AreNoLists c → (p : RequestPart) (s : SignedAtom) → CoversAtom lines r scopes c p s → ⊥
  no_lists_name_no_atom scopes c n part.Users s w = no_list_is_there c.users.items n.users w.list w.stands
  no_lists_name_no_atom scopes c n part.Hosts s w = no_list_is_there c.hosts.items n.hosts w.list w.stands
  no_lists_name_no_atom scopes c n part.RunasUsers s (inl w) = no_list_is_there c.runas_users.items n.runas_users w.list w.stands
  no_lists_name_no_atom scopes c n part.RunasUsers s (inr w) = let clash : true ≡ false = sym w.0 ∙ n.default in cc
  no_lists_name_no_atom scopes c n part.RunasGroups s w = of_groups r.target_group w
    where
      of_groups : (g : Option Group) → IsWantedOfGroupLists lines r g c.runas_groups.items s → ⊥
      of_groups None w = w
      of_groups (Some g) w = no_list_is_there c.runas_groups.items n.runas_groups w.list w.stands
  no_lists_name_no_atom scopes c n part.Moment s w = w
  no_lists_name_no_atom scopes c n part.Command s w = no_list_is_there c.commands.items n.commands w.list w.stands

  pub first_lists_name_none : (scopes : UserAndHostLists) (c : CountedLists) → AreNoLists c → (rows : List PrivilegeRow) (p : RequestPart) (s : SignedAtom)
      → (CoversAtom lines r scopes c p s × AllByRecursion (FitsNot lines r) rows) ⊎ CouldChangeOneOfRows lines r rows p s → CouldChangeOneOfRows lines r rows p s
  first_lists_name_none scopes c n rows p s w = elim w as (λ _. CouldChangeOneOfRows lines r rows p s) [ inl old ↦ absurd (no_lists_name_no_atom scopes c n p s old.0) | inr one ↦ one ]

  -- ---- flat lists of Runas_Specs

  flat_runas_users : (us : List Member) → RunasUserListAllowsByTests lines (match_tests_of_request r) r.who.user r.target us ⊎ ((s : SignedAtom) × CouldTurnRunasUserList lines (undecided_by_files_or_paths r) (match_tests_of_request r) us s)
      → (flat : List SignedAtom) × IsFlatListOf Runas lines us flat
  flat_runas_users [] h = ([], none)
  flat_runas_users (u ∷ us) (inl v) = (v.is_latest.flat, v.is_latest.is_flat)
  flat_runas_users (u ∷ us) (inr t) = (t.1.flat, t.1.is_flat)

  flat_runas_groups : (g : Group) (us gs : List Member) → RunasListsAllowGroupByTests lines (match_tests_of_request r) r.who.user r.target (Some g) us gs
      ⊎ ((s : SignedAtom) × CouldTurnRunasGroupList lines (undecided_by_files_or_paths r) (match_tests_of_request r) r.target (Some g) gs s) → (flat : List SignedAtom) × IsFlatListOf Runas lines gs flat
  flat_runas_groups g us [] h = ([], none)
  flat_runas_groups g [] (m ∷ ms) (inl v) = (v.1.is_latest.flat, v.1.is_latest.is_flat)
  flat_runas_groups g (u ∷ us) (m ∷ ms) (inl v) = (v.1.is_latest.flat, v.1.is_latest.is_flat)
  flat_runas_groups g [] (m ∷ ms) (inr t) = (t.1.flat, t.1.is_flat)
  flat_runas_groups g (u ∷ us) (m ∷ ms) (inr t) = (t.1.flat, t.1.is_flat)

-- ---- rows of a command

module _ (lines : List Line) (r : Request) (scopes : UserAndHostLists) (head : AccumulatedCommandSettings) (l : CommandLists) (h : AreListsOfCommand lines r scopes head l) (i j k : ℕ) where
  abbrev row : SignedAtom → PrivilegeRow
  row = privilege_row_of i j (members_of_view l.users) (members_of_view l.hosts) k head

  abbrev Holds : SignedAtom → RequestPart → Type 0
  Holds s = RowPartHolds lines (match_tests_of_request r) r (row s)

  abbrev Turns : SignedAtom → RequestPart → SignedAtom → Type 0
  Turns s = CouldTurnRowPart lines (undecided_by_files_or_paths r) (match_tests_of_request r) r (row s)

  abbrev test : Atom → Bool
  test = is_command_atom_match (command_with_joined_arguments_of_request r)

  abbrev undecided : SignedAtom → Bool
  undecided = (undecided_by_files_or_paths r).command

  -- where each part may hold
  may_by : {P : Type 0} {T W : SignedAtom → Type 0} (st : PartStanding) → IsPartStanding P T W st → may_part_hold st ≡ true → P ⊎ ((s : SignedAtom) × T s)
  may_by {P} {T} st x e = elim (or_parts st.holds st.could_turn e) as (λ _. P ⊎ ((s : SignedAtom) × T s)) [ inl t ↦ inl (x.holds t) | inr t ↦ inr (x.turned t) ]

  module _ (may : may_row_hold l.standing ≡ true) where
    abbrev st : RowStanding
    st = l.standing

    first : ((may_part_hold st.users && may_part_hold st.hosts && may_part_hold st.runas_users && may_part_hold st.runas_groups) ≡ true) × (st.is_in_time ≡ true)
    first = and_parts (may_part_hold st.users && may_part_hold st.hosts && may_part_hold st.runas_users && may_part_hold st.runas_groups) st.is_in_time may

    second : ((may_part_hold st.users && may_part_hold st.hosts && may_part_hold st.runas_users) ≡ true) × (may_part_hold st.runas_groups ≡ true)
    second = and_parts (may_part_hold st.users && may_part_hold st.hosts && may_part_hold st.runas_users) (may_part_hold st.runas_groups) first.0

    third : ((may_part_hold st.users && may_part_hold st.hosts) ≡ true) × (may_part_hold st.runas_users ≡ true)
    third = and_parts (may_part_hold st.users && may_part_hold st.hosts) (may_part_hold st.runas_users) second.0

    fourth : (may_part_hold st.users ≡ true) × (may_part_hold st.hosts ≡ true)
    fourth = and_parts (may_part_hold st.users) (may_part_hold st.hosts) third.0

    row_may_fit : (s : SignedAtom) → Holds s part.Command ⊎ ((t : SignedAtom) × Turns s part.Command t) → RowMayFitRequest lines (undecided_by_files_or_paths r) (match_tests_of_request r) r (row s)
    row_may_fit s m part.Users = may_by st.users h.users fourth.0
    row_may_fit s m part.Hosts = may_by st.hosts h.hosts fourth.1
    row_may_fit s m part.RunasUsers = may_by st.runas_users (runas_users lines r scopes head l h i j k) third.1
    row_may_fit s m part.RunasGroups = may_by st.runas_groups (runas_groups lines r scopes head l h i j k) second.1
    row_may_fit s m part.Moment = inl (sym h.moment ∙ first.1)
    row_may_fit s m part.Command = m

    -- each list of a part is flat
    users_are_flat : HasFlatList User lines (users_list l)
    users_are_flat = by (may_by st.users h.users fourth.0)
      where
        by : ListAllows User lines (match_tests_of_request r).user (members_of_view l.users) ⊎ ((s : SignedAtom) × CouldTurnList User lines (undecided_by_files_or_paths r).user (match_tests_of_request r).user false (members_of_view l.users) s)
            → HasFlatList User lines (users_list l)
        by (inl v) = record { flat = v.is_latest.flat; is_flat = v.is_latest.is_flat }
        by (inr t) = record { flat = t.1.flat; is_flat = t.1.is_flat }

    hosts_are_flat : HasFlatList Host lines (hosts_list l)
    hosts_are_flat = by (may_by st.hosts h.hosts fourth.1)
      where
        by : ListAllows Host lines (match_tests_of_request r).host (members_of_view l.hosts) ⊎ ((s : SignedAtom) × CouldTurnList Host lines (undecided_by_files_or_paths r).host (match_tests_of_request r).host false (members_of_view l.hosts) s)
            → HasFlatList Host lines (hosts_list l)
        by (inl v) = record { flat = v.is_latest.flat; is_flat = v.is_latest.is_flat }
        by (inr t) = record { flat = t.1.flat; is_flat = t.1.is_flat }

    runas_users_are_flat : (spec : RunasView) → l.runas ≡ Some spec → HasFlatList Runas lines (runas_users_list l spec)
    runas_users_are_flat spec is =
        let w = flat_runas_users lines r (members_of_view spec.users)
        (subst (λ (o : Option RunasView). RunasSpecAllowsUserByTests lines (match_tests_of_request r) r.who.user r.target (option_map runas_of_view o)
        ⊎ ((s : SignedAtom) × CouldTurnRunasSpecUsers lines (undecided_by_files_or_paths r) (match_tests_of_request r) (option_map runas_of_view o) s)) is (may_by st.runas_users h.runas_users third.1)) in
        record { flat = w.0; is_flat = w.1 }

    runas_groups_are_flat : (g : Group) → r.target_group ≡ Some g → (spec : RunasView) → l.runas ≡ Some spec → HasFlatList Runas lines (runas_groups_list l spec)
    runas_groups_are_flat g asked spec is =
        let w = flat_runas_groups lines r g (members_of_view spec.users) (members_of_view spec.groups)
        (subst (λ (o : Option Group). RunasListsAllowGroupByTests lines (match_tests_of_request r) r.who.user r.target o (members_of_view spec.users) (members_of_view spec.groups)
        ⊎ ((s : SignedAtom) × CouldTurnRunasGroupList lines (undecided_by_files_or_paths r) (match_tests_of_request r) r.target o (members_of_view spec.groups) s)) asked
        (subst (λ (o : Option RunasView). RunasSpecAllowsGroupByTests lines (match_tests_of_request r) r.who.user r.target r.target_group (option_map runas_of_view o)
        ⊎ ((s : SignedAtom) × CouldTurnRunasSpecGroups lines (undecided_by_files_or_paths r) (match_tests_of_request r) r.target r.target_group (option_map runas_of_view o) s)) is (may_by st.runas_groups h.runas_groups second.1))) in
        record { flat = w.0; is_flat = w.1 }

    pub added_lists_are_flat : (c e : CountedLists) (parts : CountedParts) (commands : List CountedList) → AddsOnlyListsOfParts c e l parts commands → AreFlat Cmnd lines commands → AreCountedListsFlat lines r c → AreCountedListsFlat lines r e
    added_lists_are_flat c e parts commands a cs f = record {
      users = λ x y. elim (a.users x y) as (λ _. HasFlatList User lines x) [ inl z ↦ f.users x z | inr z ↦ subst (HasFlatList User lines) (sym z.1) users_are_flat ];
      hosts = λ x y. elim (a.hosts x y) as (λ _. HasFlatList Host lines x) [ inl z ↦ f.hosts x z | inr z ↦ subst (HasFlatList Host lines) (sym z.1) hosts_are_flat ];
      runas_users = λ x y. elim (a.runas_users x y) as (λ _. HasFlatList Runas lines x) [ inl z ↦ f.runas_users x z | inr z ↦ subst (HasFlatList Runas lines) (sym z.3) (runas_users_are_flat z.1 z.2) ];
      runas_groups = of_groups r.target_group refl f.runas_groups;
      commands = λ x y. elim (a.commands x y) as (λ _. HasFlatList Cmnd lines x) [ inl z ↦ f.commands x z | inr z ↦ cs x z ];
    }
      where
        of_groups : (g : Option Group) → r.target_group ≡ g → AreGroupListsFlat lines g c.runas_groups.items → AreGroupListsFlat lines g e.runas_groups.items
        of_groups None is f = tt
        of_groups (Some g) is f = λ x y. elim (a.runas_groups x y) as (λ _. HasFlatList Runas lines x) [ inl z ↦ f x z | inr z ↦ subst (HasFlatList Runas lines) (sym z.3) (runas_groups_are_flat g is z.1 z.2) ]

  -- ---- which atoms are named

  -- One of the lists of these parts names the atom.
  abbrev IsNamedByParts : CountedParts → List CountedList → RequestPart → SignedAtom → Type 0
  IsNamedByParts parts commands part.Users t = (parts.users ≡ true) × ((s : SignedAtom) → Turns s part.Users t)
  IsNamedByParts parts commands part.Hosts t = (parts.hosts ≡ true) × ((s : SignedAtom) → Turns s part.Hosts t)
  IsNamedByParts parts commands part.RunasUsers t = (parts.runas_users ≡ true) × ((s : SignedAtom) → Turns s part.RunasUsers t)
  IsNamedByParts parts commands part.RunasGroups t = (parts.runas_groups ≡ true) × ((s : SignedAtom) → Turns s part.RunasGroups t)
  IsNamedByParts parts commands part.Moment t = ⊥
  IsNamedByParts parts commands part.Command t = IsWantedOfLists Cmnd lines undecided test commands t

  module _ (c e : CountedLists) (parts : CountedParts) (commands : List CountedList) (a : AddsOnlyListsOfParts c e l parts commands) where
    user_is_named : (t : SignedAtom) → CoversAtom lines r scopes e part.Users t → CoversAtom lines r scopes c part.Users t ⊎ IsNamedByParts parts commands part.Users t
    user_is_named t w = elim (a.users w.list w.stands) as (λ _. CoversAtom lines r scopes c part.Users t ⊎ IsNamedByParts parts commands part.Users t) [
      | inl old ↦ inl (record { list = w.list; stands = old; is_wanted = w.is_wanted })
      | inr new ↦ inr (
        new.0,
        λ s. h.users.only t
            (subst (λ (x : CountedList). IsWantedOfList User lines (is_bare_and_undecided (undecided_by_files_or_paths r).user) (match_tests_of_request r).user (members_of_view x.members) x.wanted t) new.1 w.is_wanted),
      )
    ]

    host_is_named : (t : SignedAtom) → CoversAtom lines r scopes e part.Hosts t → CoversAtom lines r scopes c part.Hosts t ⊎ IsNamedByParts parts commands part.Hosts t
    host_is_named t w = elim (a.hosts w.list w.stands) as (λ _. CoversAtom lines r scopes c part.Hosts t ⊎ IsNamedByParts parts commands part.Hosts t) [
      | inl old ↦ inl (record { list = w.list; stands = old; is_wanted = w.is_wanted })
      | inr new ↦ inr (
        new.0,
        λ s. h.hosts.only t
            (subst (λ (x : CountedList). IsWantedOfList Host lines (is_bare_and_undecided (undecided_by_files_or_paths r).host) (match_tests_of_request r).host (members_of_view x.members) x.wanted t) new.1 w.is_wanted),
      )
    ]

    runas_user_turns : (s t : SignedAtom) → IsWantedRunasUser lines r scopes l.standing.runas_users l.runas t → Turns s part.RunasUsers t
    runas_user_turns s t w = (runas_users lines r scopes head l h i j k).only t w

    runas_user_is_named : (t : SignedAtom) → CoversAtom lines r scopes e part.RunasUsers t → CoversAtom lines r scopes c part.RunasUsers t ⊎ IsNamedByParts parts commands part.RunasUsers t
    runas_user_is_named t (inl w) = elim (a.runas_users w.list w.stands) as (λ _. CoversAtom lines r scopes c part.RunasUsers t ⊎ IsNamedByParts parts commands part.RunasUsers t) [
      | inl old ↦ inl (inl (record { list = w.list; stands = old; is_wanted = w.is_wanted }))
      | inr new ↦ inr (
        new.0,
        λ s. runas_user_turns s t
            (subst (λ (o : Option RunasView). IsWantedRunasUser lines r scopes l.standing.runas_users o t) (sym new.2)
            (subst (λ (x : CountedList). IsWantedOfList Runas lines (is_bare_and_undecided (undecided_by_files_or_paths r).target) (match_tests_of_request r).target (members_of_view x.members) x.wanted t) new.3 w.is_wanted)),
      )
    ]
    runas_user_is_named t (inr w) = elim (a.default w.0) as (λ _. CoversAtom lines r scopes c part.RunasUsers t ⊎ IsNamedByParts parts commands part.RunasUsers t) [
      | inl old ↦ inl (inr (old, w.1))
      | inr new ↦ inr (new.0, λ s. runas_user_turns s t (subst (λ (o : Option RunasView). IsWantedRunasUser lines r scopes l.standing.runas_users o t) (sym new.1) w.1))
    ]

    runas_group_turns : (s t : SignedAtom) → IsWantedRunasGroup lines r l.standing.runas_groups l.runas t → Turns s part.RunasGroups t
    runas_group_turns s t w = (runas_groups lines r scopes head l h i j k).only t w

    abbrev NamesGroup : SignedAtom → Option Group → Type 0
    NamesGroup t g =
        IsWantedOfGroupLists lines r g c.runas_groups.items t
        ⊎ ((parts.runas_groups ≡ true) × (spec : RunasView) × (l.runas ≡ Some spec) × IsWantedGroupOf lines r g l.standing.runas_groups (members_of_view spec.groups) t)

    runas_group_is_named : (t : SignedAtom) → CoversAtom lines r scopes e part.RunasGroups t → CoversAtom lines r scopes c part.RunasGroups t ⊎ IsNamedByParts parts commands part.RunasGroups t
    runas_group_is_named t w = elim (by r.target_group w) as (λ _. CoversAtom lines r scopes c part.RunasGroups t ⊎ IsNamedByParts parts commands part.RunasGroups t) [
      | inl old ↦ inl old
      | inr new ↦ inr (new.0, λ s. runas_group_turns s t (subst (λ (o : Option RunasView). IsWantedRunasGroup lines r l.standing.runas_groups o t) (sym new.2) new.3))
    ]
      where
        by : (g : Option Group) → IsWantedOfGroupLists lines r g e.runas_groups.items t → NamesGroup t g
        by None w = absurd w
        by (Some g) w = elim (a.runas_groups w.list w.stands) as (λ _. NamesGroup t (Some g)) [
          | inl old ↦ inl (record { list = w.list; stands = old; is_wanted = w.is_wanted })
          | inr new ↦ inr (
            new.0,
            new.1,
            new.2,
            subst (λ (x : CountedList). IsWantedOfList Runas lines (is_bare_and_undecided ((undecided_by_files_or_paths r).group g)) ((match_tests_of_request r).group g) (members_of_view x.members) x.wanted t) new.3 w.is_wanted,
          )
        ]

    atom_is_named : (p : RequestPart) (t : SignedAtom) → CoversAtom lines r scopes e p t → CoversAtom lines r scopes c p t ⊎ IsNamedByParts parts commands p t
    atom_is_named part.Users t w = user_is_named t w
    atom_is_named part.Hosts t w = host_is_named t w
    atom_is_named part.RunasUsers t w = runas_user_is_named t w
    atom_is_named part.RunasGroups t w = runas_group_is_named t w
    atom_is_named part.Moment t w = absurd w
    atom_is_named part.Command t w = elim (a.commands w.list w.stands) as (λ _. CoversAtom lines r scopes c part.Command t ⊎ IsNamedByParts parts commands part.Command t) [
      | inl old ↦ inl (record { list = w.list; stands = old; is_wanted = w.is_wanted })
      | inr new ↦ inr (record { list = w.list; stands = new; is_wanted = w.is_wanted })
    ]

  -- ---- the row of an atom

  module _ (member : RowsOfTable MemberRow) (flat : List SignedAtom) (is_flat : IsFlatListOf Cmnd lines (members_of_view member) flat) (may : may_row_hold l.standing ≡ true) where
    one_of_rows : (before after : List SignedAtom) (s : SignedAtom) → flat ≡ before ++ s ∷ after → AllByRecursion (FitsNot lines r) (map row after) → (p : RequestPart) (t : SignedAtom)
        → CouldChangeWhetherRowFits lines (undecided_by_files_or_paths r) (match_tests_of_request r) r (row s) p t → CouldChangeOneOfRows lines r (map row flat) p t
    one_of_rows before after s is behind p t w = record { row = row s; before = map row before; after = map row after; stands = ap (map row) is ∙ map-append row before (s ∷ after); none_behind = behind; could = w }

    -- an atom of the command that is wanted
    wanted_atom_stands : (x : CountedList) → x.members ≡ member → (t : SignedAtom) → IsWantedOfList Cmnd lines undecided test (members_of_view x.members) x.wanted t
        → (before after : List SignedAtom) × (flat ≡ before ++ t ∷ after) × (undecided t ≡ true) × NoneMatchesUnlessAllWanted test x.wanted after
    wanted_atom_stands x same t w =
        let one : w.flat ≡ flat = one_flat Cmnd lines (members_of_view member) w.flat flat (subst (λ (m : RowsOfTable MemberRow). IsFlatListOf Cmnd lines (members_of_view m) w.flat) same w.is_flat) is_flat in
        (w.is_wanted.before, w.is_wanted.after, sym one ∙ w.is_wanted.stands, w.is_wanted.is_undecided, w.is_wanted.none_behind)

    row_of_atom : (before after : List SignedAtom) (t : SignedAtom) → flat ≡ before ++ t ∷ after → AllByRecursion (FitsNot lines r) (map row after) → undecided t ≡ true → CouldChangeOneOfRows lines r (map row flat) part.Command t
    row_of_atom before after t is behind u =
        one_of_rows before after t is behind part.Command t (record { may = row_may_fit may t (inr (t, (refl, u))); turns = (refl, u); counts = inr (λ m. undecided_command_matches_not r t u m) })

    -- a command that decides
    module _ (holds : does_row_hold l.standing ≡ true) (hit : is_some (last_hit_of_list test flat) ≡ true) where
      none_fit_behind : (after : List SignedAtom) → last_hit_of_list test after ≡ None → AllByRecursion (FitsNot lines r) (map row after)
      none_fit_behind after silent = no_row_fits lines r scopes head l h i j k after (λ s x fits. let clash : true ≡ false = sym (matching_atom_hits test after s x (fits part.Command)) ∙ ap is_some silent in cc)

      row_of_hit : (p : RequestPart) (t : SignedAtom) → ((s : SignedAtom) → Turns s p t) → CouldChangeOneOfRows lines r (map row flat) p t
      row_of_hit p t turns =
          let w = hit_is_of_last_match test flat hit in
          let fits : RowFitsRequestByTests lines (match_tests_of_request r) r (row w.atom) = holding_row_fits lines r scopes head l h i j k holds w.atom w.matches in
          one_of_rows w.before w.after w.atom w.stands (none_fit_behind w.after w.none_behind) p t (record { may = λ q. inl (fits q); turns = turns w.atom; counts = inl fits })

      pub deciding_command_names : (c e : CountedLists) → HasOnlyListsOfParts e l all_parts (command_list l.line member Allowing ∷ command_list l.line member Denying ∷ []) → NamesOnlyAtomsOfRows lines r scopes c e (map row flat)
      deciding_command_names c e a p t w = elim (atom_is_named a.start e all_parts commands a.only p t w) as (λ _. (CoversAtom lines r scopes c p t × AllByRecursion (FitsNot lines r) (map row flat)) ⊎ CouldChangeOneOfRows lines r (map row flat) p t) [
        | inl old ↦ absurd (no_lists_name_no_atom lines r scopes a.start a.empty p t old)
        | inr new ↦ inr (by p new)
      ]
        where
          commands : List CountedList
          commands = command_list l.line member Allowing ∷ command_list l.line member Denying ∷ []

          is_command : (x : CountedList) → ListHasElement commands x → (x.members ≡ member) × (is_all_wanted x.wanted ≡ false)
          is_command x (inl e) = (ap (λ (y : CountedList). y.members) (sym e), ap (λ (y : CountedList). is_all_wanted y.wanted) (sym e))
          is_command x (inr (inl e)) = (ap (λ (y : CountedList). y.members) (sym e), ap (λ (y : CountedList). is_all_wanted y.wanted) (sym e))
          is_command x (inr (inr n)) = absurd n

          by : (p : RequestPart) → IsNamedByParts all_parts commands p t → CouldChangeOneOfRows lines r (map row flat) p t
          by part.Users n = row_of_hit part.Users t n.1
          by part.Hosts n = row_of_hit part.Hosts t n.1
          by part.RunasUsers n = row_of_hit part.RunasUsers t n.1
          by part.RunasGroups n = row_of_hit part.RunasGroups t n.1
          by part.Moment n = absurd n
          by part.Command n =
              let x = is_command n.list n.stands in
              let at = wanted_atom_stands n.list x.0 t n.is_wanted in
              row_of_atom at.0 at.1 t at.2 (none_fit_behind at.1 (at.4 x.1)) at.3

    -- a command that does not decide
    module _ (not_both : does_row_hold l.standing ≡ true → is_some (last_hit_of_list test flat) ≡ true → ⊥) (matters : may_list_match (sway_of_atoms undecided test flat) ≡ true) where
      none_of_command_fits : (s : SignedAtom) → ListHasElement flat s → FitsNot lines r (row s)
      none_of_command_fits s x fits = not_both (fitting_row_holds lines r scopes head l h i j k s fits) (matching_atom_hits test flat s x (fits part.Command))

      behind_none_fits : (before after : List SignedAtom) (s : SignedAtom) → flat ≡ before ++ s ∷ after → AllByRecursion (FitsNot lines r) (map row after)
      behind_none_fits before after s is = no_row_fits lines r scopes head l h i j k after (λ u x. none_of_command_fits u (stands_behind before after flat s is u x))

      unheld : {P : Type 0} {T W : SignedAtom → Type 0} (st : PartStanding) → IsPartStanding P T W st → not st.holds ≡ true → P → ⊥
      unheld st x e p = let clash : false ≡ true = sym (ap not (x.held p)) ∙ e in cc

      row_that_matters : (p : RequestPart) (t : SignedAtom) → ((s : SignedAtom) → Turns s p t) → ((s : SignedAtom) → Holds s p → ⊥) → CouldChangeOneOfRows lines r (map row flat) p t
      row_that_matters p t turns fails =
          let w = matching_list_has_atom undecided test flat matters in
          let at = place_of_element flat w.0 w.1 in
          let command : Holds w.0 part.Command ⊎ ((u : SignedAtom) × Turns w.0 part.Command u) = elim w.2 as (λ _. Holds w.0 part.Command ⊎ ((u : SignedAtom) × Turns w.0 part.Command u)) [ inl m ↦ inl m | inr u ↦ inr (w.0, (refl, u)) ] in
          one_of_rows at.0 at.1 w.0 at.2 (behind_none_fits at.0 at.1 w.0 at.2) p t (record { may = row_may_fit may w.0 command; turns = turns w.0; counts = inr (fails w.0) })

      pub added_command_names : (c e : CountedLists) → AddsOnlyListsOfParts c e l (parts_without_hold_of l.standing) (command_list l.line member All ∷ []) → NamesOnlyAtomsOfRows lines r scopes c e (map row flat)
      added_command_names c e a p t w = elim (atom_is_named c e (parts_without_hold_of l.standing) commands a p t w) as (λ _. (CoversAtom lines r scopes c p t × AllByRecursion (FitsNot lines r) (map row flat)) ⊎ CouldChangeOneOfRows lines r (map row flat) p t) [
        | inl old ↦ inl (old, no_row_fits lines r scopes head l h i j k flat none_of_command_fits)
        | inr new ↦ inr (by p new)
      ]
        where
          commands : List CountedList
          commands = command_list l.line member All ∷ []

          by : (p : RequestPart) → IsNamedByParts (parts_without_hold_of l.standing) commands p t → CouldChangeOneOfRows lines r (map row flat) p t
          by part.Users n = row_that_matters part.Users t n.1 (λ s. unheld l.standing.users h.users n.0)
          by part.Hosts n = row_that_matters part.Hosts t n.1 (λ s. unheld l.standing.hosts h.hosts n.0)
          by part.RunasUsers n = row_that_matters part.RunasUsers t n.1 (λ s. unheld l.standing.runas_users (runas_users lines r scopes head l h i j k) n.0)
          by part.RunasGroups n = row_that_matters part.RunasGroups t n.1 (λ s. unheld l.standing.runas_groups (runas_groups lines r scopes head l h i j k) n.0)
          by part.Moment n = absurd n
          by part.Command n = of_command n
            where
              of_command : IsWantedOfLists Cmnd lines undecided test commands t → CouldChangeOneOfRows lines r (map row flat) part.Command t
              of_command n =
                  let at = wanted_atom_stands n.list (of_member n.list n.stands) t n.is_wanted in
                  row_of_atom at.0 at.1 t at.2 (behind_none_fits at.0 at.1 t at.2) at.3
                where
                  of_member : (x : CountedList) → ListHasElement commands x → x.members ≡ member
                  of_member x (inl e) = ap (λ (y : CountedList). y.members) (sym e)
                  of_member x (inr m) = absurd m
