-- The rows of a command: which atoms could have changed whether they fit.
use Rattle.std.proofs.Common.{◌≡◌, ◌⊎◌, inl, inr, ◌&&◌, ◌||◌, if◌then◌else◌, Bool, true, false, not, ℕ, List, [], ◌∷◌, ◌++◌, map, Option, Some, None, is_some, refl, sym, ap, subst, ◌∙◌, append_assoc}
use Rattle.std.specs.List.{AllByRecursion}
use Rattle.sudoers_grammar.specs.declared.node.Kind.TheVariants.{Cmnd}
use Rattle.sudoers_grammar.specs.declared.node.Atom.{Atom}
use Rattle.sudoers_grammar.specs.Node.{RunasSpec}
use Rattle.sudoers_line_rows.specs.declared.row_lists.RowsOfTable.{RowsOfTable}
use Rattle.sudoers_line_rows.specs.declared.rows.MemberRow.{MemberRow}
use Rattle.sudoers_line_rows.specs.declared.view.RunasSpec.{RunasSpec as RunasView}
use Rattle.sudoers_line_rows.specs.View.{members_of_view}
use Rattle.sudoers_tree.specs.Line.{Line}
use Rattle.sudoers_check.specs.Chain.{ListHasElement}
use Rattle.sudoers_match_member.specs.declared.people_and_commands.Group.{Group}
use Rattle.sudoers_match_member.specs.declared.request.Request.{Request}
use Rattle.sudoers_match_member.specs.Hits.{is_command_atom_match}
use Rattle.sudoers_match_list.specs.declared.verdict.MemberHit.{MemberHit}
use Rattle.sudoers_match_list.specs.Flat.{IsFlatListOf, SignedAtom, has_no_digests, hit_of_signed_atom, is_all_atom, last_hit_of_list, later_hit_if_any}
use Rattle.sudoers_match.specs.Answer.{command_with_joined_arguments_of_request, is_request_command_hit}
use Rattle.sudoers_match.specs.Heads.{AccumulatedCommandSettings}
use Rattle.sudoers_match.specs.Rows.{PrivilegeRow, privilege_row_of}
use Rattle.sudoers_undecided.specs.declared.asked_request.CommandLists.{CommandLists}
use Rattle.sudoers_undecided.specs.declared.asked_request.CountedParts.{CountedParts}
use Rattle.sudoers_undecided.specs.declared.asked_request.RowStanding.{RowStanding}
use Rattle.sudoers_undecided.specs.declared.counted_lists.CountedLists.{CountedLists}
use Rattle.sudoers_undecided.specs.declared.decided_aliases.PartStanding.{PartStanding}
use Rattle.sudoers_undecided.specs.declared.user_and_host_lists.UserAndHostLists.{UserAndHostLists}
use Rattle.sudoers_undecided.specs.declared.list_sway.ListSway.{ListSway}
use Rattle.sudoers_undecided.specs.declared.request_part.RequestPart.{RequestPart}
use Rattle.sudoers_undecided.specs.declared.request_part.RequestPart.TheVariants as part
use Rattle.sudoers_undecided.specs.declared.wanted_members.WantedMembers.TheVariants.{Allowing, Denying, All}
use Rattle.sudoers_undecided.specs.ListSway.{may_list_match, sway_of_atoms, sway_of_one_atom, sway_unless_later_hit}
use Rattle.sudoers_undecided.specs.MatchTests.{match_tests_of_request, undecided_by_files_or_paths}
use Rattle.sudoers_undecided.specs.RowParts.{CouldTurnRowPart, CouldTurnRunasSpecGroups, CouldTurnRunasSpecUsers, RowPartHolds, RunasSpecAllowsGroupByTests, RunasSpecAllowsUserByTests}
use Rattle.sudoers_undecided.specs.UndecidedAnswer.{CouldChangeWhetherRowFits, RowFitsRequestByTests, RowMayFitRequest}
use Rattle.sudoers_undecided.specs.internal.Counted.{AreCountedListsFlat, AreListsOfCommand, CountsRows, CoversAtom, CoversRows, FitsNot, HasListsOfParts, HasRunasGroups, HasRunasUsers, HaveGrown, IsPartStanding, IsWantedGroupOf, IsWantedOfGroupLists, IsWantedRunasGroup, IsWantedRunasUser, NamesOnlyAtomsOfRows, command_list, hosts_list, runas_groups_list, runas_users_list, users_list}
use Rattle.sudoers_undecided.specs.internal.Parts.{all_parts, does_row_hold, may_part_hold, may_row_hold, parts_without_hold_of}

-- ---- booleans

and_true : (a b : Bool) → a ≡ true → b ≡ true → (a && b) ≡ true
and_true true b p q = q
and_true false b p q = absurd cc

pub and_parts : (a b : Bool) → (a && b) ≡ true → (a ≡ true) × (b ≡ true)
and_parts true b e = (refl, e)
and_parts false b e = absurd cc

or_left : (a b : Bool) → a ≡ true → (a || b) ≡ true
or_left true b e = refl
or_left false b e = absurd cc

or_right : (a b : Bool) → b ≡ true → (a || b) ≡ true
or_right true b e = refl
or_right false b e = e

pub or_parts : (a b : Bool) → (a || b) ≡ true → (a ≡ true) ⊎ (b ≡ true)
or_parts true b e = inl refl
or_parts false b e = inr e

true_or_false : (b : Bool) → (b ≡ true) ⊎ (b ≡ false)
true_or_false true = inl refl
true_or_false false = inr refl

-- ---- hits of flat lists

pub matching_atom_hits : (test : Atom → Bool) (fs : List SignedAtom) (s : SignedAtom) → ListHasElement fs s → (test s.atom && has_no_digests s.digests) ≡ true → is_some (last_hit_of_list test fs) ≡ true
matching_atom_hits test [] s h e = absurd h
matching_atom_hits test (t ∷ fs) s (inl same) e =
    by (last_hit_of_list test fs)
    (ap (λ (b : Bool). is_some {T = MemberHit} (if b then Some (record { allow = t.allow; by_all = is_all_atom t.atom }) else None)) (ap (λ (x : SignedAtom). test x.atom && has_no_digests x.digests) same ∙ e))
  where
    by : (l : Option MemberHit) → is_some (hit_of_signed_atom test t) ≡ true → is_some (later_hit_if_any (hit_of_signed_atom test t) l) ≡ true
    by None e = e
    by (Some x) e = refl
matching_atom_hits test (t ∷ fs) s (inr h) e = by (last_hit_of_list test fs) (matching_atom_hits test fs s h e)
  where
    by : (l : Option MemberHit) → is_some l ≡ true → is_some (later_hit_if_any (hit_of_signed_atom test t) l) ≡ true
    by None e = absurd cc
    by (Some x) e = refl

pub hit_is_of_match : (b : Bool) (x : MemberHit) → is_some {T = MemberHit} (if b then Some x else None) ≡ true → b ≡ true
hit_is_of_match true x e = refl
hit_is_of_match false x e = absurd cc

pub hit_has_atom : (test : Atom → Bool) (fs : List SignedAtom) → is_some (last_hit_of_list test fs) ≡ true → (s : SignedAtom) × ListHasElement fs s × ((test s.atom && has_no_digests s.digests) ≡ true)
hit_has_atom test [] e = absurd cc
hit_has_atom test (t ∷ fs) e = by (last_hit_of_list test fs) refl e (hit_has_atom test fs)
  where
    by : (l : Option MemberHit) → last_hit_of_list test fs ≡ l → is_some (later_hit_if_any (hit_of_signed_atom test t) l) ≡ true
        → (is_some (last_hit_of_list test fs) ≡ true → (s : SignedAtom) × ListHasElement fs s × ((test s.atom && has_no_digests s.digests) ≡ true)) → (s : SignedAtom) × ListHasElement (t ∷ fs) s × ((test s.atom && has_no_digests s.digests) ≡ true)
    by None is e ih = (t, inl refl, hit_is_of_match (test t.atom && has_no_digests t.digests) (record { allow = t.allow; by_all = is_all_atom t.atom }) e)
    by (Some x) is e ih = let w = ih (ap is_some is) in (w.0, inr w.1, w.2)

pub no_match_no_hit : (test : Atom → Bool) (fs : List SignedAtom) → ((s : SignedAtom) → ListHasElement fs s → (test s.atom && has_no_digests s.digests) ≡ true → ⊥) → last_hit_of_list test fs ≡ None
no_match_no_hit test fs none = by (last_hit_of_list test fs) refl
  where
    by : (l : Option MemberHit) → last_hit_of_list test fs ≡ l → last_hit_of_list test fs ≡ None
    by None e = e
    by (Some x) e = let w = hit_has_atom test fs (ap is_some e) in absurd (none w.0 w.1 w.2)

-- ---- what may match

module _ (undecided : SignedAtom → Bool) (test : Atom → Bool) where
  may_by_undecided : (s : SignedAtom) (u : Bool) → u ≡ true → ((u && s.allow) || (u && not s.allow)) ≡ true
  may_by_undecided s true e = by s.allow
    where
      by : (a : Bool) → (a || not a) ≡ true
      by true = refl
      by false = refl
  may_by_undecided s false e = absurd cc

  three : (h a d : Bool) → (h ≡ true) ⊎ ((a || d) ≡ true) → (h || a || d) ≡ true
  three h a d (inl e) = or_left (h || a) d (or_left h a e)
  three h a d (inr e) = elim (or_parts a d e) as (λ _. (h || a || d) ≡ true) [ inl x ↦ or_left (h || a) d (or_right h a x) | inr x ↦ or_right (h || a) d x ]

  of_three : (h a d : Bool) → (h || a || d) ≡ true → (h ≡ true) ⊎ ((a || d) ≡ true)
  of_three h a d e = elim (or_parts (h || a) d e) as (λ _. (h ≡ true) ⊎ ((a || d) ≡ true)) [
    | inl x ↦ elim (or_parts h a x) as (λ _. (h ≡ true) ⊎ ((a || d) ≡ true)) [ inl y ↦ inl y | inr y ↦ inr (or_left a d y) ]
    | inr x ↦ inr (or_right a d x)
  ]

  first_may : (a b : ListSway) → may_list_match a ≡ true → may_list_match (sway_unless_later_hit b.hit a b) ≡ true
  first_may a b e = by b.hit refl
    where
      by : (h : Option MemberHit) → b.hit ≡ h → may_list_match (sway_unless_later_hit h a b) ≡ true
      by (Some x) is = three (is_some b.hit) b.to_allow b.to_deny (inl (ap is_some is))
      by None is = three (is_some a.hit) (a.to_allow || b.to_allow) (a.to_deny || b.to_deny) (elim (of_three (is_some a.hit) a.to_allow a.to_deny e) as (λ _. (is_some a.hit ≡ true) ⊎ (((a.to_allow || b.to_allow) || (a.to_deny || b.to_deny)) ≡ true)) [
        | inl x ↦ inl x
        | inr x ↦ inr (elim (or_parts a.to_allow a.to_deny x) as (λ _. ((a.to_allow || b.to_allow) || (a.to_deny || b.to_deny)) ≡ true) [
          | inl y ↦ or_left (a.to_allow || b.to_allow) (a.to_deny || b.to_deny) (or_left a.to_allow b.to_allow y)
          | inr y ↦ or_right (a.to_allow || b.to_allow) (a.to_deny || b.to_deny) (or_left a.to_deny b.to_deny y)
        ])
      ])

  later_may : (a b : ListSway) → may_list_match b ≡ true → may_list_match (sway_unless_later_hit b.hit a b) ≡ true
  later_may a b e = by b.hit refl
    where
      by : (h : Option MemberHit) → b.hit ≡ h → may_list_match (sway_unless_later_hit h a b) ≡ true
      by (Some x) is = e
      by None is = three (is_some a.hit) (a.to_allow || b.to_allow) (a.to_deny || b.to_deny) (elim (of_three (is_some b.hit) b.to_allow b.to_deny e) as (λ _. (is_some a.hit ≡ true) ⊎ (((a.to_allow || b.to_allow) || (a.to_deny || b.to_deny)) ≡ true)) [
        | inl x ↦ let clash : true ≡ false = sym x ∙ ap is_some is in absurd cc
        | inr x ↦ inr (elim (or_parts b.to_allow b.to_deny x) as (λ _. ((a.to_allow || b.to_allow) || (a.to_deny || b.to_deny)) ≡ true) [
          | inl y ↦ or_left (a.to_allow || b.to_allow) (a.to_deny || b.to_deny) (or_right a.to_allow b.to_allow y)
          | inr y ↦ or_right (a.to_allow || b.to_allow) (a.to_deny || b.to_deny) (or_right a.to_deny b.to_deny y)
        ])
      ])

  one_may : (s : SignedAtom) → ((test s.atom && has_no_digests s.digests) ≡ true) ⊎ (undecided s ≡ true) → may_list_match (sway_of_one_atom undecided test s) ≡ true
  one_may s (inl e) = three (is_some (hit_of_signed_atom test s)) (undecided s && s.allow) (undecided s && not s.allow)
      (inl (ap (λ (b : Bool). is_some {T = MemberHit} (if b then Some (record { allow = s.allow; by_all = is_all_atom s.atom }) else None)) e))
  one_may s (inr e) = three (is_some (hit_of_signed_atom test s)) (undecided s && s.allow) (undecided s && not s.allow) (inr (may_by_undecided s (undecided s) e))

  pub atom_may_match : (fs : List SignedAtom) (s : SignedAtom) → ListHasElement fs s → ((test s.atom && has_no_digests s.digests) ≡ true) ⊎ (undecided s ≡ true) → may_list_match (sway_of_atoms undecided test fs) ≡ true
  atom_may_match [] s h e = absurd h
  atom_may_match (t ∷ fs) s (inl same) e = first_may (sway_of_one_atom undecided test t) (sway_of_atoms undecided test fs) (subst (λ x. may_list_match (sway_of_one_atom undecided test x) ≡ true) (sym same) (one_may s e))
  atom_may_match (t ∷ fs) s (inr h) e = later_may (sway_of_one_atom undecided test t) (sway_of_atoms undecided test fs) (atom_may_match fs s h e)

stands_in : {X : Type 0} (before after xs : List X) (x : X) → xs ≡ before ++ x ∷ after → ListHasElement xs x
stands_in before after xs x e = subst (λ ys. ListHasElement ys x) (sym e) (in_middle before)
  where
    in_middle : (ys : List _) → ListHasElement (ys ++ x ∷ after) x
    in_middle [] = inl refl
    in_middle (y ∷ ys) = inr (in_middle ys)

-- ---- rows of a command

module _ (lines : List Line) (r : Request) (scopes : UserAndHostLists) (head : AccumulatedCommandSettings) (l : CommandLists) (h : AreListsOfCommand lines r scopes head l) (i j k : ℕ) where
  abbrev row : SignedAtom → PrivilegeRow
  row = privilege_row_of i j (members_of_view l.users) (members_of_view l.hosts) k head

  abbrev Holds : SignedAtom → RequestPart → Type 0
  Holds s = RowPartHolds lines (match_tests_of_request r) r (row s)

  abbrev Turns : SignedAtom → RequestPart → SignedAtom → Type 0
  Turns s = CouldTurnRowPart lines (undecided_by_files_or_paths r) (match_tests_of_request r) r (row s)

  pub runas_users : IsPartStanding (RunasSpecAllowsUserByTests lines (match_tests_of_request r) r.who.user r.target head.runas) (CouldTurnRunasSpecUsers lines (undecided_by_files_or_paths r) (match_tests_of_request r) head.runas)
      (IsWantedRunasUser lines r scopes l.standing.runas_users l.runas) l.standing.runas_users
  runas_users = subst (λ (o : Option RunasSpec). IsPartStanding (RunasSpecAllowsUserByTests lines (match_tests_of_request r) r.who.user r.target o) (CouldTurnRunasSpecUsers lines (undecided_by_files_or_paths r) (match_tests_of_request r) o)
      (IsWantedRunasUser lines r scopes l.standing.runas_users l.runas) l.standing.runas_users) h.runas_are h.runas_users

  pub runas_groups : IsPartStanding (RunasSpecAllowsGroupByTests lines (match_tests_of_request r) r.who.user r.target r.target_group head.runas) (CouldTurnRunasSpecGroups lines (undecided_by_files_or_paths r) (match_tests_of_request r) r.target r.target_group head.runas)
      (IsWantedRunasGroup lines r l.standing.runas_groups l.runas) l.standing.runas_groups
  runas_groups = subst (λ (o : Option RunasSpec). IsPartStanding (RunasSpecAllowsGroupByTests lines (match_tests_of_request r) r.who.user r.target r.target_group o) (CouldTurnRunasSpecGroups lines (undecided_by_files_or_paths r) (match_tests_of_request r) r.target r.target_group o)
      (IsWantedRunasGroup lines r l.standing.runas_groups l.runas) l.standing.runas_groups) h.runas_are h.runas_groups

  may_by : {P : Type 0} {T W : SignedAtom → Type 0} (st : PartStanding) → IsPartStanding P T W st → P ⊎ ((s : SignedAtom) × T s) → may_part_hold st ≡ true
  may_by st x (inl p) = or_left st.holds st.could_turn (x.held p)
  may_by st x (inr t) = or_right st.holds st.could_turn (x.turns t.0 t.1)

  in_time : (s : SignedAtom) → RowMayFitRequest lines (undecided_by_files_or_paths r) (match_tests_of_request r) r (row s) → l.standing.is_in_time ≡ true
  in_time s may = elim (may part.Moment) as (λ _. l.standing.is_in_time ≡ true) [ inl e ↦ h.moment ∙ e | inr t ↦ absurd t.1 ]

  pub row_may_hold : (s : SignedAtom) → RowMayFitRequest lines (undecided_by_files_or_paths r) (match_tests_of_request r) r (row s) → may_row_hold l.standing ≡ true
  row_may_hold s may =
      let st = l.standing in
      let a : may_part_hold st.users ≡ true = may_by st.users h.users (may part.Users) in
      let b : may_part_hold st.hosts ≡ true = may_by st.hosts h.hosts (may part.Hosts) in
      let c : may_part_hold st.runas_users ≡ true = may_by st.runas_users runas_users (may part.RunasUsers) in
      let d : may_part_hold st.runas_groups ≡ true = may_by st.runas_groups runas_groups (may part.RunasGroups) in
      and_true (may_part_hold st.users && may_part_hold st.hosts && may_part_hold st.runas_users && may_part_hold st.runas_groups) st.is_in_time
      (and_true (may_part_hold st.users && may_part_hold st.hosts && may_part_hold st.runas_users) (may_part_hold st.runas_groups)
      (and_true (may_part_hold st.users && may_part_hold st.hosts) (may_part_hold st.runas_users) (and_true (may_part_hold st.users) (may_part_hold st.hosts) a b) c) d) (in_time s may)

  pub fitting_row_holds : (s : SignedAtom) → RowFitsRequestByTests lines (match_tests_of_request r) r (row s) → does_row_hold l.standing ≡ true
  fitting_row_holds s fits =
      let st = l.standing in
      and_true (st.users.holds && st.hosts.holds && st.runas_users.holds && st.runas_groups.holds) st.is_in_time
      (and_true (st.users.holds && st.hosts.holds && st.runas_users.holds) st.runas_groups.holds
      (and_true (st.users.holds && st.hosts.holds) st.runas_users.holds (and_true st.users.holds st.hosts.holds (h.users.held (fits part.Users)) (h.hosts.held (fits part.Hosts))) (runas_users.held (fits part.RunasUsers)))
      (runas_groups.held (fits part.RunasGroups))) (h.moment ∙ fits part.Moment)

  pub holding_row_fits : does_row_hold l.standing ≡ true → (s : SignedAtom) → is_request_command_hit r s ≡ true → RowFitsRequestByTests lines (match_tests_of_request r) r (row s)
  holding_row_fits e s hit = by
    where
      st : RowStanding
      st = l.standing

      a : ((st.users.holds && st.hosts.holds && st.runas_users.holds && st.runas_groups.holds) ≡ true) × (st.is_in_time ≡ true)
      a = and_parts (st.users.holds && st.hosts.holds && st.runas_users.holds && st.runas_groups.holds) st.is_in_time e

      b : ((st.users.holds && st.hosts.holds && st.runas_users.holds) ≡ true) × (st.runas_groups.holds ≡ true)
      b = and_parts (st.users.holds && st.hosts.holds && st.runas_users.holds) st.runas_groups.holds a.0

      c : ((st.users.holds && st.hosts.holds) ≡ true) × (st.runas_users.holds ≡ true)
      c = and_parts (st.users.holds && st.hosts.holds) st.runas_users.holds b.0

      d : (st.users.holds ≡ true) × (st.hosts.holds ≡ true)
      d = and_parts st.users.holds st.hosts.holds c.0

      by : (p : RequestPart) → RowPartHolds lines (match_tests_of_request r) r (row s) p
      by part.Users = h.users.holds d.0
      by part.Hosts = h.hosts.holds d.1
      by part.RunasUsers = runas_users.holds c.1
      by part.RunasGroups = runas_groups.holds b.1
      by part.Moment = sym h.moment ∙ a.1
      by part.Command = hit

  -- the lists that are there name the atoms that could turn a part
  module _ (c : CountedLists) (parts : CountedParts) (has : HasListsOfParts c l parts) where
    users_covered : (s t : SignedAtom) → parts.users ≡ true → Turns s part.Users t → CoversAtom lines r scopes c part.Users t
    users_covered s t e w = record { list = users_list l; stands = has.users e; is_wanted = h.users.wanted t w }

    hosts_covered : (s t : SignedAtom) → parts.hosts ≡ true → Turns s part.Hosts t → CoversAtom lines r scopes c part.Hosts t
    hosts_covered s t e w = record { list = hosts_list l; stands = has.hosts e; is_wanted = h.hosts.wanted t w }

    runas_users_covered : (s t : SignedAtom) → parts.runas_users ≡ true → Turns s part.RunasUsers t → CoversAtom lines r scopes c part.RunasUsers t
    runas_users_covered s t e w = by l.runas (has.runas_users e) (runas_users.wanted t w)
      where
        by : (o : Option RunasView) → HasRunasUsers c l o → IsWantedRunasUser lines r scopes l.standing.runas_users o t → CoversAtom lines r scopes c part.RunasUsers t
        by None x y = inr (x, y)
        by (Some spec) x y = inl (record { list = runas_users_list l spec; stands = x; is_wanted = y })

    runas_groups_covered : (s t : SignedAtom) → parts.runas_groups ≡ true → Turns s part.RunasGroups t → CoversAtom lines r scopes c part.RunasGroups t
    runas_groups_covered s t e w = by l.runas (has.runas_groups e) (runas_groups.wanted t w)
      where
        of_group : (spec : RunasView) (g : Option Group) → ListHasElement c.runas_groups.items (runas_groups_list l spec) → IsWantedGroupOf lines r g l.standing.runas_groups (members_of_view spec.groups) t → IsWantedOfGroupLists lines r g c.runas_groups.items t
        of_group spec None x y = y
        of_group spec (Some g) x y = record { list = runas_groups_list l spec; stands = x; is_wanted = y }

        by : (o : Option RunasView) → HasRunasGroups c l o → IsWantedRunasGroup lines r l.standing.runas_groups o t → CoversAtom lines r scopes c part.RunasGroups t
        by None x y = absurd y
        by (Some spec) x y = of_group spec r.target_group x y

  -- each row of the list is counted
  covers_each : (e : CountedLists) (flat : List SignedAtom)
      → ((before after : List SignedAtom) (s : SignedAtom) → flat ≡ before ++ s ∷ after → AllByRecursion (FitsNot lines r) (map row after) → (p : RequestPart) (t : SignedAtom)
      → CouldChangeWhetherRowFits lines (undecided_by_files_or_paths r) (match_tests_of_request r) r (row s) p t → CoversAtom lines r scopes e p t)
      → (before rest : List SignedAtom) → flat ≡ before ++ rest → CoversRows lines r scopes e (map row rest)
  covers_each e flat each before [] is = tt
  covers_each e flat each before (s ∷ rest) is = ((λ none p t w. each before rest s is none p t w), covers_each e flat each (before ++ s ∷ []) rest (is ∙ sym (append_assoc before (s ∷ []) rest)))

  pub no_row_fits : (fs : List SignedAtom) → ((s : SignedAtom) → ListHasElement fs s → FitsNot lines r (row s)) → AllByRecursion (FitsNot lines r) (map row fs)
  no_row_fits [] n = tt
  no_row_fits (s ∷ fs) n = (n s (inl refl), no_row_fits fs (λ u x. n u (inr x)))

  -- no row may fit
  pub no_row_may_fit : (c : CountedLists) (flat : List SignedAtom) → ((s : SignedAtom) → ListHasElement flat s → RowMayFitRequest lines (undecided_by_files_or_paths r) (match_tests_of_request r) r (row s) → ⊥)
      → CountsRows lines r scopes c c (map row flat)
  no_row_may_fit c flat none = record {
    fits = inr (record { users = λ x y. y; hosts = λ x y. y; runas_users = λ x y. y; runas_groups = λ x y. y; commands = λ x y. y; default = λ x. x });
    covers = covers_each c flat (λ before after s is _ p t w. absurd (none s (stands_in before after flat s is) w.may)) [] flat refl;
    only = λ p t w. inl (w, no_row_fits flat (λ s x fits. none s x (λ p. inl (fits p))));
    flats = λ f. f;
  }

  module _ (member : RowsOfTable MemberRow) (flat : List SignedAtom) (is_flat : IsFlatListOf Cmnd lines (members_of_view member) flat) (e : CountedLists) where
    abbrev test : Atom → Bool
    test = is_command_atom_match (command_with_joined_arguments_of_request r)

    -- a command that does not decide
    pub command_is_added : (c : CountedLists) → HaveGrown c e → HasListsOfParts e l (parts_without_hold_of l.standing) → ListHasElement e.commands.items (command_list l.line member All)
        → (does_row_hold l.standing ≡ true → is_some (last_hit_of_list test flat) ≡ true → ⊥) → NamesOnlyAtomsOfRows lines r scopes c e (map row flat) → (AreCountedListsFlat lines r c → AreCountedListsFlat lines r e)
        → CountsRows lines r scopes c e (map row flat)
    command_is_added c grown has all not_both only flats = record { fits = inr grown; covers = covers_each e flat each [] flat refl; only = only; flats = flats }
      where
        flag : {P : Type 0} {T W : SignedAtom → Type 0} (st : PartStanding) → IsPartStanding P T W st → (P → ⊥) → not st.holds ≡ true
        flag st x n = elim (true_or_false st.holds) as (λ _. not st.holds ≡ true) [ inl t ↦ absurd (n (x.holds t)) | inr f ↦ ap not f ]

        each : (before after : List SignedAtom) (s : SignedAtom) → flat ≡ before ++ s ∷ after → AllByRecursion (FitsNot lines r) (map row after) → (p : RequestPart) (t : SignedAtom)
            → CouldChangeWhetherRowFits lines (undecided_by_files_or_paths r) (match_tests_of_request r) r (row s) p t → CoversAtom lines r scopes e p t
        each before after s is none p t w = by p w.turns unfit
          where
            unfit : RowPartHolds lines (match_tests_of_request r) r (row s) p → ⊥
            unfit = elim w.counts as (λ _. RowPartHolds lines (match_tests_of_request r) r (row s) p → ⊥) [
              | inl fits ↦ absurd (not_both (fitting_row_holds s fits) (matching_atom_hits test flat s (stands_in before after flat s is) (fits part.Command)))
              | inr n ↦ n
            ]

            by : (p : RequestPart) → Turns s p t → (Holds s p → ⊥) → CoversAtom lines r scopes e p t
            by part.Users x n = users_covered e (parts_without_hold_of l.standing) has s t (flag l.standing.users h.users n) x
            by part.Hosts x n = hosts_covered e (parts_without_hold_of l.standing) has s t (flag l.standing.hosts h.hosts n) x
            by part.RunasUsers x n = runas_users_covered e (parts_without_hold_of l.standing) has s t (flag l.standing.runas_users runas_users n) x
            by part.RunasGroups x n = runas_groups_covered e (parts_without_hold_of l.standing) has s t (flag l.standing.runas_groups runas_groups n) x
            by part.Moment x n = x
            by part.Command x n = record {
              list = command_list l.line member All;
              stands = all;
              is_wanted = record { flat = flat; is_flat = is_flat; is_wanted = record { before = before; after = after; stands = is ∙ ap (λ u. before ++ u ∷ after) (sym x.0); is_undecided = x.1; none_behind = λ clash. absurd cc; sign = refl } };
            }

    -- a command that decides
    pub command_decides : (c : CountedLists) → HasListsOfParts e l all_parts → ListHasElement e.commands.items (command_list l.line member Allowing) → ListHasElement e.commands.items (command_list l.line member Denying)
        → does_row_hold l.standing ≡ true → is_some (last_hit_of_list test flat) ≡ true → NamesOnlyAtomsOfRows lines r scopes c e (map row flat) → (AreCountedListsFlat lines r c → AreCountedListsFlat lines r e)
        → CountsRows lines r scopes c e (map row flat)
    command_decides c has allowing denying holds hit only flats = record { fits = inl fits; covers = covers_each e flat each [] flat refl; only = only; flats = flats }
      where
        none_at : (fs : List SignedAtom) (s : SignedAtom) → ListHasElement fs s → AllByRecursion (FitsNot lines r) (map row fs) → RowFitsRequestByTests lines (match_tests_of_request r) r (row s) → ⊥
        none_at [] s x none f = x
        none_at (u ∷ fs) s (inl same) none f = none.0 (subst (λ y. RowFitsRequestByTests lines (match_tests_of_request r) r (row y)) (sym same) f)
        none_at (u ∷ fs) s (inr x) none f = none_at fs s x none.1 f

        fits : AllByRecursion (FitsNot lines r) (map row flat) → ⊥
        fits none = let w = hit_has_atom test flat hit in none_at flat w.0 w.1 none (holding_row_fits holds w.0 w.2)

        each : (before after : List SignedAtom) (s : SignedAtom) → flat ≡ before ++ s ∷ after → AllByRecursion (FitsNot lines r) (map row after) → (p : RequestPart) (t : SignedAtom)
            → CouldChangeWhetherRowFits lines (undecided_by_files_or_paths r) (match_tests_of_request r) r (row s) p t → CoversAtom lines r scopes e p t
        each before after s is none p t w = by p w.turns
          where
            silent : last_hit_of_list test after ≡ None
            silent = no_match_no_hit test after (λ u x m. none_at after u x none (holding_row_fits holds u m))

            wanted : (a : Bool) → s.allow ≡ a → t ≡ s → (undecided_by_files_or_paths r).command t ≡ true → CoversAtom lines r scopes e part.Command t
            wanted true sign same o = record {
              list = command_list l.line member Allowing;
              stands = allowing;
              is_wanted = record { flat = flat; is_flat = is_flat; is_wanted = record { before = before; after = after; stands = is ∙ ap (λ u. before ++ u ∷ after) (sym same); is_undecided = o; none_behind = λ _. silent; sign = ap (λ (u : SignedAtom). u.allow) same ∙ sign } };
            }
            wanted false sign same o = record {
              list = command_list l.line member Denying;
              stands = denying;
              is_wanted = record { flat = flat; is_flat = is_flat; is_wanted = record { before = before; after = after; stands = is ∙ ap (λ u. before ++ u ∷ after) (sym same); is_undecided = o; none_behind = λ _. silent; sign = ap (λ (u : SignedAtom). not u.allow) same ∙ ap not sign } };
            }

            by : (p : RequestPart) → Turns s p t → CoversAtom lines r scopes e p t
            by part.Users x = users_covered e all_parts has s t refl x
            by part.Hosts x = hosts_covered e all_parts has s t refl x
            by part.RunasUsers x = runas_users_covered e all_parts has s t refl x
            by part.RunasGroups x = runas_groups_covered e all_parts has s t refl x
            by part.Moment x = x
            by part.Command x = wanted s.allow refl x.0 x.1
