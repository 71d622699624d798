-- Policies whose user specifications say the same, command by command, have equal rows, and so the same answers.
use Rattle.sudoers_match.proofs.Common.{Answer, AreAllRunasDefaultsAlike, AreCommandSettingsAlike, AreCommandsWithSettingsAlike, AreHostGroupsAlike, AreHostListsAlike, ArePlacesOfMatchingHostGroups, AreTwoRowsAlikeWithSpecNumbers}
use Rattle.sudoers_match.proofs.Common.{AreRowsPerFlatAtomOfCommand, AreRowsPerFlatAtomOfHostGroup, AreRowsPerFlatAtomOfPolicy, AreRowsPerFlatAtomOfSpec, AreSpecUsersAndHostsAlike, AreUserSpecsAlike, Atom, HaveSameFlatListAfterRewrite, Host, HostGroup}
use Rattle.sudoers_match.proofs.Common.{HostGroupPlace, IsAnswerToRequest, IsPointwiseRelated, KeepsAtomMatches, Line, List, Member, None, Option, PrivilegeRow, Request, RowFitsRequest, AccumulatedCommandSettings, SignedAtom}
use Rattle.sudoers_match.proofs.Common.{Some, User, UserSpec, Who, [], ap, commands_with_settings, empty_command_settings, map, privilege_row_of, refl, signed_atom_with_atom_mapped, subst, sym, user_specs_of_lines, ℕ, ◌↔◌}
use Rattle.sudoers_match.proofs.Common.{◌∙◌, ◌∷◌}
use Rattle.sudoers_match.proofs.Alike.{AlikeListsHaveSameVerdict, AreOptionsRelated, pointwise_relation_is_weakened, pointwise_relation_is_reversed, related_parts_give_related_concatenation, last_alike, equivalence_is_reversed, told_equal, alike_rows_fit_same_requests, alike_numbered_rows_have_same_answer}
use Rattle.sudoers_match.proofs.GroupsAlike.{alike_specs_have_same_host_groups}

module _ (write : Atom → Atom) (lines others : List Line) where
  abbrev RowsEqual : PrivilegeRow → PrivilegeRow → Type 0
  RowsEqual r s = AreTwoRowsAlikeWithSpecNumbers write lines others r s

  -- the same, from the second policy to the first
  abbrev WasEqual : PrivilegeRow → PrivilegeRow → Type 0
  WasEqual s r = AreTwoRowsAlikeWithSpecNumbers write lines others r s

  module _ (i j : ℕ) (users peers hosts places : List Member) (same_users : HaveSameFlatListAfterRewrite write User lines others users peers)
      (same_hosts : HaveSameFlatListAfterRewrite write Host lines others hosts places) where
    row_equal : (k : ℕ) (h g : AccumulatedCommandSettings) → AreCommandSettingsAlike write lines others h g → (s : SignedAtom)
        → RowsEqual (privilege_row_of i j users hosts k h s) (privilege_row_of i j peers places k g (signed_atom_with_atom_mapped write s))
    row_equal k h g same s = record {
      alike = record { users = same_users; hosts = same_hosts; runas = same.runas; options = same.options; tags = same.tags; atom = refl };
      spec = refl;
      host_group = refl;
      command = refl;
    }

    rows_equal : (k : ℕ) (h g : AccumulatedCommandSettings) → AreCommandSettingsAlike write lines others h g → (flat : List SignedAtom)
        → IsPointwiseRelated RowsEqual (map (privilege_row_of i j users hosts k h) flat) (map (privilege_row_of i j peers places k g) (map (signed_atom_with_atom_mapped write) flat))
    rows_equal k h g same [] = tt
    rows_equal k h g same (s ∷ flat) = (row_equal k h g same s, rows_equal k h g same flat)

    command_there : (k : ℕ) (c d : AccumulatedCommandSettings × Member) (rows : List PrivilegeRow) → AreCommandsWithSettingsAlike write lines others c d → AreRowsPerFlatAtomOfCommand lines i j users hosts k c rows
        → (likes : List PrivilegeRow) × AreRowsPerFlatAtomOfCommand others i j peers places k d likes × IsPointwiseRelated RowsEqual rows likes
    command_there k c d rows same are =
        let flat = map (signed_atom_with_atom_mapped write) are.0 in (
          map (privilege_row_of i j peers places k d.0) flat,
          (flat, same.member.there are.0 are.1, refl),
          subst (λ xs. IsPointwiseRelated RowsEqual xs (map (privilege_row_of i j peers places k d.0) flat)) (sym are.2) (rows_equal k c.0 d.0 same.head are.0),
        )

    command_back : (k : ℕ) (d c : AccumulatedCommandSettings × Member) (rows : List PrivilegeRow) → AreCommandsWithSettingsAlike write lines others c d → AreRowsPerFlatAtomOfCommand others i j peers places k d rows
        → (was : List PrivilegeRow) × AreRowsPerFlatAtomOfCommand lines i j users hosts k c was × IsPointwiseRelated WasEqual rows was
    command_back k d c rows same are =
        let found = same.member.back are.0 are.1 in
        let was = map (privilege_row_of i j users hosts k c.0) found.0 in
        let likes = map (privilege_row_of i j peers places k d.0) (map (signed_atom_with_atom_mapped write) found.0) in (
          was,
          (found.0, found.1, refl),
          subst (λ xs. IsPointwiseRelated WasEqual xs was) (sym (are.2 ∙ ap (map (privilege_row_of i j peers places k d.0)) found.2))
              (pointwise_relation_is_reversed RowsEqual was likes (rows_equal k c.0 d.0 same.head found.0)),
        )

  module _ (i : ℕ) (users peers : List Member) (same_users : HaveSameFlatListAfterRewrite write User lines others users peers) where
    group_there : (j : ℕ) (g h : HostGroup) (rows : List PrivilegeRow) → AreHostGroupsAlike write lines others g h → AreRowsPerFlatAtomOfHostGroup lines i users j g rows
        → (likes : List PrivilegeRow) × AreRowsPerFlatAtomOfHostGroup others i peers j h likes × IsPointwiseRelated RowsEqual rows likes
    group_there j g h rows same are =
        related_parts_give_related_concatenation (AreCommandsWithSettingsAlike write lines others) RowsEqual (AreRowsPerFlatAtomOfCommand lines i j users g.hosts) (AreRowsPerFlatAtomOfCommand others i j peers h.hosts)
        (command_there i j users peers g.hosts h.hosts same_users same.hosts) 0 (commands_with_settings empty_command_settings g.commands) (commands_with_settings empty_command_settings h.commands) rows
        same.commands are

    group_back : (j : ℕ) (h g : HostGroup) (rows : List PrivilegeRow) → AreHostGroupsAlike write lines others g h → AreRowsPerFlatAtomOfHostGroup others i peers j h rows
        → (was : List PrivilegeRow) × AreRowsPerFlatAtomOfHostGroup lines i users j g was × IsPointwiseRelated WasEqual rows was
    group_back j h g rows same are =
        related_parts_give_related_concatenation (λ d c. AreCommandsWithSettingsAlike write lines others c d) WasEqual (AreRowsPerFlatAtomOfCommand others i j peers h.hosts) (AreRowsPerFlatAtomOfCommand lines i j users g.hosts)
        (command_back i j users peers g.hosts h.hosts same_users same.hosts) 0 (commands_with_settings empty_command_settings h.commands) (commands_with_settings empty_command_settings g.commands) rows
        (pointwise_relation_is_reversed (AreCommandsWithSettingsAlike write lines others) (commands_with_settings empty_command_settings g.commands) (commands_with_settings empty_command_settings h.commands) same.commands) are

  spec_there : (i : ℕ) (s t : UserSpec) (rows : List PrivilegeRow) → AreUserSpecsAlike write lines others s t → AreRowsPerFlatAtomOfSpec lines i s rows
      → (likes : List PrivilegeRow) × AreRowsPerFlatAtomOfSpec others i t likes × IsPointwiseRelated RowsEqual rows likes
  spec_there i s t rows same are =
      related_parts_give_related_concatenation (AreHostGroupsAlike write lines others) RowsEqual (AreRowsPerFlatAtomOfHostGroup lines i s.users) (AreRowsPerFlatAtomOfHostGroup others i t.users)
      (group_there i s.users t.users same.users) 0 s.groups t.groups rows same.groups are

  spec_back : (i : ℕ) (t s : UserSpec) (rows : List PrivilegeRow) → AreUserSpecsAlike write lines others s t → AreRowsPerFlatAtomOfSpec others i t rows
      → (was : List PrivilegeRow) × AreRowsPerFlatAtomOfSpec lines i s was × IsPointwiseRelated WasEqual rows was
  spec_back i t s rows same are =
      related_parts_give_related_concatenation (λ h g. AreHostGroupsAlike write lines others g h) WasEqual (AreRowsPerFlatAtomOfHostGroup others i t.users) (AreRowsPerFlatAtomOfHostGroup lines i s.users)
      (group_back i s.users t.users same.users) 0 t.groups s.groups rows
      (pointwise_relation_is_reversed (AreHostGroupsAlike write lines others) s.groups t.groups same.groups) are

  module _ (specs : IsPointwiseRelated (AreUserSpecsAlike write lines others) (user_specs_of_lines lines) (user_specs_of_lines others)) where
    -- Each row of the first policy has its equal in the second, and each row of the second in the first.
    pub rows_there : (rows : List PrivilegeRow) → AreRowsPerFlatAtomOfPolicy lines rows → (likes : List PrivilegeRow) × AreRowsPerFlatAtomOfPolicy others likes × IsPointwiseRelated RowsEqual rows likes
    rows_there rows are =
        related_parts_give_related_concatenation (AreUserSpecsAlike write lines others) RowsEqual (AreRowsPerFlatAtomOfSpec lines) (AreRowsPerFlatAtomOfSpec others) spec_there 0 (user_specs_of_lines lines) (user_specs_of_lines others) rows
        specs are

    pub rows_back : (rows : List PrivilegeRow) → AreRowsPerFlatAtomOfPolicy others rows → (was : List PrivilegeRow) × AreRowsPerFlatAtomOfPolicy lines was × IsPointwiseRelated WasEqual rows was
    rows_back rows are =
        related_parts_give_related_concatenation (λ t s. AreUserSpecsAlike write lines others s t) WasEqual (AreRowsPerFlatAtomOfSpec others) (AreRowsPerFlatAtomOfSpec lines) spec_back 0 (user_specs_of_lines others) (user_specs_of_lines lines) rows
        (pointwise_relation_is_reversed (AreUserSpecsAlike write lines others) (user_specs_of_lines lines) (user_specs_of_lines others) specs) are

-- ---- answers

-- They are for the same users and hosts.
pub alike_specs_have_alike_users_and_hosts : (write : Atom → Atom) (lines others : List Line) (s t : UserSpec) → AreUserSpecsAlike write lines others s t → AreSpecUsersAndHostsAlike write lines others s t
alike_specs_have_alike_users_and_hosts write lines others s t is = record {
  users = is.users;
  groups = pointwise_relation_is_weakened (AreHostGroupsAlike write lines others) (AreHostListsAlike write lines others) (λ g h same. same.hosts) s.groups t.groups is.groups;
}

option_relation_is_reversed : {X Y : Type 0} (R : X → Y → Type 0) (a : Option X) (b : Option Y) → AreOptionsRelated (λ y x. R x y) b a → AreOptionsRelated R a b
option_relation_is_reversed R None None alike = tt
option_relation_is_reversed R None (Some y) alike = absurd alike
option_relation_is_reversed R (Some x) None alike = absurd alike
option_relation_is_reversed R (Some x) (Some y) alike = alike

module _ (law : AlikeListsHaveSameVerdict) (write : Atom → Atom) (lines others : List Line) (hits : KeepsAtomMatches write)
    (specs : IsPointwiseRelated (AreUserSpecsAlike write lines others) (user_specs_of_lines lines) (user_specs_of_lines others)) where
  -- Both policies give each user rules at the same places.
  pub equal_specs_groups : (who : Who) (places : List HostGroupPlace) → ArePlacesOfMatchingHostGroups lines who places ↔ ArePlacesOfMatchingHostGroups others who places
  equal_specs_groups who places =
      alike_specs_have_same_host_groups law write lines others hits
      (pointwise_relation_is_weakened (AreUserSpecsAlike write lines others) (AreSpecUsersAndHostsAlike write lines others) (alike_specs_have_alike_users_and_hosts write lines others) (user_specs_of_lines lines) (user_specs_of_lines others) specs)
      who places

  -- Both policies give the same answers, if they have the same settings of runas_default.
  pub equal_specs_answer : AreAllRunasDefaultsAlike write lines others → (q : Request) (answer : Option Answer) → IsAnswerToRequest lines q answer ↔ IsAnswerToRequest others q answer
  equal_specs_answer defaults q answer = (there, back)
    where
      there : IsAnswerToRequest lines q answer → IsAnswerToRequest others q answer
      there a =
          let new = rows_there write lines others specs a.rows a.are_rows in
          record {
            rows = new.0;
            are_rows = new.1;
            answers = alike_numbered_rows_have_same_answer law write lines others hits defaults q a.rows new.0 answer new.2 a.answers;
          }

      back : IsAnswerToRequest others q answer → IsAnswerToRequest lines q answer
      back b =
          let was = rows_back write lines others specs b.rows b.are_rows in
          let last = last_alike (λ s r. AreTwoRowsAlikeWithSpecNumbers write lines others r s) (RowFitsRequest others q) (RowFitsRequest lines q)
          (λ s r equal. equivalence_is_reversed (alike_rows_fit_same_requests law write lines others hits defaults q r s equal.alike)) b.rows was.0 b.answers.last was.2 b.answers.is_last in
          let same = told_equal law write lines others hits defaults last.0 b.answers.last
          (option_relation_is_reversed (AreTwoRowsAlikeWithSpecNumbers write lines others) last.0 b.answers.last last.2) in
          record { rows = was.0; are_rows = was.1; answers = record { last = last.0; is_last = last.1; says = b.answers.says ∙ sym same } }
