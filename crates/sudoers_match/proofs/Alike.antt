-- What two policies answer whose rows and settings say the same.
use Rattle.sudoers_match.proofs.Common.{AllByRecursion, Allow, Answer, AreAllRunasDefaultsAlike, AreAnswersSameButNumbers, AreDefaultsScopesAlike, AreTwoRowsAlikeButSpecNumbers, AreTwoRowsAlikeWithSpecNumbers}
use Rattle.sudoers_match.proofs.Common.{AreRunasDefaultsAlike, AreRunasMemberListsAlike, AreRunasSpecsAlike, AreScopeListsAlike, Atom, Bool, Cmnd, Group, HaveSameFlatListAfterRewrite, Host, IsAnswerOfRows}
use Rattle.sudoers_match.proofs.Common.{IsConcatenationOfParts, IsLastItemWith, IsListVerdict, IsPointwiseRelated, IsRunasDefault, IsScopeForUserOnHost, IsScopeListForUserOrHost, KeepsAtomMatches, Kind, Line, List, ListAllows}
use Rattle.sudoers_match.proofs.Common.{Member, None, Option, PrivilegeRow, Request, RowFitsRequest, Runas, RunasGroupsAllow, RunasListsAllow, RunasSpec, RunasSpecAllows, Scope, SignedAtom, Some, User, Verdict, Who}
use Rattle.sudoers_match.proofs.Common.{[], answer_of_fitting_row, ap, ap₂, command_with_joined_arguments_of_request, final_tags_of, has_no_digests, is_all_atom, is_host_atom_match, is_in_option_time_bounds, is_request_command_hit}
use Rattle.sudoers_match.proofs.Common.{is_runas_group_atom_match, is_user_atom_match, option_map, refl, runas_defaults_of_lines, runas_name_or_root, subst, suc, sym, tags_with_setenv_by_all, unchanged_atom, ℕ, ◌++◌}
use Rattle.sudoers_match.proofs.Common.{◌↔◌, ◌∙◌, ◌∷◌, ◌≡◌}
use Rattle.std.specs.Prelude.{◌&&◌}
use Rattle.sudoers_match_member.specs.declared.people_and_commands.Person.{Person}

-- all of them, the other way round
pub pointwise_relation_is_reversed : {X Y : Type 0} (R : X → Y → Type 0) (xs : List X) (ys : List Y) → IsPointwiseRelated R xs ys → IsPointwiseRelated (λ y x. R x y) ys xs
pointwise_relation_is_reversed R [] [] all = tt
pointwise_relation_is_reversed R [] (y ∷ ys) all = absurd all
pointwise_relation_is_reversed R (x ∷ xs) [] all = absurd all
pointwise_relation_is_reversed R (x ∷ xs) (y ∷ ys) all = (all.0, pointwise_relation_is_reversed R xs ys all.1)

pub pointwise_relation_is_weakened : {X Y : Type 0} (R S : X → Y → Type 0) → ((x : X) (y : Y) → R x y → S x y) → (xs : List X) (ys : List Y) → IsPointwiseRelated R xs ys → IsPointwiseRelated S xs ys
pointwise_relation_is_weakened R S to [] [] all = tt
pointwise_relation_is_weakened R S to [] (y ∷ ys) all = absurd all
pointwise_relation_is_weakened R S to (x ∷ xs) [] all = absurd all
pointwise_relation_is_weakened R S to (x ∷ xs) (y ∷ ys) all = (to x y all.0, pointwise_relation_is_weakened R S to xs ys all.1)

-- ---- the last of lists that are alike

-- the last of the one is related to that of the other, or neither has one
abbrev pub AreOptionsRelated : {X Y : Type 0} → (X → Y → Type 0) → Option X → Option Y → Type 0
AreOptionsRelated R None None = Unit {0}
AreOptionsRelated R None (Some y) = ⊥
AreOptionsRelated R (Some x) None = ⊥
AreOptionsRelated R (Some x) (Some y) = R x y

module _ {X Y : Type 0} (R : X → Y → Type 0) (P : X → Type 0) (Q : Y → Type 0) (same : (x : X) (y : Y) → R x y → P x ↔ Q y) where
  none_alike : (xs : List X) (ys : List Y) → IsPointwiseRelated R xs ys → AllByRecursion (λ x. P x → ⊥) xs → AllByRecursion (λ y. Q y → ⊥) ys
  none_alike [] [] all none = tt
  none_alike [] (y ∷ ys) all none = absurd all
  none_alike (x ∷ xs) [] all none = absurd all
  none_alike (x ∷ xs) (y ∷ ys) all none = (λ q. none.0 ((same x y all.0).1 q), none_alike xs ys all.1 none.1)

  -- where the list is cut, the other is cut too
  cut_alike : (before : List X) (x : X) (after : List X) (ys : List Y) → IsPointwiseRelated R (before ++ x ∷ after) ys → P x → AllByRecursion (λ z. P z → ⊥) after
      → (y : Y) × IsLastItemWith Q ys (Some y) × R x y
  cut_alike [] x after [] all p none = absurd all
  cut_alike [] x after (y ∷ ys) all p none = (y, ([], ys, refl, (same x y all.0).0 p, none_alike after ys all.1 none), all.0)
  cut_alike (b ∷ before) x after [] all p none = absurd all
  cut_alike (b ∷ before) x after (c ∷ ys) all p none =
      let more = cut_alike before x after ys all.1 p none in
      (more.0, (c ∷ more.1.0, more.1.1, ap (λ zs. c ∷ zs) more.1.2, more.1.3, more.1.4), more.2)

  pub last_alike : (xs : List X) (ys : List Y) (a : Option X) → IsPointwiseRelated R xs ys → IsLastItemWith P xs a → (b : Option Y) × IsLastItemWith Q ys b × AreOptionsRelated R a b
  last_alike xs ys None all l = (None, none_alike xs ys all l, tt)
  last_alike xs ys (Some x) all l =
      let found = cut_alike l.0 x l.1 ys (subst (λ zs. IsPointwiseRelated R zs ys) l.2 all) l.3 l.4 in
      (Some found.0, found.1, found.2)

-- ---- what numbered things give that are alike

pub appended_related_lists_are_related : {X Y : Type 0} (R : X → Y → Type 0) (xs : List X) (ys : List Y) (more : List X) (rest : List Y)
    → IsPointwiseRelated R xs ys → IsPointwiseRelated R more rest → IsPointwiseRelated R (xs ++ more) (ys ++ rest)
appended_related_lists_are_related R [] [] more rest all others = others
appended_related_lists_are_related R [] (y ∷ ys) more rest all others = absurd all
appended_related_lists_are_related R (x ∷ xs) [] more rest all others = absurd all
appended_related_lists_are_related R (x ∷ xs) (y ∷ ys) more rest all others = (all.0, appended_related_lists_are_related R xs ys more rest all.1 others)

pub related_parts_give_related_concatenation : {X Y U V : Type 0} (S : X → U → Type 0) (R : Y → V → Type 0) (Part : ℕ → X → List Y → Type 0) (Other : ℕ → U → List V → Type 0)
    → ((i : ℕ) (x : X) (u : U) (ys : List Y) → S x u → Part i x ys → (vs : List V) × Other i u vs × IsPointwiseRelated R ys vs)
    → (i : ℕ) (xs : List X) (us : List U) (ys : List Y) → IsPointwiseRelated S xs us → IsConcatenationOfParts Part i xs ys → (vs : List V) × IsConcatenationOfParts Other i us vs × IsPointwiseRelated R ys vs
related_parts_give_related_concatenation S R Part Other each i [] [] ys all joined = ([], refl, subst (λ zs. IsPointwiseRelated R zs []) (sym joined) tt)
related_parts_give_related_concatenation S R Part Other each i [] (u ∷ us) ys all joined = absurd all
related_parts_give_related_concatenation S R Part Other each i (x ∷ xs) [] ys all joined = absurd all
related_parts_give_related_concatenation S R Part Other each i (x ∷ xs) (u ∷ us) ys all joined =
    let first = each i x u joined.0 all.0 joined.3 in
    let more = related_parts_give_related_concatenation S R Part Other each (suc i) xs us joined.1 all.1 joined.4 in (
      first.0 ++ more.0,
      (first.0, more.0, refl, first.1, more.1),
      subst (λ zs. IsPointwiseRelated R zs (first.0 ++ more.0)) (sym joined.2) (appended_related_lists_are_related R joined.0 first.0 joined.1 more.0 first.2 more.2),
    )

-- ---- lists that say the same

-- what the law of verdicts says
abbrev pub AlikeListsHaveSameVerdict : Type 0
AlikeListsHaveSameVerdict = (write : Atom → Atom) (test : Atom → Bool) → ((a : Atom) → test (write a) ≡ test a) → ((a : Atom) → is_all_atom (write a) ≡ is_all_atom a)
    → (k : Kind) (lines others : List Line) (ms ns : List Member) → HaveSameFlatListAfterRewrite write k lines others ms ns → (verdict : Verdict)
    → IsListVerdict k lines test ms verdict ↔ IsListVerdict k others test ns verdict

pairs_of_equivalents_are_equivalent : {A B C D : Type 0} → A ↔ C → B ↔ D → (A × B) ↔ (C × D)
pairs_of_equivalents_are_equivalent f g = (λ p. (f.0 p.0, g.0 p.1), λ p. (f.1 p.0, g.1 p.1))

type_is_equivalent_to_itself : {A : Type 0} → A ↔ A
type_is_equivalent_to_itself = (λ a. a, λ a. a)

pub equivalence_is_reversed : {A B : Type 0} → A ↔ B → B ↔ A
equivalence_is_reversed f = (f.1, f.0)

related_last_settings_give_same_runas_name : (R : Option Scope × List ℕ → Option Scope × List ℕ → Type 0) → ((s t : Option Scope × List ℕ) → R s t → s.1 ≡ t.1)
    → (a b : Option (Option Scope × List ℕ)) → AreOptionsRelated R a b → runas_name_or_root a ≡ runas_name_or_root b
related_last_settings_give_same_runas_name R names None None alike = refl
related_last_settings_give_same_runas_name R names None (Some t) alike = absurd alike
related_last_settings_give_same_runas_name R names (Some s) None alike = absurd alike
related_last_settings_give_same_runas_name R names (Some s) (Some t) alike = names s t alike

module _ (law : AlikeListsHaveSameVerdict) (write : Atom → Atom) (lines others : List Line) (hits : KeepsAtomMatches write) where
  allows_alike : (k : Kind) (test : Atom → Bool) → ((a : Atom) → test (write a) ≡ test a) → (ms ns : List Member) → HaveSameFlatListAfterRewrite write k lines others ms ns
      → ListAllows k lines test ms ↔ ListAllows k others test ns
  allows_alike k test kept ms ns alike = law write test kept hits.all k lines others ms ns alike Allow

  -- ---- settings

  counted_alike : (who : Who) (k : Kind) (ms ns : List Member) → AreScopeListsAlike write lines others k ms ns → IsScopeListForUserOrHost lines who k ms ↔ IsScopeListForUserOrHost others who k ns
  counted_alike who User ms ns alike = allows_alike User (is_user_atom_match who.user) (hits.user who.user) ms ns alike
  counted_alike who Host ms ns alike = allows_alike Host (is_host_atom_match who) (hits.host who) ms ns alike
  counted_alike who Runas ms ns alike = type_is_equivalent_to_itself
  counted_alike who Cmnd ms ns alike = type_is_equivalent_to_itself

  scope_alike : (who : Who) (s t : Option Scope) → AreDefaultsScopesAlike write lines others s t → IsScopeForUserOnHost lines who s ↔ IsScopeForUserOnHost others who t
  scope_alike who None None alike = type_is_equivalent_to_itself
  scope_alike who None (Some t) alike = absurd alike
  scope_alike who (Some s) None alike = absurd alike
  scope_alike who (Some s) (Some t) alike =
      subst (λ (k : Kind). IsScopeListForUserOrHost lines who s.kind s.members ↔ IsScopeListForUserOrHost others who k t.members) (sym alike.0)
      (counted_alike who s.kind s.members t.members alike.1)

  -- what the settings say is for the same users and hosts
  abbrev SettingsAlike : Option Scope × List ℕ → Option Scope × List ℕ → Type 0
  SettingsAlike = AreRunasDefaultsAlike write lines others

  default_alike : (who : Who) (name : List ℕ) → AreAllRunasDefaultsAlike write lines others → IsRunasDefault lines who name ↔ IsRunasDefault others who name
  default_alike who name alike = (there, back)
    where
      there : IsRunasDefault lines who name → IsRunasDefault others who name
      there is =
          let found = last_alike SettingsAlike (λ s. IsScopeForUserOnHost lines who s.0) (λ t. IsScopeForUserOnHost others who t.0)
          (λ s t both. scope_alike who s.0 t.0 both.scope) (runas_defaults_of_lines lines) (runas_defaults_of_lines others) is.last alike is.is_last in
          record { last = found.0; is_last = found.1; says = is.says ∙ related_last_settings_give_same_runas_name SettingsAlike (λ s t both. sym both.value) is.last found.0 found.2 }

      back : IsRunasDefault others who name → IsRunasDefault lines who name
      back is =
          let found = last_alike (λ t s. SettingsAlike s t) (λ t. IsScopeForUserOnHost others who t.0) (λ s. IsScopeForUserOnHost lines who s.0)
          (λ t s both. equivalence_is_reversed (scope_alike who s.0 t.0 both.scope)) (runas_defaults_of_lines others) (runas_defaults_of_lines lines) is.last
          (pointwise_relation_is_reversed SettingsAlike (runas_defaults_of_lines lines) (runas_defaults_of_lines others) alike) is.is_last in
          record { last = found.0; is_last = found.1; says = is.says ∙ related_last_settings_give_same_runas_name (λ t s. SettingsAlike s t) (λ t s both. both.value) is.last found.0 found.2 }

  -- ---- Runas_Specs

  group_alike : (target : Person) (group : Option Group) (ms ns : List Member) → HaveSameFlatListAfterRewrite write Runas lines others ms ns
      → RunasGroupsAllow lines target group ms ↔ RunasGroupsAllow others target group ns
  group_alike target None ms ns alike = type_is_equivalent_to_itself
  group_alike target (Some g) ms ns alike = (
    λ allows. (allows.0, (law write (is_runas_group_atom_match g) (hits.group g) hits.all Runas lines others ms ns alike allows.0).0 allows.1, allows.2),
    λ allows. (allows.0, (law write (is_runas_group_atom_match g) (hits.group g) hits.all Runas lines others ms ns alike allows.0).1 allows.1, allows.2),
  )

  users_alike : (target : Person) (ms ns : List Member) → HaveSameFlatListAfterRewrite write Runas lines others ms ns
      → ListAllows Runas lines (is_user_atom_match target) ms ↔ ListAllows Runas others (is_user_atom_match target) ns
  users_alike target ms ns alike = allows_alike Runas (is_user_atom_match target) (hits.user target) ms ns alike

  lists_alike : (user target : Person) (group : Option Group) (us vs gs hs : List Member) → AreRunasMemberListsAlike write lines others us vs → AreRunasMemberListsAlike write lines others gs hs
      → RunasListsAllow lines user target group us gs ↔ RunasListsAllow others user target group vs hs
  lists_alike user target group [] [] [] [] a b = type_is_equivalent_to_itself
  lists_alike user target group [] [] (g ∷ gs) (h ∷ hs) a b = pairs_of_equivalents_are_equivalent type_is_equivalent_to_itself (group_alike target group (g ∷ gs) (h ∷ hs) b)
  lists_alike user target group (u ∷ us) (v ∷ vs) [] [] a b = pairs_of_equivalents_are_equivalent (users_alike target (u ∷ us) (v ∷ vs) a) type_is_equivalent_to_itself
  lists_alike user target group (u ∷ us) (v ∷ vs) (g ∷ gs) (h ∷ hs) a b =
      pairs_of_equivalents_are_equivalent (users_alike target (u ∷ us) (v ∷ vs) a) (group_alike target group (g ∷ gs) (h ∷ hs) b)
  lists_alike user target group [] (v ∷ vs) gs hs a b = absurd a
  lists_alike user target group (u ∷ us) [] gs hs a b = absurd a
  lists_alike user target group [] [] [] (h ∷ hs) a b = absurd b
  lists_alike user target group [] [] (g ∷ gs) [] a b = absurd b
  lists_alike user target group (u ∷ us) (v ∷ vs) [] (h ∷ hs) a b = absurd b
  lists_alike user target group (u ∷ us) (v ∷ vs) (g ∷ gs) [] a b = absurd b

  module _ (defaults : AreAllRunasDefaultsAlike write lines others) where
    runas_alike : (who : Who) (target : Person) (group : Option Group) (r s : Option RunasSpec) → AreRunasSpecsAlike write lines others r s
        → RunasSpecAllows lines who target group r ↔ RunasSpecAllows others who target group s
    runas_alike who target group None None alike = (
      λ allows. (allows.0, (default_alike who allows.0 defaults).0 allows.1, allows.2, allows.3),
      λ allows. (allows.0, (default_alike who allows.0 defaults).1 allows.1, allows.2, allows.3),
    )
    runas_alike who target group None (Some s) alike = absurd alike
    runas_alike who target group (Some r) None alike = absurd alike
    runas_alike who target group (Some r) (Some s) alike = lists_alike who.user target group r.users s.users r.groups s.groups alike.0 alike.1

    -- ---- rows

    hit_alike : (q : Request) (r s : PrivilegeRow) → AreTwoRowsAlikeButSpecNumbers write lines others r s → is_request_command_hit q s.atom ≡ is_request_command_hit q r.atom
    hit_alike q r s alike = ap (is_request_command_hit q) alike.atom ∙ ap (λ b. b && has_no_digests r.atom.digests) (hits.command (command_with_joined_arguments_of_request q) r.atom.atom)

    fits_alike : (q : Request) (r s : PrivilegeRow) → AreTwoRowsAlikeButSpecNumbers write lines others r s → RowFitsRequest lines q r ↔ RowFitsRequest others q s
    fits_alike q r s alike = (there, back)
      where
        user : ListAllows User lines (is_user_atom_match q.who.user) r.users ↔ ListAllows User others (is_user_atom_match q.who.user) s.users
        user = allows_alike User (is_user_atom_match q.who.user) (hits.user q.who.user) r.users s.users alike.users

        host : ListAllows Host lines (is_host_atom_match q.who) r.hosts ↔ ListAllows Host others (is_host_atom_match q.who) s.hosts
        host = allows_alike Host (is_host_atom_match q.who) (hits.host q.who) r.hosts s.hosts alike.hosts

        runas : RunasSpecAllows lines q.who q.target q.target_group r.head.runas ↔ RunasSpecAllows others q.who q.target q.target_group s.head.runas
        runas = runas_alike q.who q.target q.target_group r.head.runas s.head.runas alike.runas

        there : RowFitsRequest lines q r → RowFitsRequest others q s
        there f = record {
          user = user.0 f.user;
          host = host.0 f.host;
          runas = runas.0 f.runas;
          moment = ap (is_in_option_time_bounds q.moment) alike.options ∙ f.moment;
          command = hit_alike q r s alike ∙ f.command;
        }

        back : RowFitsRequest others q s → RowFitsRequest lines q r
        back f = record {
          user = user.1 f.user;
          host = host.1 f.host;
          runas = runas.1 f.runas;
          moment = sym (ap (is_in_option_time_bounds q.moment) alike.options) ∙ f.moment;
          command = sym (hit_alike q r s alike) ∙ f.command;
        }

    allow_alike : (r s : PrivilegeRow) → AreTwoRowsAlikeButSpecNumbers write lines others r s → s.atom.allow ≡ r.atom.allow
    allow_alike r s alike = ap (λ (x : SignedAtom). x.allow) alike.atom

    tags_alike : (r s : PrivilegeRow) → AreTwoRowsAlikeButSpecNumbers write lines others r s → tags_with_setenv_by_all (is_all_atom s.atom.atom) (final_tags_of s.head.tags) ≡ tags_with_setenv_by_all (is_all_atom r.atom.atom) (final_tags_of r.head.tags)
    tags_alike r s alike = ap₂ tags_with_setenv_by_all (ap (λ (x : SignedAtom). is_all_atom x.atom) alike.atom ∙ hits.all r.atom.atom) alike.tags

    told_alike : (a b : Option PrivilegeRow) → AreOptionsRelated (AreTwoRowsAlikeButSpecNumbers write lines others) a b → AreAnswersSameButNumbers (option_map answer_of_fitting_row a) (option_map answer_of_fitting_row b)
    told_alike None None alike = tt
    told_alike None (Some s) alike = absurd alike
    told_alike (Some r) None alike = absurd alike
    told_alike (Some r) (Some s) alike = (allow_alike r s alike, tags_alike r s alike, alike.options)

    pub told_equal : (a b : Option PrivilegeRow) → AreOptionsRelated (AreTwoRowsAlikeWithSpecNumbers write lines others) a b → option_map answer_of_fitting_row a ≡ option_map answer_of_fitting_row b
    told_equal None None equal = refl
    told_equal None (Some s) equal = absurd equal
    told_equal (Some r) None equal = absurd equal
    told_equal (Some r) (Some s) equal =
        let allow = allow_alike r s equal.alike in
        let tags = tags_alike r s equal.alike in
        let options = equal.alike.options in
        let spec = equal.spec in
        let group = equal.host_group in
        let command = equal.command in
        ap Some (cc)

    answers_alike : (q : Request) (rows others_rows : List PrivilegeRow) (answer : Option Answer) → IsPointwiseRelated (AreTwoRowsAlikeButSpecNumbers write lines others) rows others_rows
        → IsAnswerOfRows lines q rows answer → (other : Option Answer) × IsAnswerOfRows others q others_rows other × AreAnswersSameButNumbers answer other
    answers_alike q rows others_rows answer all a =
        let found = last_alike (AreTwoRowsAlikeButSpecNumbers write lines others) (RowFitsRequest lines q) (RowFitsRequest others q) (fits_alike q) rows others_rows a.last all a.is_last in (
          option_map answer_of_fitting_row found.0,
          record { last = found.0; is_last = found.1; says = refl },
          subst (λ x. AreAnswersSameButNumbers x (option_map answer_of_fitting_row found.0)) (sym a.says) (told_alike a.last found.0 found.2),
        )

    answers_equal : (q : Request) (rows others_rows : List PrivilegeRow) (answer : Option Answer) → IsPointwiseRelated (AreTwoRowsAlikeWithSpecNumbers write lines others) rows others_rows
        → IsAnswerOfRows lines q rows answer → IsAnswerOfRows others q others_rows answer
    answers_equal q rows others_rows answer all a =
        let found = last_alike (AreTwoRowsAlikeWithSpecNumbers write lines others) (RowFitsRequest lines q) (RowFitsRequest others q) (λ r s equal. fits_alike q r s equal.alike) rows others_rows a.last all a.is_last in
        record { last = found.0; is_last = found.1; says = a.says ∙ told_equal a.last found.0 found.2 }

-- ---- the laws

pub unchanged_atoms_keep_atom_matches : KeepsAtomMatches unchanged_atom
unchanged_atoms_keep_atom_matches = record {
  all = λ a. refl;
  user = λ person a. refl;
  group = λ group a. refl;
  host = λ who a. refl;
  command = λ asked a. refl;
}

pub alike_settings_give_same_runas_default : AlikeListsHaveSameVerdict → (write : Atom → Atom) (lines others : List Line) → KeepsAtomMatches write → AreAllRunasDefaultsAlike write lines others → (who : Who) (name : List ℕ)
    → IsRunasDefault lines who name ↔ IsRunasDefault others who name
alike_settings_give_same_runas_default law write lines others hits defaults who name = default_alike law write lines others hits who name defaults

pub alike_rows_fit_same_requests : AlikeListsHaveSameVerdict → (write : Atom → Atom) (lines others : List Line) → KeepsAtomMatches write → AreAllRunasDefaultsAlike write lines others → (q : Request) (r s : PrivilegeRow)
    → AreTwoRowsAlikeButSpecNumbers write lines others r s → RowFitsRequest lines q r ↔ RowFitsRequest others q s
alike_rows_fit_same_requests law write lines others hits defaults q r s alike = fits_alike law write lines others hits defaults q r s alike

pub alike_rows_have_same_answer_but_numbers : AlikeListsHaveSameVerdict → (write : Atom → Atom) (lines others : List Line) → KeepsAtomMatches write → AreAllRunasDefaultsAlike write lines others → (q : Request) (rows others_rows : List PrivilegeRow) (answer : Option Answer)
    → IsPointwiseRelated (AreTwoRowsAlikeButSpecNumbers write lines others) rows others_rows → IsAnswerOfRows lines q rows answer → (other : Option Answer) × IsAnswerOfRows others q others_rows other × AreAnswersSameButNumbers answer other
alike_rows_have_same_answer_but_numbers law write lines others hits defaults q rows others_rows answer all a = answers_alike law write lines others hits defaults q rows others_rows answer all a

pub alike_numbered_rows_have_same_answer : AlikeListsHaveSameVerdict → (write : Atom → Atom) (lines others : List Line) → KeepsAtomMatches write → AreAllRunasDefaultsAlike write lines others → (q : Request) (rows others_rows : List PrivilegeRow) (answer : Option Answer)
    → IsPointwiseRelated (AreTwoRowsAlikeWithSpecNumbers write lines others) rows others_rows → IsAnswerOfRows lines q rows answer → IsAnswerOfRows others q others_rows answer
alike_numbered_rows_have_same_answer law write lines others hits defaults q rows others_rows answer all a = answers_equal law write lines others hits defaults q rows others_rows answer all a
