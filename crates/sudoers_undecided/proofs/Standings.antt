-- How lists stand to a request.
use Rattle.std.proofs.Common.{◌==◌, length}
use Rattle.std.proofs.Common.{◌≡◌, ◌↔◌, ◌&&◌, Bool, true, false, not, ℕ, List, [], ◌∷◌, ◌++◌, map, Option, Some, None, refl, sym, ap, subst, ◌∙◌}
use Rattle.std.proofs.lemmas.Bool.{eqb-true}
use Rattle.sudoers_grammar.specs.declared.node.Kind.{Kind}
use Rattle.sudoers_grammar.specs.declared.node.Kind.TheVariants.{Runas}
use Rattle.sudoers_grammar.specs.declared.node.Atom.{Atom}
use Rattle.sudoers_grammar.specs.Node.{Member, Scope}
use Rattle.sudoers_tree.specs.Line.{Line}
use Rattle.sudoers_match_member.specs.declared.people_and_commands.Group.{Group}
use Rattle.sudoers_match_member.specs.declared.request.Request.{Request}
use Rattle.sudoers_match_list.specs.Flat.{SignedAtom, IsFlatListOf, has_no_digests, none}
use Rattle.sudoers_match_list.proofs.Unique.{one_flat}
use Rattle.sudoers_match.specs.Allows.{ListAllows}
use Rattle.sudoers_match.specs.Runas.{is_group_absent_or_among}
use Rattle.sudoers_match_member.specs.Hits.{is_name_equal_ignoring_case}
use Rattle.sudoers_match.specs.Default.{runas_defaults_of_lines, runas_name_or_root}
use Rattle.sudoers_match.proofs.Lasts.{last_one}
use Rattle.sudoers_undecided.specs.declared.decided_aliases.DecidedAliases.{DecidedAliases}
use Rattle.sudoers_undecided.specs.declared.decided_aliases.PartStanding.{PartStanding}
use Rattle.sudoers_undecided.specs.declared.user_and_host_lists.UserAndHostLists.{UserAndHostLists}
use Rattle.sudoers_undecided.specs.declared.member_question.MemberQuestion.{MemberQuestion}
use Rattle.sudoers_undecided.specs.MemberQuestions.{is_atom_matched_by_question, is_undecided_by_question}
use Rattle.sudoers_undecided.specs.ListSway.{is_bare_and_undecided}
use Rattle.sudoers_undecided.specs.MatchTests.{match_tests_of_request, undecided_by_files_or_paths}
use Rattle.sudoers_undecided.specs.RowParts.{CouldTurnRunasDefault, IsRunasDefaultByTests, IsScopeForUserOnHostByTests, CouldTurnRunasUserList, CouldTurnRunasGroupList, RunasUserListAllowsByTests, RunasListsAllowGroupByTests}
use Rattle.sudoers_undecided.specs.TurningMembers.{CouldTurnFlatList, CouldTurnList}
use Rattle.sudoers_undecided.specs.internal.Counted.{AreDecidedBy, AreGroupAliases, IsGroupQuestion, IsPartStanding, IsWantedOfScopes, IsRunasUsersStanding, IsWantedGroupOf}
use Rattle.sudoers_undecided.specs.internal.Decided.{DecidesAllAliases, IsStandingOfList, matched_by, undecided_by}
use Rattle.sudoers_undecided.specs.declared.wanted_members.WantedMembers.{WantedMembers}
use Rattle.sudoers_undecided.specs.internal.Wanted.{IsWantedOfFlatList, IsWantedOfList, is_all_wanted, is_sign_wanted, wanted_of_sign}
use Rattle.sudoers_undecided.proofs.ListsByTests.{ListSaysAllow, group_list_allows_as_it_says, list_allows_as_it_says}
use Rattle.sudoers_undecided.proofs.Sways.{sway_then_turning_atom, turning_atom_then_sway}

both_true : (a b : Bool) → a ≡ true → b ≡ true → (a && b) ≡ true
both_true true b p q = q
both_true false b p q = absurd cc

contrary_sign_is_wanted : (v a : Bool) → a ≡ not v → is_sign_wanted (wanted_of_sign (not v)) a ≡ true
contrary_sign_is_wanted true a e = ap not e
contrary_sign_is_wanted false a e = e

left_true : (a b : Bool) → (a && b) ≡ true → a ≡ true
left_true true b e = refl
left_true false b e = absurd cc

right_true : (a b : Bool) → (a && b) ≡ true → b ≡ true
right_true true b e = e
right_true false b e = absurd cc

wanted_sign_is_contrary : (v a : Bool) → is_sign_wanted (wanted_of_sign (not v)) a ≡ true → a ≡ not v
wanted_sign_is_contrary true true e = absurd cc
wanted_sign_is_contrary true false e = refl
wanted_sign_is_contrary false a e = e

sign_wants_not_all : (b : Bool) → is_all_wanted (wanted_of_sign b) ≡ false
sign_wants_not_all true = refl
sign_wants_not_all false = refl

pub turning_atom_is_wanted : (undecided test : Atom → Bool) (v : Bool) (flat : List SignedAtom) (s : SignedAtom) → CouldTurnFlatList undecided test v flat s
    → IsWantedOfFlatList (is_bare_and_undecided undecided) test (wanted_of_sign (not v)) flat s
turning_atom_is_wanted undecided test v flat s w = record {
  before = w.before;
  after = w.after;
  stands = w.stands;
  is_undecided = both_true (undecided s.atom) (has_no_digests s.digests) w.is_undecided w.bare;
  none_behind = λ _. w.none_behind;
  sign = contrary_sign_is_wanted v s.allow w.contrary;
}

pub wanted_atom_turns : (undecided test : Atom → Bool) (v : Bool) (flat : List SignedAtom) (s : SignedAtom)
    → IsWantedOfFlatList (is_bare_and_undecided undecided) test (wanted_of_sign (not v)) flat s → CouldTurnFlatList undecided test v flat s
wanted_atom_turns undecided test v flat s w = record {
  before = w.before;
  after = w.after;
  stands = w.stands;
  is_undecided = left_true (undecided s.atom) (has_no_digests s.digests) w.is_undecided;
  bare = right_true (undecided s.atom) (has_no_digests s.digests) w.is_undecided;
  none_behind = w.none_behind (sign_wants_not_all (not v));
  contrary = wanted_sign_is_contrary v s.allow w.sign;
}

no_place_in_empty_list : (before after : List SignedAtom) (s : SignedAtom) → [] ≡ before ++ s ∷ after → ⊥
no_place_in_empty_list [] after s e = cc
no_place_in_empty_list (x ∷ before) after s e = cc

pub no_atom_wanted_of_empty_list : (k : Kind) (lines : List Line) (undecided : SignedAtom → Bool) (test : Atom → Bool) (wanted : WantedMembers) (s : SignedAtom) → IsWantedOfList k lines undecided test [] wanted s → ⊥
no_atom_wanted_of_empty_list k lines undecided test wanted s w =
    no_place_in_empty_list w.is_wanted.before w.is_wanted.after s (sym (one_flat k lines [] w.flat [] w.is_flat none) ∙ w.is_wanted.stands)

-- what a list says
pub list_is_part_standing : (k : Kind) (lines : List Line) (undecided test : Atom → Bool) (own : Bool) (ms : List Member) (st : PartStanding) → IsStandingOfList k lines (is_bare_and_undecided undecided) test own ms st
    → IsPartStanding (ListSaysAllow own k lines test ms) (CouldTurnList k lines undecided test own ms) (IsWantedOfList k lines (is_bare_and_undecided undecided) test ms (wanted_of_sign (not st.holds))) st
list_is_part_standing k lines undecided test own ms st h = record {
  holds = λ e. let f = h.some e in (f.0, f.1, sym (h.told f.0 f.1).0 ∙ e);
  held = λ w. (h.told w.0 w.1).0 ∙ w.2;
  turns = λ s w. (h.told w.flat w.is_flat).1 ∙ turning_atom_then_sway undecided test st.holds w.flat s (turns s w);
  turned = λ e. let f = h.turned e in let w = sway_then_turning_atom undecided test st.holds f.0 (sym (h.told f.0 f.1).1 ∙ e) in (w.0, turning w.0 f.0 f.1 w.1);
  wanted = λ s w. record { flat = w.flat; is_flat = w.is_flat; is_wanted = turning_atom_is_wanted undecided test st.holds w.flat s (turns s w) };
  only = λ s w. turning s w.flat w.is_flat (wanted_atom_turns undecided test st.holds w.flat s w.is_wanted);
}
  where
    turns : (s : SignedAtom) → (w : CouldTurnList k lines undecided test own ms s) → CouldTurnFlatList undecided test st.holds w.flat s
    turns s w = subst (λ v. CouldTurnFlatList undecided test v w.flat s) (sym (h.told w.flat w.is_flat).0) w.turns

    turning : (s : SignedAtom) (flat : List SignedAtom) → IsFlatListOf k lines ms flat → CouldTurnFlatList undecided test st.holds flat s → CouldTurnList k lines undecided test own ms s
    turning s flat f w = record { flat = flat; is_flat = f; turns = subst (λ v. CouldTurnFlatList undecided test v flat s) (h.told flat f).0 w }

pub part_standing_as : {P Q : Type 0} {T U W V : SignedAtom → Type 0} (st : PartStanding) → (P ↔ Q) → ((s : SignedAtom) → U s ↔ T s) → ((s : SignedAtom) → W s ↔ V s) → IsPartStanding P T W st → IsPartStanding Q U V st
part_standing_as st e f g h = record {
  holds = λ t. e.0 (h.holds t);
  held = λ q. h.held (e.1 q);
  turns = λ s u. h.turns s ((f s).0 u);
  turned = λ t. let w = h.turned t in (w.0, (f w.0).1 w.1);
  wanted = λ s u. (g s).0 (h.wanted s ((f s).0 u));
  only = λ s v. (f s).1 (h.only s ((g s).1 v));
}

pub fact_is_part_standing : {P : Type 0} {T W : SignedAtom → Type 0} (st : PartStanding) → (st.holds ≡ true → P) → (P → st.holds ≡ true) → st.could_turn ≡ false → ((s : SignedAtom) → T s → ⊥) → ((s : SignedAtom) → W s → ⊥)
    → IsPartStanding P T W st
fact_is_part_standing st a b fixed unturned unwanted = record {
  holds = a;
  held = b;
  turns = λ s t. absurd (unturned s t);
  turned = λ t. let clash : false ≡ true = sym fixed ∙ t in absurd cc;
  wanted = λ s t. absurd (unturned s t);
  only = λ s w. absurd (unwanted s w);
}

pub decided_list_stands : (lines : List Line) (k : Kind) (undecided : SignedAtom → Bool) (test : Atom → Bool) (d : DecidedAliases) → AreDecidedBy lines k undecided test d → (own : Bool) (ms : List Member) (st : PartStanding)
    → IsStandingOfList d.kind lines (undecided_by d) (matched_by d) own ms st → IsStandingOfList k lines undecided test own ms st
decided_list_stands lines k undecided test d a own ms st h =
    subst (λ (j : Kind). IsStandingOfList j lines undecided test own ms st) a.kind
    (subst (λ (u : SignedAtom → Bool). IsStandingOfList d.kind lines u test own ms st) a.undecided_are
    (subst (λ (t : Atom → Bool). IsStandingOfList d.kind lines (undecided_by d) t own ms st) a.matched_are h))

pub list_stands : (lines : List Line) (k : Kind) (undecided test : Atom → Bool) (d : DecidedAliases) → AreDecidedBy lines k (is_bare_and_undecided undecided) test d → (ms : List Member) (st : PartStanding)
    → IsStandingOfList d.kind lines (undecided_by d) (matched_by d) false ms st
    → IsPartStanding (ListAllows k lines test ms) (CouldTurnList k lines undecided test false ms) (IsWantedOfList k lines (is_bare_and_undecided undecided) test ms (wanted_of_sign (not st.holds))) st
list_stands lines k undecided test d a ms st h =
    part_standing_as st ((list_allows_as_it_says k lines test ms).1, (list_allows_as_it_says k lines test ms).0) (λ s. ((λ u. u), (λ u. u))) (λ s. ((λ w. w), (λ w. w)))
    (list_is_part_standing k lines undecided test false ms st (decided_list_stands lines k (is_bare_and_undecided undecided) test d a false ms st h))

-- ---- Runas_Specs

module _ (lines : List Line) (r : Request) where
  abbrev Users : List Member → PartStanding → Type 0
  Users us st = IsPartStanding (RunasUserListAllowsByTests lines (match_tests_of_request r) r.who.user r.target us) (CouldTurnRunasUserList lines (undecided_by_files_or_paths r) (match_tests_of_request r) us)
      (IsWantedOfList Runas lines (is_bare_and_undecided (undecided_by_files_or_paths r).target) (match_tests_of_request r).target us (wanted_of_sign (not st.holds))) st

  pub no_runas_users_stand : (us : List Member) → us ≡ [] → (st : PartStanding) → (st.holds ≡ true → r.target.uid ≡ r.who.user.uid) → (r.target.uid ≡ r.who.user.uid → st.holds ≡ true) → st.could_turn ≡ false → Users us st
  no_runas_users_stand us e st a b fixed = subst (λ xs. Users xs st) (sym e) (fact_is_part_standing st a b fixed (λ s t. t) (no_atom_wanted_of_empty_list Runas lines _ _ _))

  pub runas_users_stand : (us : List Member) → (us ≡ [] → ⊥) → (st : PartStanding)
      → IsPartStanding (ListAllows Runas lines (match_tests_of_request r).target us) (CouldTurnList Runas lines (undecided_by_files_or_paths r).target (match_tests_of_request r).target false us)
      (IsWantedOfList Runas lines (is_bare_and_undecided (undecided_by_files_or_paths r).target) (match_tests_of_request r).target us (wanted_of_sign (not st.holds))) st
      → Users us st
  runas_users_stand [] n st h = absurd (n refl)
  runas_users_stand (u ∷ us) n st h = h

  abbrev Groups : Option Group → List Member → List Member → PartStanding → Type 0
  Groups group us gs st = IsPartStanding (RunasListsAllowGroupByTests lines (match_tests_of_request r) r.who.user r.target group us gs)
      (CouldTurnRunasGroupList lines (undecided_by_files_or_paths r) (match_tests_of_request r) r.target group gs) (IsWantedGroupOf lines r group st gs) st

  pub no_group_stands : (us gs : List Member) (st : PartStanding) → st.holds ≡ true → st.could_turn ≡ false → Groups None us gs st
  no_group_stands [] [] st e fixed = fact_is_part_standing st (λ _. refl) (λ _. e) fixed (λ s t. t) (λ s w. w)
  no_group_stands (u ∷ us) [] st e fixed = fact_is_part_standing st (λ _. refl) (λ _. e) fixed (λ s t. t) (λ s w. w)
  no_group_stands [] (g ∷ gs) st e fixed = fact_is_part_standing st (λ _. tt) (λ _. e) fixed (λ s t. t) (λ s w. w)
  no_group_stands (u ∷ us) (g ∷ gs) st e fixed = fact_is_part_standing st (λ _. tt) (λ _. e) fixed (λ s t. t) (λ s w. w)

  pub group_of_user_stands : (g : Group) (us gs : List Member) (st : PartStanding) → us ≡ [] → gs ≡ [] → st.holds ≡ is_group_absent_or_among r.who.user.groups (Some g) → st.could_turn ≡ false → Groups (Some g) us gs st
  group_of_user_stands g us gs st e f h fixed =
      subst (λ xs. Groups (Some g) xs gs st) (sym e)
      (subst (λ xs. Groups (Some g) [] xs st) (sym f) (fact_is_part_standing st (λ t. sym h ∙ t) (λ t. h ∙ t) fixed (λ s t. t) (no_atom_wanted_of_empty_list Runas lines _ _ _)))

  pub group_of_target_stands : (g : Group) (us gs : List Member) (st : PartStanding) → (us ≡ [] → ⊥) → gs ≡ [] → st.holds ≡ is_group_absent_or_among r.target.groups (Some g) → st.could_turn ≡ false → Groups (Some g) us gs st
  group_of_target_stands g [] gs st n f h fixed = absurd (n refl)
  group_of_target_stands g (u ∷ us) gs st n f h fixed =
      subst (λ xs. Groups (Some g) (u ∷ us) xs st) (sym f) (fact_is_part_standing st (λ t. sym h ∙ t) (λ t. h ∙ t) fixed (λ s t. t) (no_atom_wanted_of_empty_list Runas lines _ _ _))

  pub group_list_stands : (g : Group) (us gs : List Member) (st : PartStanding) (own : Bool) → own ≡ is_group_absent_or_among r.target.groups (Some g) → (gs ≡ [] → ⊥)
      → IsStandingOfList Runas lines (is_bare_and_undecided ((undecided_by_files_or_paths r).group g)) ((match_tests_of_request r).group g) own gs st → Groups (Some g) us gs st
  group_list_stands g us [] st own e n h = absurd (n refl)
  group_list_stands g [] (x ∷ gs) st own e n h = said g x gs st own e h
    where
      said : (g : Group) (x : Member) (gs : List Member) (st : PartStanding) (own : Bool) → own ≡ is_group_absent_or_among r.target.groups (Some g)
          → IsStandingOfList Runas lines (is_bare_and_undecided ((undecided_by_files_or_paths r).group g)) ((match_tests_of_request r).group g) own (x ∷ gs) st → Groups (Some g) [] (x ∷ gs) st
      said g x gs st own e h =
          let at = subst (λ o. IsStandingOfList Runas lines (is_bare_and_undecided ((undecided_by_files_or_paths r).group g)) ((match_tests_of_request r).group g) o (x ∷ gs) st) e h in
          let same = group_list_allows_as_it_says Runas lines ((match_tests_of_request r).group g) (x ∷ gs) (is_group_absent_or_among r.target.groups (Some g)) in
          part_standing_as st (same.1, same.0) (λ s. ((λ u. u), (λ u. u))) (λ s. ((λ w. w), (λ w. w)))
          (list_is_part_standing Runas lines ((undecided_by_files_or_paths r).group g) ((match_tests_of_request r).group g) (is_group_absent_or_among r.target.groups (Some g)) (x ∷ gs) st at)
  group_list_stands g (u ∷ us) (x ∷ gs) st own e n h =
      let at = subst (λ o. IsStandingOfList Runas lines (is_bare_and_undecided ((undecided_by_files_or_paths r).group g)) ((match_tests_of_request r).group g) o (x ∷ gs) st) e h in
      let same = group_list_allows_as_it_says Runas lines ((match_tests_of_request r).group g) (x ∷ gs) (is_group_absent_or_among r.target.groups (Some g)) in
      part_standing_as st (same.1, same.0) (λ s. ((λ u. u), (λ u. u))) (λ s. ((λ w. w), (λ w. w)))
      (list_is_part_standing Runas lines ((undecided_by_files_or_paths r).group g) ((match_tests_of_request r).group g) (is_group_absent_or_among r.target.groups (Some g)) (x ∷ gs) st at)

-- ---- aliases of a request

pub aliases_decided_by : (lines : List Line) (k : Kind) (undecided : SignedAtom → Bool) (test : Atom → Bool) (d : DecidedAliases) (q : MemberQuestion) → DecidesAllAliases lines d → d.kind ≡ k → d.question ≡ q
    → is_undecided_by_question q ≡ undecided → is_atom_matched_by_question q ≡ test → AreDecidedBy lines k undecided test d
aliases_decided_by lines k undecided test d q all kind same u t = record { all = all; kind = kind; undecided_are = ap is_undecided_by_question same ∙ u; matched_are = ap is_atom_matched_by_question same ∙ t }

pub group_aliases_decided : (lines : List Line) (r : Request) (o : Option Group) (d : DecidedAliases) (q : MemberQuestion) → DecidesAllAliases lines d → d.kind ≡ Runas → d.question ≡ q → IsGroupQuestion o q → AreGroupAliases lines r o d
group_aliases_decided lines r None d q all kind same g = (all, (λ s. ap (λ x. is_undecided_by_question x s) same ∙ g s))
group_aliases_decided lines r (Some x) d q all kind same g = aliases_decided_by lines Runas _ _ d q all kind same g.0 g.1

pub group_aliases_are_decided : (lines : List Line) (r : Request) (o : Option Group) (d : DecidedAliases) → AreGroupAliases lines r o d → DecidesAllAliases lines d
group_aliases_are_decided lines r None d a = a.0
group_aliases_are_decided lines r (Some g) d a = a.all

pub asked_group_aliases : (lines : List Line) (r : Request) (g : Group) (d : DecidedAliases) → r.target_group ≡ Some g → AreGroupAliases lines r r.target_group d
    → AreDecidedBy lines Runas (is_bare_and_undecided ((undecided_by_files_or_paths r).group g)) ((match_tests_of_request r).group g) d
asked_group_aliases lines r g d e a = subst (λ o. AreGroupAliases lines r o d) e a

pub not_empty : {X Y : Type 0} (f : X → Y) (xs : List X) → (length xs == 0) ≡ false → map f xs ≡ [] → ⊥
not_empty f [] e same = let clash : true ≡ false = e in cc
not_empty f (x ∷ xs) e same = cc

pub empty_when_none : {X Y : Type 0} (f : X → Y) (xs : List X) → (length xs == 0) ≡ true → map f xs ≡ []
empty_when_none f [] e = refl
empty_when_none f (x ∷ xs) e = let clash : length (x ∷ xs) ≡ 0 = eqb-true (length (x ∷ xs)) 0 e in absurd cc

pub stands_for_group : (lines : List Line) (r : Request) (g : Group) → r.target_group ≡ Some g → (us gs : List Member) (st : PartStanding)
    → IsPartStanding (RunasListsAllowGroupByTests lines (match_tests_of_request r) r.who.user r.target (Some g) us gs)
    (CouldTurnRunasGroupList lines (undecided_by_files_or_paths r) (match_tests_of_request r) r.target (Some g) gs) (IsWantedGroupOf lines r (Some g) st gs) st
    → IsPartStanding (RunasListsAllowGroupByTests lines (match_tests_of_request r) r.who.user r.target r.target_group us gs)
    (CouldTurnRunasGroupList lines (undecided_by_files_or_paths r) (match_tests_of_request r) r.target r.target_group gs) (IsWantedGroupOf lines r r.target_group st gs) st
stands_for_group lines r g e us gs st h =
    subst (λ o. IsPartStanding (RunasListsAllowGroupByTests lines (match_tests_of_request r) r.who.user r.target o us gs)
    (CouldTurnRunasGroupList lines (undecided_by_files_or_paths r) (match_tests_of_request r) r.target o gs) (IsWantedGroupOf lines r o st gs) st) (sym e) h

pub default_user_stands : (lines : List Line) (r : Request) (scopes : UserAndHostLists) (name : List ℕ) (st : PartStanding) → IsRunasDefaultByTests lines (match_tests_of_request r) name
    → ((s : SignedAtom) → CouldTurnRunasDefault lines (undecided_by_files_or_paths r) (match_tests_of_request r) s ↔ IsWantedOfScopes lines r scopes s)
    → st.holds ≡ is_name_equal_ignoring_case name r.target.name → ((s : SignedAtom) → IsWantedOfScopes lines r scopes s → st.could_turn ≡ true) → (st.could_turn ≡ true → (s : SignedAtom) × IsWantedOfScopes lines r scopes s)
    → IsRunasUsersStanding lines r scopes None st
default_user_stands lines r scopes name st default turns holds could turned = record {
  holds = λ e. (name, default, sym holds ∙ e);
  held = λ w. holds ∙ ap (λ n. is_name_equal_ignoring_case n r.target.name) (one_default name w.0 default w.1) ∙ w.2;
  turns = λ s t. could s ((turns s).0 t);
  turned = λ e. let w = turned e in (w.0, (turns w.0).1 w.1);
  wanted = λ s. (turns s).0;
  only = λ s. (turns s).1;
}
  where
    one_default : (a b : List ℕ) → IsRunasDefaultByTests lines (match_tests_of_request r) a → IsRunasDefaultByTests lines (match_tests_of_request r) b → a ≡ b
    one_default a b d e =
        d.says ∙ ap runas_name_or_root (last_one (λ (setting : Option Scope × List ℕ). IsScopeForUserOnHostByTests lines (match_tests_of_request r) setting.0) (runas_defaults_of_lines lines) d.last e.last d.is_last e.is_last) ∙ sym e.says
