-- The last row that fits, of rows one after another.
use Rattle.sudoers_match.proofs.Common.{AllByRecursion, Answer, Atom, AreRowsPerFlatAtomOfCommand, AreRowsPerFlatAtomOfHostGroup, AreRowsPerFlatAtomOfSpec, Bool, CmdSpec, Cmnd, HeadHeld, HasNoFittingRowBehind, HoldsCommandSettings, Host, HostGroup, IsAnswerOfCommandsSoFar}
use Rattle.sudoers_match.proofs.Common.{IsAnswerOfRowsByTest, IsAnswerOfRowsSoFar, IsConcatenationOfParts, IsFlatListOf, IsLastHitOfList, IsLastItemWith, Line, List, ListAllows, Member, MemberHit, None, Option, PrivilegeRow, Request}
use Rattle.sudoers_match.proofs.Common.{RowFitsRequestByTest, RunasSpec, RunasSpecAllows, RunasSpecLeadsToNoCycle, AccumulatedCommandSettings, SignedAtom, Some, User, UserSpec, [], answer_of_command_hit, answer_of_fitting_row, ap}
use Rattle.sudoers_match.proofs.Common.{append-nil, append_assoc, arith, commands_with_settings, drop, drop_all, empty_command_settings, false, final_tags_of, final_values_of_options}
use Rattle.sudoers_match.proofs.Common.{hit_of_signed_atom, if◌then◌else◌, is_all_atom, is_command_hit_by_test, is_host_atom_match, is_in_option_time_bounds, is_user_atom_match}
use Rattle.sudoers_match.proofs.Common.{last_hit_of_list, later_hit_if_any, length, map, option_map, option_or, privilege_row_of, refl, settings_after_command, slice_get, subst, suc, sym, tags_with_setenv_by_all, zero}
use Rattle.sudoers_match.proofs.Common.{true, ℕ, ◌++◌, ◌+◌, ◌∙◌, ◌∷◌, ◌≡◌, ◌≤◌}
use Rattle.std.proofs.Math.Numerals.{add-one}
use Rattle.std.proofs.lemmas.Bool.{false≢true}
use Rattle.sudoers_match.specs.declared.answer_of_row.SpecGroupCommandNumbers.{SpecGroupCommandNumbers}
use Rattle.sudoers_match.proofs.Gathered.{list_from_index_is_element_and_rest, rest_after_first_is_from_next}
use Rattle.sudoers_match.proofs.Lasts.{all_append, last_then, option_map_distributes_over_option_or}

abbrev pub hit_if_true : Bool → MemberHit → Option MemberHit
hit_if_true t h = if t then Some h else None

hit_if_true_implies_truth_and_hit : (t : Bool) (made h : MemberHit) → hit_if_true t made ≡ Some h → (t ≡ true) × (made ≡ h)
hit_if_true_implies_truth_and_hit true made h e = (refl, let same : made ≡ h = cc in same)
hit_if_true_implies_truth_and_hit false made h e = absurd cc

pub no_hit_if_true_implies_false : (t : Bool) (made : MemberHit) → hit_if_true t made ≡ None → t ≡ false
no_hit_if_true_implies_false true made e = let clash : Some made ≡ None = e in cc
no_hit_if_true_implies_false false made e = refl

abbrev pub hit_of_signed_atom_made : SignedAtom → MemberHit
hit_of_signed_atom_made s = record { allow = s.allow; by_all = is_all_atom s.atom }

module _ {X : Type 0} (Part : ℕ → X → List PrivilegeRow → Type 0) where
  pub joined_all : (Q : PrivilegeRow → Type 0) → ((i : ℕ) (x : X) (rows : List PrivilegeRow) → Part i x rows → AllByRecursion Q rows)
      → (i : ℕ) (xs : List X) (rows : List PrivilegeRow) → IsConcatenationOfParts Part i xs rows → AllByRecursion Q rows
  joined_all Q each i [] rows j = subst (AllByRecursion Q) (sym j) tt
  joined_all Q each i (x ∷ xs) rows j =
      subst (AllByRecursion Q) (sym j.2) (all_append Q j.0 j.1 (each i x j.0 j.3) (joined_all Q each (suc i) xs j.1 j.4))

-- The rows of parts are those before the part at an index, those of this part, and those of the parts behind it.
parts_before : {X : Type 0} (Part : ℕ → X → List PrivilegeRow → Type 0) (all : List X) (n i : ℕ) (x : X) (rows : List PrivilegeRow) → slice_get all i ≡ Some x → IsConcatenationOfParts Part n all rows
    → (before : List PrivilegeRow) × (part : List PrivilegeRow) × (after : List PrivilegeRow) × (rows ≡ before ++ (part ++ after)) × Part (n + i) x part × IsConcatenationOfParts Part (n + i + 1) (drop (i + 1) all) after
parts_before Part [] n i x rows at j = absurd cc
parts_before Part (y ∷ ys) n zero x rows at j =
    let same : y ≡ x = cc in (
      [],
      j.0,
      j.1,
      j.2,
      subst (λ m. Part m x j.0) (omega arith) (subst (λ z. Part n z j.0) same j.3),
      subst (λ m. IsConcatenationOfParts Part m ys j.1) (omega arith) j.4,
    )
parts_before {X} Part (y ∷ ys) n (suc i) x rows at j =
    let w = parts_before Part ys (suc n) i x j.1 at j.4 in
    let here : suc n + i ≡ n + suc i = omega arith in
    let next : suc n + i + 1 ≡ n + suc i + 1 = omega arith in
    let more : suc (i + 1) ≡ suc i + 1 = omega arith in
    let left : drop (i + 1) ys ≡ drop (suc i + 1) (y ∷ ys) = ap (λ k. drop k (y ∷ ys)) more in (
      j.0 ++ w.0,
      w.1,
      w.2,
      j.2 ∙ ap (λ rs. j.0 ++ rs) w.3 ∙ sym (append_assoc j.0 w.0 (w.1 ++ w.2)),
      subst (λ m. Part m x w.1) here w.4,
      subst (λ (zs : List X). IsConcatenationOfParts Part (n + suc i + 1) zs w.2) left (subst (λ m. IsConcatenationOfParts Part m (drop (i + 1) ys) w.2) next w.5),
    )

module _ (lines : List Line) (test : Atom → Bool) (r : Request) where
  abbrev pub No : PrivilegeRow → Type 0
  No row = RowFitsRequestByTest lines test r row → ⊥

  pub answers_none : (rows : List PrivilegeRow) → AllByRecursion No rows → IsAnswerOfRowsByTest lines test r rows None
  answers_none rows none = record { last = None; is_last = none; says = refl }

  pub answers_then : (rows more : List PrivilegeRow) (a b : Option Answer) → IsAnswerOfRowsByTest lines test r rows a → IsAnswerOfRowsByTest lines test r more b → IsAnswerOfRowsByTest lines test r (rows ++ more) (option_or b a)
  answers_then rows more a b l m = record {
    last = option_or m.last l.last;
    is_last = last_then (RowFitsRequestByTest lines test r) rows more l.last m.last l.is_last m.is_last;
    says = ap (λ x. option_or x a) m.says ∙ ap (option_or (option_map answer_of_fitting_row m.last)) l.says ∙ sym (option_map_distributes_over_option_or answer_of_fitting_row m.last l.last);
  }

  none_of_last : (rows : List PrivilegeRow) (last : Option PrivilegeRow) → None ≡ option_map answer_of_fitting_row last → IsLastItemWith (RowFitsRequestByTest lines test r) rows last → AllByRecursion No rows
  none_of_last rows None e l = l
  none_of_last rows (Some row) e l = absurd cc

  pub none_of_answer : (rows : List PrivilegeRow) → IsAnswerOfRowsByTest lines test r rows None → AllByRecursion No rows
  none_of_answer rows a = none_of_last rows a.last a.says a.is_last

  -- the last row that fits stands among these: none fits behind
  answer_in_middle : (before rows after : List PrivilegeRow) (a : Answer) → IsAnswerOfRowsByTest lines test r rows (Some a) → AllByRecursion No after
      → IsAnswerOfRowsByTest lines test r (before ++ (rows ++ after)) (Some a)
  answer_in_middle before rows after a is none = by is.last is.says is.is_last
    where
      by : (last : Option PrivilegeRow) → Some a ≡ option_map answer_of_fitting_row last → IsLastItemWith (RowFitsRequestByTest lines test r) rows last
          → IsAnswerOfRowsByTest lines test r (before ++ (rows ++ after)) (Some a)
      by None e l = absurd cc
      by (Some row) e l = record {
        last = Some row;
        is_last = (
          before ++ l.0,
          l.1 ++ after,
          ap (λ rs. before ++ (rs ++ after)) l.2 ∙ ap (λ rs. before ++ rs) (append_assoc l.0 (row ∷ l.1) after) ∙ sym (append_assoc before l.0 ((row ∷ l.1) ++ after)),
          l.3,
          all_append No l.1 after l.4 none,
        );
        says = e;
      }

  -- ---- things one after another

  module _ {X : Type 0} (Part : ℕ → X → List PrivilegeRow → Type 0) where
    module _ (all : List X) where
      pub so_far_none : IsAnswerOfRowsSoFar Part lines test r all 0 all None
      so_far_none = record { holds = λ rows j. ([], rows, refl, answers_none [] tt, j) }

      pub so_far_more : (i : ℕ) (x : X) (left more : List X) (latest a : Option Answer) → left ≡ x ∷ more → IsAnswerOfRowsSoFar Part lines test r all i left latest
          → ((rows : List PrivilegeRow) → Part i x rows → IsAnswerOfRowsByTest lines test r rows a) → IsAnswerOfRowsSoFar Part lines test r all (i + 1) more (option_or a latest)
      so_far_more i x left more latest a e s each = record {
        holds = λ rows j.
            let w = s.holds rows j in
            let rest : IsConcatenationOfParts Part i (x ∷ more) w.1 = subst (λ ys. IsConcatenationOfParts Part i ys w.1) e w.4 in (
              w.0 ++ rest.0,
              rest.1,
              w.2 ∙ ap (λ ys. w.0 ++ ys) rest.2 ∙ sym (append_assoc w.0 rest.0 rest.1),
              answers_then w.0 rest.0 latest a w.3 (each rest.0 rest.3),
              subst (λ n. IsConcatenationOfParts Part n more rest.1) (sym (add-one i)) rest.4,
            );
      }

      pub so_far_all : (i : ℕ) (left : List X) (latest : Option Answer) → left ≡ [] → IsAnswerOfRowsSoFar Part lines test r all i left latest
          → (rows : List PrivilegeRow) → IsConcatenationOfParts Part 0 all rows → IsAnswerOfRowsByTest lines test r rows latest
      so_far_all i left latest e s rows j =
          let w = s.holds rows j in
          let none : w.1 ≡ [] = subst (λ ys. IsConcatenationOfParts Part i ys w.1) e w.4 in
          subst (λ rs. IsAnswerOfRowsByTest lines test r rs latest) (sym (w.2 ∙ ap (λ ys. w.0 ++ ys) none ∙ append-nil w.0)) w.3

  -- ---- things one after another, from the last back

  module _ {X : Type 0} (Part : ℕ → X → List PrivilegeRow → Type 0) (all : List X) where
    pub none_behind_end : (i : ℕ) → length all ≤ i → HasNoFittingRowBehind Part lines test r all i
    none_behind_end i end = record { none = λ left rows e j. subst (AllByRecursion No) (sym (subst (λ ys. IsConcatenationOfParts Part i ys rows) (e ∙ drop_all i all end) j)) tt }

    pub none_behind_more : (i : ℕ) (x : X) → slice_get all i ≡ Some x → HasNoFittingRowBehind Part lines test r all (i + 1)
        → ((rows : List PrivilegeRow) → Part i x rows → IsAnswerOfRowsByTest lines test r rows None) → HasNoFittingRowBehind Part lines test r all i
    none_behind_more i x at behind each = record {
      none = λ left rows e j.
          let two : IsConcatenationOfParts Part i (x ∷ drop (i + 1) all) rows = subst (λ ys. IsConcatenationOfParts Part i ys rows) (e ∙ list_from_index_is_element_and_rest all i x at) j in
          subst (AllByRecursion No) (sym two.2)
          (all_append No two.0 two.1 (none_of_answer two.0 (each two.0 two.3))
          (behind.none (drop (i + 1) all) two.1 refl (subst (λ n. IsConcatenationOfParts Part n (drop (i + 1) all) two.1) (sym (add-one i)) two.4)));
    }

    pub none_at_all : HasNoFittingRowBehind Part lines test r all 0 → (rows : List PrivilegeRow) → IsConcatenationOfParts Part 0 all rows → IsAnswerOfRowsByTest lines test r rows None
    none_at_all behind rows j = answers_none rows (behind.none all rows refl j)

    -- the part that decides: behind it nothing fits
    pub decided_here : (i : ℕ) (x : X) (a : Answer) → slice_get all i ≡ Some x → HasNoFittingRowBehind Part lines test r all (i + 1)
        → ((rows : List PrivilegeRow) → Part i x rows → IsAnswerOfRowsByTest lines test r rows (Some a))
        → (rows : List PrivilegeRow) → IsConcatenationOfParts Part 0 all rows → IsAnswerOfRowsByTest lines test r rows (Some a)
    decided_here i x a at behind each rows j =
        let w = parts_before Part all 0 i x rows at j in
        let here : 0 + i ≡ i = omega arith in
        let next : 0 + i + 1 ≡ i + 1 = omega arith in
        let rest = behind.none (drop (i + 1) all) w.2 refl (subst (λ n. IsConcatenationOfParts Part n (drop (i + 1) all) w.2) next w.5) in
        subst (λ rs. IsAnswerOfRowsByTest lines test r rs (Some a)) (sym w.3)
        (answer_in_middle w.0 w.1 w.2 a (each w.1 (subst (λ n. Part n x w.1) here w.4)) rest)

  -- ---- the rows of a command

  module _ (i j : ℕ) (users hosts : List Member) (k : ℕ) (head : AccumulatedCommandSettings) where
    abbrev make : SignedAtom → PrivilegeRow
    make = privilege_row_of i j users hosts k head

    abbrev place : SpecGroupCommandNumbers
    place = record { spec = i; host_group = j; command = k }

    map_none : ((s : SignedAtom) → No (make s)) → (flat : List SignedAtom) → AllByRecursion No (map make flat)
    map_none n [] = tt
    map_none n (s ∷ flat) = (n s, map_none n flat)

    pub command_none : (m : Member) (rows : List PrivilegeRow) → ((s : SignedAtom) → No (make s)) → AreRowsPerFlatAtomOfCommand lines i j users hosts k (head, m) rows → AllByRecursion No rows
    command_none m rows n p = subst (AllByRecursion No) (sym p.2) (map_none n p.0)

    abbrev the_answer : Bool → Bool → Answer
    the_answer allow all = record {
      allow = allow;
      spec = i;
      host_group = j;
      command = k;
      tags = tags_with_setenv_by_all all (final_tags_of head.tags);
      options = final_values_of_options head.options;
    }

    told_so : (s : SignedAtom) (h : MemberHit) → s.allow ≡ h.allow → is_all_atom s.atom ≡ h.by_all → answer_of_command_hit place head h ≡ answer_of_fitting_row (make s)
    told_so s h e f = ap (λ a. the_answer a h.by_all) (sym e) ∙ ap (the_answer s.allow) (sym f)

    told_later : (a b : Option MemberHit) → option_or (option_map (answer_of_command_hit place head) b) (option_map (answer_of_command_hit place head) a) ≡ option_map (answer_of_command_hit place head) (later_hit_if_any a b)
    told_later a None = refl
    told_later a (Some h) = refl

    module _ (user : ListAllows User lines (is_user_atom_match r.who.user) users) (host : ListAllows Host lines (is_host_atom_match r.who) hosts)
        (runas : RunasSpecAllows lines r.who r.target r.target_group head.runas) (moment : is_in_option_time_bounds r.moment (final_values_of_options head.options) ≡ true) where
      one_row : (s : SignedAtom) (h : Option MemberHit) → hit_of_signed_atom test s ≡ h → IsAnswerOfRowsByTest lines test r (make s ∷ []) (option_map (answer_of_command_hit place head) h)
      one_row s None e = answers_none (make s ∷ []) ((λ f. false≢true (sym (no_hit_if_true_implies_false (is_command_hit_by_test test s) (hit_of_signed_atom_made s) e) ∙ f.command)), tt)
      one_row s (Some h) e = let says = hit_if_true_implies_truth_and_hit (is_command_hit_by_test test s) (hit_of_signed_atom_made s) h e in record {
        last = Some (make s);
        is_last = ([], [], refl, record { user = user; host = host; runas = runas; moment = moment; command = says.0 }, tt);
        says = ap Some (told_so s h (ap (λ (x : MemberHit). x.allow) says.1) (ap (λ (x : MemberHit). x.by_all) says.1));
      }

      flat_rows : (flat : List SignedAtom) → IsAnswerOfRowsByTest lines test r (map make flat) (option_map (answer_of_command_hit place head) (last_hit_of_list test flat))
      flat_rows [] = answers_none [] tt
      flat_rows (s ∷ flat) =
          subst (IsAnswerOfRowsByTest lines test r (make s ∷ map make flat)) (told_later (hit_of_signed_atom test s) (last_hit_of_list test flat))
          (answers_then (make s ∷ []) (map make flat) _ _ (one_row s (hit_of_signed_atom test s) refl) (flat_rows flat))

      -- the rows of a command whose list says this
      pub by_latest : ((ms : List Member) (fs others : List SignedAtom) → IsFlatListOf Cmnd lines ms fs → IsFlatListOf Cmnd lines ms others → fs ≡ others)
          → (m : Member) (rows : List PrivilegeRow) (hit : Option MemberHit) → IsLastHitOfList Cmnd lines test (m ∷ []) hit
          → AreRowsPerFlatAtomOfCommand lines i j users hosts k (head, m) rows → IsAnswerOfRowsByTest lines test r rows (option_map (answer_of_command_hit place head) hit)
      by_latest one m rows hit l p =
          let same : last_hit_of_list test p.0 ≡ hit =
          ap (last_hit_of_list test) (one (m ∷ []) p.0 l.flat p.1 l.is_flat) ∙ l.is_last in
          subst (λ rs. IsAnswerOfRowsByTest lines test r rs (option_map (answer_of_command_hit place head) hit)) (sym p.2)
          (subst (λ h. IsAnswerOfRowsByTest lines test r (map make p.0) (option_map (answer_of_command_hit place head) h)) same (flat_rows p.0))

  -- ---- rows of which none fits

  group_none : (i j : ℕ) (users : List Member) (g : HostGroup) (rows : List PrivilegeRow)
      → ((k : ℕ) (head : AccumulatedCommandSettings) (s : SignedAtom) → No (privilege_row_of i j users g.hosts k head s)) → AreRowsPerFlatAtomOfHostGroup lines i users j g rows → AllByRecursion No rows
  group_none i j users g rows n p =
      joined_all (AreRowsPerFlatAtomOfCommand lines i j users g.hosts) No (λ k c rs q. command_none i j users g.hosts k c.0 c.1 rs (n k c.0) q) 0 (commands_with_settings empty_command_settings g.commands) rows p

  pub no_host : (i j : ℕ) (users : List Member) (g : HostGroup) (rows : List PrivilegeRow) → (ListAllows Host lines (is_host_atom_match r.who) g.hosts → ⊥)
      → AreRowsPerFlatAtomOfHostGroup lines i users j g rows → IsAnswerOfRowsByTest lines test r rows None
  no_host i j users g rows n p = answers_none rows (group_none i j users g rows (λ k head s f. n f.host) p)

  pub no_user : (i : ℕ) (spec : UserSpec) (rows : List PrivilegeRow) → (ListAllows User lines (is_user_atom_match r.who.user) spec.users → ⊥)
      → AreRowsPerFlatAtomOfSpec lines i spec rows → IsAnswerOfRowsByTest lines test r rows None
  no_user i spec rows n p = answers_none rows
      (joined_all (AreRowsPerFlatAtomOfHostGroup lines i spec.users) No (λ j g rs q. group_none i j spec.users g rs (λ k head s f. n f.user) q) 0 spec.groups rows p)

  module _ (i j : ℕ) (users hosts : List Member) (k : ℕ) (head : AccumulatedCommandSettings) (m : Member) (rows : List PrivilegeRow) where
    pub no_runas : (RunasSpecAllows lines r.who r.target r.target_group head.runas → ⊥) → AreRowsPerFlatAtomOfCommand lines i j users hosts k (head, m) rows → IsAnswerOfRowsByTest lines test r rows None
    no_runas n p = answers_none rows (command_none i j users hosts k head m rows (λ s f. n f.runas) p)

    pub no_moment : is_in_option_time_bounds r.moment (final_values_of_options head.options) ≡ false → AreRowsPerFlatAtomOfCommand lines i j users hosts k (head, m) rows → IsAnswerOfRowsByTest lines test r rows None
    no_moment e p = answers_none rows (command_none i j users hosts k head m rows (λ s f. false≢true (sym e ∙ f.moment)) p)

  -- ---- the commands of a list, one more at a time

  pub inherit_straight : (h : AccumulatedCommandSettings) (c : CmdSpec) → RunasSpecLeadsToNoCycle lines h.runas → RunasSpecLeadsToNoCycle lines c.runas → RunasSpecLeadsToNoCycle lines (settings_after_command h c).runas
  inherit_straight h c s t = by c.runas t
    where
      by : (o : Option RunasSpec) → RunasSpecLeadsToNoCycle lines o → RunasSpecLeadsToNoCycle lines (option_or o h.runas)
      by None t = s
      by (Some x) t = t

  module _ (i j : ℕ) (hosts : List Member) (cs : List CmdSpec) where
    pub list_none : (held : HeadHeld) → HoldsCommandSettings held empty_command_settings → IsAnswerOfCommandsSoFar lines test r i j hosts cs 0 held None
    list_none held is = record {
      head = empty_command_settings;
      is_head = is;
      left = refl;
      straight = tt;
      so_far = λ users user. so_far_none (AreRowsPerFlatAtomOfCommand lines i j users hosts) (commands_with_settings empty_command_settings cs);
    }

    pub list_more : (k : ℕ) (c : CmdSpec) → slice_get cs k ≡ Some c → (held new : HeadHeld) (latest a : Option Answer) → (s : IsAnswerOfCommandsSoFar lines test r i j hosts cs k held latest)
        → HoldsCommandSettings new (settings_after_command s.head c) → RunasSpecLeadsToNoCycle lines c.runas
        → ((users : List Member) → ListAllows User lines (is_user_atom_match r.who.user) users → (rows : List PrivilegeRow) → AreRowsPerFlatAtomOfCommand lines i j users hosts k (settings_after_command s.head c, c.member) rows → IsAnswerOfRowsByTest lines test r rows a)
        → IsAnswerOfCommandsSoFar lines test r i j hosts cs (k + 1) new (option_or a latest)
    list_more k c at held new latest a s is straight each = record {
      head = settings_after_command s.head c;
      is_head = is;
      left = rest_after_first_is_from_next (commands_with_settings empty_command_settings cs) k (settings_after_command s.head c, c.member) (commands_with_settings (settings_after_command s.head c) (drop (k + 1) cs)) (s.left ∙ ap (commands_with_settings s.head) (list_from_index_is_element_and_rest cs k c at));
      straight = inherit_straight s.head c s.straight straight;
      so_far = λ users user. so_far_more (AreRowsPerFlatAtomOfCommand lines i j users hosts) (commands_with_settings empty_command_settings cs) k (settings_after_command s.head c, c.member) (commands_with_settings s.head (drop k cs)) (commands_with_settings (settings_after_command s.head c) (drop (k + 1) cs)) latest a
          (ap (commands_with_settings s.head) (list_from_index_is_element_and_rest cs k c at)) (s.so_far users user) (each users user);
    }

    pub list_all : (k : ℕ) (held : HeadHeld) (latest : Option Answer) → length cs ≤ k → IsAnswerOfCommandsSoFar lines test r i j hosts cs k held latest
        → (users : List Member) → ListAllows User lines (is_user_atom_match r.who.user) users → (rows : List PrivilegeRow) → IsConcatenationOfParts (AreRowsPerFlatAtomOfCommand lines i j users hosts) 0 (commands_with_settings empty_command_settings cs) rows → IsAnswerOfRowsByTest lines test r rows latest
    list_all k held latest end s users user rows p =
        so_far_all (AreRowsPerFlatAtomOfCommand lines i j users hosts) (commands_with_settings empty_command_settings cs) k (commands_with_settings s.head (drop k cs)) latest (ap (commands_with_settings s.head) (drop_all k cs end)) (s.so_far users user) rows p
