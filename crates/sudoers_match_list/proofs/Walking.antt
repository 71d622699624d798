-- The steps of the walk.
use Rattle.sudoers_match_list.proofs.Common.{AliasDecisionState, AliasSearchStep, AreStepsReachedFromRoot, Atom, Bool, Decided, IsConsistentAliasSearch, HoldsHitOfMembersBeforeNext, IsLastHitOfList, AreNumberAndMembersOfAlias, Kind}
use Rattle.sudoers_match_list.proofs.Common.{LeadsToAliasInAnySteps, Line, List, New, AliasNumberAndMembers, Open, Some, [], ap, arith, definitions_of_lines, first_step_of_alias, get-set, get-set_other, get-set_same, get_front}
use Rattle.sudoers_match_list.proofs.Common.{get_push, get_pushed, here, inl, inr, length, length-set, members_of_definition_number, members_of_view, refl, set, slice_get, slice_get_within, subst, sym, take}
use Rattle.sudoers_match_list.proofs.Common.{take_all, ℕ, ◌++◌, ◌<◌, ◌∙◌, ◌∷◌, ◌≡◌, ◌≢◌, ◌≤◌}
use Rattle.sudoers_match_list.proofs.Flats.{empty_list_has_no_last_hit}

module _ (kd : Kind) (lines : List Line) (test : Atom → Bool) where
  -- ---- the last step of the way changes, but not its alias

  -- where a step of the same alias stands
  alike : (way : List AliasSearchStep) (s n : AliasSearchStep) → s.alias ≡ n.alias → (p : ℕ) (t : AliasSearchStep) → slice_get (way ++ n ∷ []) p ≡ Some t
      → (u : AliasSearchStep) × (slice_get (way ++ s ∷ []) p ≡ Some u) × (u.alias ≡ t.alias)
  alike way s n same p t at = elim (get_push way n p t at) [
    | inl old ↦ (t, get_front way (s ∷ []) p t old, refl)
    | inr new ↦ (s, subst (λ i. slice_get (way ++ s ∷ []) i ≡ Some s) (sym new.0) (get_pushed way s), same ∙ ap (λ (x : AliasSearchStep). x.alias) new.1)
  ]

  pub changed : (standings : List AliasDecisionState) (way : List AliasSearchStep) (s n : AliasSearchStep) → IsConsistentAliasSearch kd lines test standings (way ++ s ∷ []) → s.alias ≡ n.alias → HoldsHitOfMembersBeforeNext kd lines test n
      → IsConsistentAliasSearch kd lines test standings (way ++ n ∷ [])
  changed standings way s n f same good = record {
    size = f.size;
    decided = f.decided;
    steps = λ p t at. elim (get_push way n p t at) [
      | inl old ↦ f.steps p t (get_front way (s ∷ []) p t old)
      | inr new ↦ subst (HoldsHitOfMembersBeforeNext kd lines test) new.1 good
    ];
    opened = λ p t at. let u = alike way s n same p t at in subst (λ k. slice_get standings k ≡ Some Open) u.2 (f.opened p u.0 u.1);
    on_way = λ k is. let found = f.on_way k is in let u = alike way n s (sym same) found.0 found.1 found.2 in (found.0, u.0, u.1, u.2 ∙ found.3);
    apart = λ p q t u at to e. let x = alike way s n same p t at in let y = alike way s n same q u to in f.apart p q x.0 y.0 x.1 y.1 (x.2 ∙ e ∙ sym y.2);
    paths = λ p q t u at to le. let x = alike way s n same p t at in let y = alike way s n same q u to in
        subst (λ k. LeadsToAliasInAnySteps kd lines k u.alias) x.2 (subst (LeadsToAliasInAnySteps kd lines x.0.alias) y.2 (f.paths p q x.0 y.0 x.1 y.1 le));
  }

  pub changed_root : (way : List AliasSearchStep) (s n : AliasSearchStep) → s.alias ≡ n.alias → (root : ℕ) → AreStepsReachedFromRoot kd lines root (way ++ s ∷ []) → AreStepsReachedFromRoot kd lines root (way ++ n ∷ [])
  changed_root way s n same root r p t at = let u = alike way s n same p t at in subst (LeadsToAliasInAnySteps kd lines root) u.2 (r p u.0 u.1)

  -- ---- the last alias of the way is decided

  pub last_open : (standings : List AliasDecisionState) (way : List AliasSearchStep) (s : AliasSearchStep) → IsConsistentAliasSearch kd lines test standings (way ++ s ∷ []) → slice_get standings s.alias ≡ Some Open
  last_open standings way s f = f.opened (length way) s (get_pushed way s)

  pub last_within : (standings : List AliasDecisionState) (way : List AliasSearchStep) (s : AliasSearchStep) → IsConsistentAliasSearch kd lines test standings (way ++ s ∷ []) → s.alias < length (definitions_of_lines lines)
  last_within standings way s f = omega (arith, slice_get_within standings s.alias Open (last_open standings way s f), f.size)

  pub closed : (standings : List AliasDecisionState) (way : List AliasSearchStep) (s : AliasSearchStep) → IsConsistentAliasSearch kd lines test standings (way ++ s ∷ []) → length (members_of_definition_number lines s.alias) ≤ s.next
      → IsConsistentAliasSearch kd lines test (set standings s.alias (Decided s.latest)) way
  closed standings way s f end =
      let last : slice_get (way ++ s ∷ []) (length way) ≡ Some s = get_pushed way s in
      let good = f.steps (length way) s last in
      let whole : take s.next (members_of_definition_number lines s.alias) ≡ members_of_definition_number lines s.alias = take_all s.next (members_of_definition_number lines s.alias) end in
      let other : (p : ℕ) (t : AliasSearchStep) → slice_get way p ≡ Some t → t.alias ≢ s.alias = λ p t at e.
      let same = f.apart p (length way) t s (get_front way (s ∷ []) p t at) last e in omega (arith, same, slice_get_within way p t at) in
      record {
        size = length-set standings s.alias (Decided s.latest) ∙ f.size;
        decided = λ k hit is. elim (get-set standings s.alias k (Decided s.latest) (Decided hit) is) [
          | inl new ↦ let h : s.latest ≡ hit = let e : Decided s.latest ≡ Decided hit = new.1 in cc in
              subst (λ j. IsLastHitOfList kd lines test (members_of_definition_number lines j) hit) (sym new.0) (subst (IsLastHitOfList kd lines test (members_of_definition_number lines s.alias)) h
              (subst (λ ms. IsLastHitOfList kd lines test ms s.latest) whole good.latest))
          | inr old ↦ f.decided k hit old.1
        ];
        steps = λ p t at. f.steps p t (get_front way (s ∷ []) p t at);
        opened = λ p t at. get-set_other standings s.alias t.alias (Decided s.latest) (other p t at) ∙ f.opened p t (get_front way (s ∷ []) p t at);
        on_way = λ k is. elim (get-set standings s.alias k (Decided s.latest) Open is) [
          | inl new ↦ let clash : Decided s.latest ≡ Open = new.1 in absurd cc
          | inr old ↦ let found = f.on_way k old.1 in elim (get_push way s found.0 found.1 found.2) [
            | inl at ↦ (found.0, found.1, at, found.3)
            | inr there ↦ absurd (old.0 (sym found.3 ∙ ap (λ (x : AliasSearchStep). x.alias) (sym there.1)))
          ]
        ];
        apart = λ p q t u at to. f.apart p q t u (get_front way (s ∷ []) p t at) (get_front way (s ∷ []) q u to);
        paths = λ p q t u at to. f.paths p q t u (get_front way (s ∷ []) p t at) (get_front way (s ∷ []) q u to);
      }

  -- ---- an alias is entered

  pub entered : (standings : List AliasDecisionState) (way : List AliasSearchStep) (a : AliasNumberAndMembers) → IsConsistentAliasSearch kd lines test standings way → AreNumberAndMembersOfAlias lines a.number (members_of_view a.members)
      → slice_get standings a.number ≡ Some New → ((p : ℕ) (t : AliasSearchStep) → slice_get way p ≡ Some t → LeadsToAliasInAnySteps kd lines t.alias a.number)
      → IsConsistentAliasSearch kd lines test (set standings a.number Open) (way ++ first_step_of_alias a ∷ [])
  entered standings way a f good is reach =
      let k = a.number in
      let n = first_step_of_alias a in
      let within = slice_get_within standings k New is in
      let other : (p : ℕ) (t : AliasSearchStep) → slice_get way p ≡ Some t → t.alias ≢ k = λ p t at e.
      let clash : Some Open ≡ Some New = sym (f.opened p t at) ∙ ap (slice_get standings) e ∙ is in cc in
      record {
        size = length-set standings k Open ∙ f.size;
        decided = λ j hit at. elim (get-set standings k j Open (Decided hit) at) [
          | inl new ↦ let clash : Open ≡ Decided hit = new.1 in absurd cc
          | inr old ↦ f.decided j hit old.1
        ];
        steps = λ p t at. elim (get_push way n p t at) [
          | inl old ↦ f.steps p t old
          | inr new ↦ subst (HoldsHitOfMembersBeforeNext kd lines test) new.1 (record { members_are = good.members_are; within = omega arith; latest = empty_list_has_no_last_hit kd lines test })
        ];
        opened = λ p t at. elim (get_push way n p t at) [
          | inl old ↦ get-set_other standings k t.alias Open (other p t old) ∙ f.opened p t old
          | inr new ↦ subst (λ j. slice_get (set standings k Open) j ≡ Some Open) (ap (λ (x : AliasSearchStep). x.alias) new.1) (get-set_same standings k Open within)
        ];
        on_way = λ j at. elim (get-set standings k j Open Open at) [
          | inl new ↦ (length way, n, get_pushed way n, sym new.0)
          | inr old ↦ let found = f.on_way j old.1 in (found.0, found.1, get_front way (n ∷ []) found.0 found.1 found.2, found.3)
        ];
        apart = λ p q t u at to e. elim (get_push way n p t at) [
          | inl old ↦ elim (get_push way n q u to) [
            | inl older ↦ f.apart p q t u old older e
            | inr newer ↦ absurd (other p t old (e ∙ ap (λ (x : AliasSearchStep). x.alias) (sym newer.1)))
          ]
          | inr new ↦ elim (get_push way n q u to) [
            | inl older ↦ absurd (other q u older (sym e ∙ ap (λ (x : AliasSearchStep). x.alias) (sym new.1)))
            | inr newer ↦ new.0 ∙ sym newer.0
          ]
        ];
        paths = λ p q t u at to le. elim (get_push way n q u to) [
          | inl older ↦ elim (get_push way n p t at) [
            | inl old ↦ f.paths p q t u old older le
            | inr new ↦ absurd (omega (arith, slice_get_within way q u older, new.0))
          ]
          | inr newer ↦ subst (LeadsToAliasInAnySteps kd lines t.alias) (ap (λ (x : AliasSearchStep). x.alias) newer.1) (elim (get_push way n p t at) [
            | inl old ↦ reach p t old
            | inr new ↦ here k (ap (λ (x : AliasSearchStep). x.alias) (sym new.1))
          ])
        ];
      }
