-- What each step of the walk keeps, and that it is shorter than what was left.
use Rattle.sudoers_match_list.proofs.Common.{AliasDecisionState, AliasSearchStep, Atom, Bool, Decided, HasAliasAsMember, IsAliasCyclic, IsConsistentAliasSearch, HoldsHitOfMembersBeforeNext, IsLastHitOfList, AreNumberAndMembersOfAlias}
use Rattle.sudoers_match_list.proofs.Common.{IsSearchStepProgress, Kind, LeadsToAliasInAnySteps, Line, List, ListHasElement, Member, MemberHit, New, None, AliasNumberAndMembers, Open, Option, Some, [], alias_number_of_atom}
use Rattle.sudoers_match_list.proofs.Common.{alias_numbers_in_list, ap, arith, definitions_of_lines, first_step_of_alias, get-set, get_front, get_or_from_slice_get, get_push, get_pushed, hit_of_signed_atom}
use Rattle.sudoers_match_list.proofs.Common.{hit_under_negation, inl, inr, later_hit_if_any, length, members_of_definition_number, members_of_view, onward, refl, set, signed_atom_of_member, slice_get}
use Rattle.sudoers_match_list.proofs.Common.{slice_get_within, step_after_member, subst, suc, sym, take, take_more, zero, ℕ, ◌++◌, ◌+◌, ◌<◌, ◌∙◌, ◌∷◌, ◌≡◌, ◌≤◌}
use Rattle.sudoers_match_list.proofs.Flats.{member_without_alias_extends_last_hit, alias_member_extends_last_hit}
use Rattle.sudoers_match_list.proofs.Cycles.{closes, front_some, front_none}
use Rattle.sudoers_match_list.proofs.Fuel.{entering_alias_uses_its_search_steps, deciding_alias_keeps_search_steps_left, pushed_step_adds_its_steps_left}
use Rattle.sudoers_match_list.proofs.Walking.{changed, changed_root, last_open, closed, entered}

pub alias_number_stays_with_member_before : (kd : Kind) (lines : List Line) (n : Member) (ms : List Member) (k : ℕ) → ListHasElement (alias_numbers_in_list kd lines ms) k → ListHasElement (alias_numbers_in_list kd lines (n ∷ ms)) k
alias_number_stays_with_member_before kd lines n ms k h = elim (alias_number_of_atom kd lines n.atom) as (λ o. alias_number_of_atom kd lines n.atom ≡ o → ListHasElement (alias_numbers_in_list kd lines (n ∷ ms)) k) [
  | None ↦ (λ e. subst (λ ks. ListHasElement ks k) (sym (front_none kd lines n ms e)) h)
  | Some j ↦ (λ e. subst (λ ks. ListHasElement ks k) (sym (front_some kd lines n ms j e)) (inr h))
] refl

-- an alias that stands among members
pub alias_member_at_index_has_listed_number : (kd : Kind) (lines : List Line) (ms : List Member) (i : ℕ) (m : Member) (k : ℕ) → slice_get ms i ≡ Some m → alias_number_of_atom kd lines m.atom ≡ Some k → ListHasElement (alias_numbers_in_list kd lines ms) k
alias_member_at_index_has_listed_number kd lines [] i m k at e = absurd cc
alias_member_at_index_has_listed_number kd lines (n ∷ ms) zero m k at e =
    let same : n ≡ m = cc in
    subst (λ ks. ListHasElement ks k) (sym (front_some kd lines n ms k (ap (λ (x : Member). alias_number_of_atom kd lines x.atom) same ∙ e))) (inl refl)
alias_member_at_index_has_listed_number kd lines (n ∷ ms) (suc i) m k at e = alias_number_stays_with_member_before kd lines n ms k (alias_member_at_index_has_listed_number kd lines ms i m k at e)

module _ (kd : Kind) (lines : List Line) (test : Atom → Bool) (standings : List AliasDecisionState) (way : List AliasSearchStep) (s : AliasSearchStep) (f : IsConsistentAliasSearch kd lines test standings (way ++ s ∷ [])) where
  -- the members are at an end
  pub step_closed : length (members_of_definition_number lines s.alias) ≤ s.next → IsSearchStepProgress kd lines test standings (way ++ s ∷ []) (set standings s.alias (Decided s.latest)) way
  step_closed end = record {
    kept = closed kd lines test standings way s f end;
    met = λ k met e. elim (get-set standings s.alias k (Decided s.latest) New e) [
      | inl new ↦ let clash : Decided s.latest ≡ New = new.1 in absurd cc
      | inr old ↦ met old.1
    ];
    less = omega (arith, deciding_alias_keeps_search_steps_left standings (definitions_of_lines lines) s.alias s.latest (last_open kd lines test standings way s f), pushed_step_adds_its_steps_left lines way s);
    rooted = λ root r p t at. r p t (get_front way (s ∷ []) p t at);
  }

  module _ (m : Member) (at : slice_get (members_of_definition_number lines s.alias) s.next ≡ Some m) where
    within : s.next < length (members_of_definition_number lines s.alias)
    within = slice_get_within (members_of_definition_number lines s.alias) s.next m at

    taken : take (s.next + 1) (members_of_definition_number lines s.alias) ≡ take s.next (members_of_definition_number lines s.alias) ++ m ∷ []
    taken = take_more (members_of_definition_number lines s.alias) s.next m within
        ∙ ap (λ (x : Member). take s.next (members_of_definition_number lines s.alias) ++ x ∷ []) (get_or_from_slice_get (members_of_definition_number lines s.alias) s.next m m at)

    -- the next member comes
    pub step_on : (hit : Option MemberHit) → IsLastHitOfList kd lines test (take s.next (members_of_definition_number lines s.alias) ++ m ∷ []) (later_hit_if_any s.latest hit)
        → (standings_new : List AliasDecisionState) (way_new : List AliasSearchStep) → standings_new ≡ standings → way_new ≡ way ++ step_after_member s hit ∷ []
        → IsSearchStepProgress kd lines test standings (way ++ s ∷ []) standings_new way_new
    step_on hit good standings_new way_new e d =
        let n = step_after_member s hit in
        let on_way : HoldsHitOfMembersBeforeNext kd lines test n = record {
          members_are = (f.steps (length way) s (get_pushed way s)).members_are;
          within = let h = within in omega arith;
          latest = subst (λ ms. IsLastHitOfList kd lines test ms (later_hit_if_any s.latest hit)) (sym taken) good;
        } in
        let made : IsSearchStepProgress kd lines test standings (way ++ s ∷ []) standings (way ++ n ∷ []) = record {
          kept = changed kd lines test standings way s n f refl on_way;
          met = λ k met. met;
          less = let h = within in omega (arith, pushed_step_adds_its_steps_left lines way s, pushed_step_adds_its_steps_left lines way n);
          rooted = changed_root kd lines test way s n refl;
        } in
        subst (λ ss. IsSearchStepProgress kd lines test standings (way ++ s ∷ []) ss way_new) (sym e)
        (subst (IsSearchStepProgress kd lines test standings (way ++ s ∷ []) standings) (sym d) made)

    so_far : IsLastHitOfList kd lines test (take s.next (members_of_definition_number lines s.alias)) s.latest
    so_far = (f.steps (length way) s (get_pushed way s)).latest

    pub step_said : alias_number_of_atom kd lines m.atom ≡ None → (standings_new : List AliasDecisionState) (way_new : List AliasSearchStep) → standings_new ≡ standings
        → way_new ≡ way ++ step_after_member s (hit_of_signed_atom test (signed_atom_of_member m)) ∷ [] → IsSearchStepProgress kd lines test standings (way ++ s ∷ []) standings_new way_new
    step_said e = step_on (hit_of_signed_atom test (signed_atom_of_member m)) (member_without_alias_extends_last_hit kd lines test (take s.next (members_of_definition_number lines s.alias)) m s.latest so_far e)

    pub step_decided : (k : ℕ) (hit : Option MemberHit) → alias_number_of_atom kd lines m.atom ≡ Some k → slice_get standings k ≡ Some (Decided hit) → (standings_new : List AliasDecisionState) (way_new : List AliasSearchStep)
        → standings_new ≡ standings → way_new ≡ way ++ step_after_member s (hit_under_negation m.negated hit) ∷ [] → IsSearchStepProgress kd lines test standings (way ++ s ∷ []) standings_new way_new
    step_decided k hit e is = step_on (hit_under_negation m.negated hit) (alias_member_extends_last_hit kd lines test (take s.next (members_of_definition_number lines s.alias)) m k s.latest hit so_far e (f.decided k hit is))

    module _ (a : AliasNumberAndMembers) (e : alias_number_of_atom kd lines m.atom ≡ Some a.number) where
      leads : HasAliasAsMember kd lines s.alias a.number
      leads = alias_member_at_index_has_listed_number kd lines (members_of_definition_number lines s.alias) s.next m a.number at e

      pub step_entered : AreNumberAndMembersOfAlias lines a.number (members_of_view a.members) → slice_get standings a.number ≡ Some New → (way_mid : List AliasSearchStep) (standings_new : List AliasDecisionState) (way_new : List AliasSearchStep) → way_mid ≡ way ++ s ∷ []
          → standings_new ≡ set standings a.number Open → way_new ≡ way_mid ++ first_step_of_alias a ∷ []
          → IsSearchStepProgress kd lines test standings (way ++ s ∷ []) standings_new way_new
      step_entered good is way_mid standings_new way_new is_mid is_standings is_way =
          let k = a.number in
          let old = way ++ s ∷ [] in
          let n = first_step_of_alias a in
          let last = get_pushed way s in
          let way_is : way_new ≡ old ++ n ∷ [] = is_way ∙ ap (λ w. w ++ n ∷ []) is_mid in
          let made : IsSearchStepProgress kd lines test standings old (set standings k Open) (old ++ n ∷ []) = record {
            kept = entered kd lines test standings old a f good is (λ p t to. onward s.alias k
                (f.paths p (length way) t s to last (elim (get_push way s p t to) [ inl front ↦ let h = slice_get_within way p t front in omega arith | inr end ↦ omega (arith, end.0) ])) leads);
            met = λ j met g. elim (get-set standings k j Open New g) [
              | inl new ↦ let clash : Open ≡ New = new.1 in absurd cc
              | inr rest ↦ met rest.1
            ];
            less = omega (arith, entering_alias_uses_its_search_steps standings (definitions_of_lines lines) k is f.size, pushed_step_adds_its_steps_left lines old n);
            rooted = λ root r p t to. elim (get_push old n p t to) [
              | inl front ↦ r p t front
              | inr end ↦ subst (LeadsToAliasInAnySteps kd lines root) (ap (λ (x : AliasSearchStep). x.alias) end.1) (onward s.alias k (r (length way) s last) leads)
            ];
          } in
          subst (λ ss. IsSearchStepProgress kd lines test standings old ss way_new) (sym is_standings)
          (subst (IsSearchStepProgress kd lines test standings old (set standings k Open)) (sym way_is) made)

      -- the alias is on the way
      pub step_cycle : slice_get standings a.number ≡ Some Open → IsAliasCyclic kd lines s.alias
      step_cycle is =
          let found = f.on_way a.number is in
          let last = get_pushed way s in
          let path : LeadsToAliasInAnySteps kd lines found.1.alias s.alias = f.paths found.0 (length way) found.1 s found.2 last
          (elim (get_push way s found.0 found.1 found.2) [ inl front ↦ let h = slice_get_within way found.0 found.1 front in omega arith | inr end ↦ omega (arith, end.0) ]) in
          closes kd lines a.number s.alias (subst (λ j. LeadsToAliasInAnySteps kd lines j s.alias) found.3 path) leads
