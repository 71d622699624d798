-- What holds when the walk is over.
use Rattle.sudoers_match_list.proofs.Common.{AliasDecisionState, AliasLeadsToCycle, AliasSearchStep, Atom, Bool, Decided, IsAliasCyclic, EntersAliasOntoStack, IsAliasMet, IsConsistentAliasSearch, IsLastHitOfList}
use Rattle.sudoers_match_list.proofs.Common.{AreNumberAndMembersOfAlias, IsSearchFromAlias, IsValidVerdictCache, Kind, LeadsToAliasInAnySteps, Line, List, ListHasElement, ListLeadsToCyclicAlias, Member, MemberHit, New, None}
use Rattle.sudoers_match_list.proofs.Common.{AliasNumberAndMembers, Open, Option, Some, [], alias_number_of_atom, alias_numbers_in_list, ap, first_step_of_alias, get-set, get_or, get_push, get_pushed, here}
use Rattle.sudoers_match_list.proofs.Common.{hit_of_signed_atom, hit_under_negation, inl, inr, later_hit_if_any, length, members_of_definition_number, members_of_view, refl, signed_atom_of_member, slice_get}
use Rattle.sudoers_match_list.proofs.Common.{slice_get-get_or, slice_get_within, subst, sym, take, take_more, ℕ, ◌++◌, ◌+◌, ◌∙◌, ◌∷◌, ◌≡◌}
use Rattle.sudoers_match_list.specs.declared.alias_verdicts.AliasVerdictCache.{AliasVerdictCache}
use Rattle.sudoers_match_list.proofs.Flats.{member_without_alias_extends_last_hit, alias_member_extends_last_hit}
use Rattle.sudoers_match_list.proofs.Cycles.{from_path}
use Rattle.sudoers_match_list.proofs.Named.{round_is}
use Rattle.sudoers_match_list.proofs.Steps.{alias_member_at_index_has_listed_number}
use Rattle.sudoers_match_list.proofs.Walking.{entered}

module _ (kd : Kind) (lines : List Line) (test : Atom → Bool) where
  -- the walk begins with an alias that was not met
  pub begun : (old new : AliasVerdictCache) (a : AliasNumberAndMembers) → IsValidVerdictCache kd lines test old → AreNumberAndMembersOfAlias lines a.number (members_of_view a.members)
      → slice_get old.standings.items a.number ≡ Some New → EntersAliasOntoStack a old new → IsSearchFromAlias kd lines test a.number new
  begun old new a m good is e =
      let k = a.number in
      let no_one : (p : ℕ) (t : AliasSearchStep) → slice_get [] p ≡ Some t → LeadsToAliasInAnySteps kd lines t.alias k = λ p t at. absurd cc in
      let made = entered kd lines test old.standings.items [] a m.1 good is no_one in
      let way_is : new.way.items ≡ first_step_of_alias a ∷ [] = e.way ∙ ap (λ w. w ++ first_step_of_alias a ∷ []) m.0 in
      record {
        kept = subst (λ w. IsConsistentAliasSearch kd lines test new.standings.items w) (sym way_is) (subst (λ ss. IsConsistentAliasSearch kd lines test ss (first_step_of_alias a ∷ [])) (sym e.standings) made);
        rooted = λ p t at. elim (get_push [] (first_step_of_alias a) p t (ap (λ w. slice_get w p) (sym way_is) ∙ at)) [
          | inl old ↦ absurd cc
          | inr new ↦ here t.alias (ap (λ (x : AliasSearchStep). x.alias) new.1)
        ];
        alias_met = λ n. elim (get-set old.standings.items k k Open New (ap (λ ss. slice_get ss k) (sym e.standings) ∙ n)) [
          | inl new ↦ let clash : Open ≡ New = new.1 in absurd cc
          | inr other ↦ other.0 refl
        ];
      }

  -- or with one that was
  pub begun_met : (verdicts : AliasVerdictCache) (k : ℕ) → IsValidVerdictCache kd lines test verdicts → IsAliasMet verdicts.standings.items k → IsSearchFromAlias kd lines test k verdicts
  begun_met verdicts k m met = record {
    kept = subst (IsConsistentAliasSearch kd lines test verdicts.standings.items) (sym m.0) m.1;
    rooted = λ p t at. let clash : slice_get [] p ≡ Some t = ap (λ w. slice_get w p) (sym m.0) ∙ at in absurd cc;
    alias_met = met;
  }

  pub finds : (verdicts : AliasVerdictCache) (k : ℕ) (s : AliasSearchStep) (rest : List AliasSearchStep) → IsSearchFromAlias kd lines test k verdicts → verdicts.way.items ≡ rest ++ s ∷ [] → IsAliasCyclic kd lines s.alias → AliasLeadsToCycle kd lines k
  finds verdicts k s rest w e cyclic = record {
    cyclic = s.alias;
    reached = w.rooted (length rest) s (ap (λ way. slice_get way (length rest)) e ∙ get_pushed rest s);
    is_cyclic = cyclic;
  }

  -- no alias is open where nothing is on the way
  pub none_open : (standings : List AliasDecisionState) (k : ℕ) → IsConsistentAliasSearch kd lines test standings [] → slice_get standings k ≡ Some Open → ⊥
  none_open standings k f is = let found = f.on_way k is in let clash = found.2 in cc

  -- an alias that was met is decided then
  pub is_decided : (standings : List AliasDecisionState) (k : ℕ) (s : AliasDecisionState) → IsConsistentAliasSearch kd lines test standings [] → IsAliasMet standings k → slice_get standings k ≡ Some s
      → ((hit : Option MemberHit) → s ≡ Decided hit → ⊥) → ⊥
  is_decided standings k New f met is other = met is
  is_decided standings k Open f met is other = none_open standings k f is
  is_decided standings k (Decided hit) f met is other = other hit refl

  -- one more member
  module _ (ms : List Member) (i : ℕ) (m : Member) (at : slice_get ms i ≡ Some m) where
    one_more : take (i + 1) ms ≡ take i ms ++ m ∷ []
    one_more =
        let within = slice_get_within ms i m at in
        let same : get_or ms i m ≡ m = let two : Some (get_or ms i m) ≡ Some m = sym (slice_get-get_or ms i m within) ∙ at in cc in
        take_more ms i m within ∙ ap (λ x. take i ms ++ x ∷ []) same

    pub said_more : (hit : Option MemberHit) → alias_number_of_atom kd lines m.atom ≡ None → IsLastHitOfList kd lines test (take i ms) hit
        → IsLastHitOfList kd lines test (take (i + 1) ms) (later_hit_if_any hit (hit_of_signed_atom test (signed_atom_of_member m)))
    said_more hit e l = subst (λ xs. IsLastHitOfList kd lines test xs (later_hit_if_any hit (hit_of_signed_atom test (signed_atom_of_member m)))) (sym one_more) (member_without_alias_extends_last_hit kd lines test (take i ms) m hit l e)

    pub alias_more : (k : ℕ) (hit inner : Option MemberHit) → alias_number_of_atom kd lines m.atom ≡ Some k → IsLastHitOfList kd lines test (take i ms) hit
        → IsLastHitOfList kd lines test (members_of_definition_number lines k) inner → IsLastHitOfList kd lines test (take (i + 1) ms) (later_hit_if_any hit (hit_under_negation m.negated inner))
    alias_more k hit inner e l n = subst (λ xs. IsLastHitOfList kd lines test xs (later_hit_if_any hit (hit_under_negation m.negated inner))) (sym one_more)
        (alias_member_extends_last_hit kd lines test (take i ms) m k hit inner l e n)

    pub to_cycle : (k : ℕ) → alias_number_of_atom kd lines m.atom ≡ Some k → AliasLeadsToCycle kd lines k → ListLeadsToCyclicAlias kd lines ms
    to_cycle k e f = round_is kd lines ms (record {
      alias = f.cyclic;
      reached = from_path kd lines (ListHasElement (alias_numbers_in_list kd lines ms)) k f.cyclic (alias_member_at_index_has_listed_number kd lines ms i m k at e) f.reached;
      cyclic = f.is_cyclic;
    })
