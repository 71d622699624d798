-- A list that leads to no cyclic alias has a flat list.
use Rattle.sudoers_match_list.proofs.Common.{Bool, HasAliasAsMember, IsFlatListOf, IsReachedByChainOfSteps, Kind, Line, List, ListHasElement, ListLeadsToAliasCycle, ListLeadsToCyclicAlias, Member, None, SignedAtom, Some}
use Rattle.sudoers_match_list.proofs.Common.{[], alias_number_of_atom, alias_numbers_in_list, ap, arith, definitions_of_lines, false, chain_from_some_is_chain_from_superset, get-set, here, inl, inr, length, length-replicate, length-set, map}
use Rattle.sudoers_match_list.proofs.Common.{members_of_definition_number, onward, refl, replicate, set, signed_atom_of_member, signed_atom_under_negation, slice_get, subst, suc, sym, true, zero, ℕ, ◌++◌, ◌<◌, ◌∙◌}
use Rattle.sudoers_match_list.proofs.Common.{◌∷◌, ◌≡◌, ◌≤◌, ◌⊎◌}
use Rattle.sudoers_match_list.proofs.Depth.{IsFlatListOfDepth, none, one, many, is_flat}
use Rattle.sudoers_match_list.proofs.Named.{round_is}
use Rattle.sudoers_match_list.proofs.Cycles.{front_none, front_some}
use Rattle.sudoers_match_list.proofs.Numbered.{alias_some, alias_none, number_within}

-- how many marks are not set
abbrev unmarked_count : List Bool → ℕ
unmarked_count [] = 0
unmarked_count (true ∷ ms) = unmarked_count ms
unmarked_count (false ∷ ms) = suc (unmarked_count ms)

setting_mark_lowers_unmarked_count : (marks : List Bool) (k : ℕ) → slice_get marks k ≡ Some false → suc (unmarked_count (set marks k true)) ≡ unmarked_count marks
setting_mark_lowers_unmarked_count [] k e = absurd cc
setting_mark_lowers_unmarked_count (true ∷ ms) zero e = absurd cc
setting_mark_lowers_unmarked_count (false ∷ ms) zero e = refl
setting_mark_lowers_unmarked_count (true ∷ ms) (suc k) e = setting_mark_lowers_unmarked_count ms k e
setting_mark_lowers_unmarked_count (false ∷ ms) (suc k) e = ap suc (setting_mark_lowers_unmarked_count ms k e)

index_below_length_has_element : (xs : List Bool) (i : ℕ) → i < length xs → slice_get xs i ≡ None → ⊥
index_below_length_has_element [] i h e = absurd (omega arith)
index_below_length_has_element (x ∷ xs) zero h e = cc
index_below_length_has_element (x ∷ xs) (suc i) h e = index_below_length_has_element xs i (omega arith) e

module _ (kd : Kind) (lines : List Line) where
  -- It has a flat list, whose aliases are no deeper than this.
  abbrev Found : ℕ → List Member → Type 0
  Found n ms = ((fs : List SignedAtom) × IsFlatListOfDepth kd lines n ms fs) ⊎ ListLeadsToAliasCycle kd lines ms

  -- Whatever is marked leads to the aliases of the list, by one or more steps.
  abbrev Context : List Bool → List Member → Type 0
  Context marks ms = (v j : ℕ) → slice_get marks v ≡ Some true → ListHasElement (alias_numbers_in_list kd lines ms) j → IsReachedByChainOfSteps (HasAliasAsMember kd lines) (HasAliasAsMember kd lines v) j

  abbrev Deeper : ℕ → Type 0
  Deeper n = (marks : List Bool) → length marks ≡ length (definitions_of_lines lines) → unmarked_count marks ≤ n → (ms : List Member) → Context marks ms → Found n ms

  behind_front : (m : Member) (ms : List Member) (j : ℕ) → ListHasElement (alias_numbers_in_list kd lines ms) j → ListHasElement (alias_numbers_in_list kd lines (m ∷ ms)) j
  behind_front m ms j h = elim (alias_number_of_atom kd lines m.atom) as (λ o. alias_number_of_atom kd lines m.atom ≡ o → ListHasElement (alias_numbers_in_list kd lines (m ∷ ms)) j) [
    | None ↦ (λ e. subst (λ ks. ListHasElement ks j) (sym (front_none kd lines m ms e)) h)
    | Some k ↦ (λ e. subst (λ ks. ListHasElement ks j) (sym (front_some kd lines m ms k e)) (inr h))
  ] refl

  at_front : (m : Member) (ms : List Member) (k : ℕ) → alias_number_of_atom kd lines m.atom ≡ Some k → ListHasElement (alias_numbers_in_list kd lines (m ∷ ms)) k
  at_front m ms k e = subst (λ ks. ListHasElement ks k) (sym (front_some kd lines m ms k e)) (inl refl)

  cycle_behind : (m : Member) (ms : List Member) → ListLeadsToAliasCycle kd lines ms → ListLeadsToAliasCycle kd lines (m ∷ ms)
  cycle_behind m ms l = record { alias = l.alias; reached = chain_from_some_is_chain_from_superset (ListHasElement (alias_numbers_in_list kd lines ms)) (ListHasElement (alias_numbers_in_list kd lines (m ∷ ms))) (behind_front m ms) l.alias l.reached; cyclic = l.cyclic }

  -- a chain that goes on from where another ends
  joined : (P : ℕ → Type 0) (k : ℕ) → IsReachedByChainOfSteps (HasAliasAsMember kd lines) P k → (x : ℕ) → IsReachedByChainOfSteps (HasAliasAsMember kd lines) (HasAliasAsMember kd lines k) x → IsReachedByChainOfSteps (HasAliasAsMember kd lines) P x
  joined P k c x (here y s) = onward k y c s
  joined P k c x (onward y z d s) = onward y z (joined P k c y d) s

  cycle_inside : (m : Member) (ms : List Member) (k : ℕ) → alias_number_of_atom kd lines m.atom ≡ Some k → ListLeadsToAliasCycle kd lines (members_of_definition_number lines k) → ListLeadsToAliasCycle kd lines (m ∷ ms)
  cycle_inside m ms k e l = record { alias = l.alias; reached = joined (ListHasElement (alias_numbers_in_list kd lines (m ∷ ms))) k (here k (at_front m ms k e)) l.alias l.reached; cyclic = l.cyclic }

  inner_context : (marks : List Bool) (m : Member) (ms : List Member) (k : ℕ) → alias_number_of_atom kd lines m.atom ≡ Some k → Context marks (m ∷ ms) → Context (set marks k true) (members_of_definition_number lines k)
  inner_context marks m ms k e c v j is h = elim (get-set marks k v true true is) [
    | inl new ↦ here j (subst (λ u. HasAliasAsMember kd lines u j) (sym new.0) h)
    | inr old ↦ onward k j (c v k old.1 (at_front m ms k e)) h
  ]

  -- a list with one alias more in front
  front_found : (n : ℕ) (m : Member) (ms : List Member) (k : ℕ) → alias_number_of_atom kd lines m.atom ≡ Some k → Found n (members_of_definition_number lines k) → Found (suc n) ms → Found (suc n) (m ∷ ms)
  front_found n m ms k e (inr l) rest = inr (cycle_inside m ms k e l)
  front_found n m ms k e (inl i) (inr l) = inr (cycle_behind m ms l)
  front_found n m ms k e (inl i) (inl f) =
      inl (map (signed_atom_under_negation m.negated) i.0 ++ f.0, many n m ms (members_of_definition_number lines k) i.0 f.0 (alias_some kd lines m.atom k e) i.1 f.1)

  one_found : (n : ℕ) (m : Member) (ms : List Member) → alias_number_of_atom kd lines m.atom ≡ None → Found n ms → Found n (m ∷ ms)
  one_found n m ms e (inl f) = inl (signed_atom_of_member m ∷ f.0, one n m ms f.0 (alias_none kd lines m.atom e) f.1)
  one_found n m ms e (inr l) = inr (cycle_behind m ms l)

  list_found : (n : ℕ) → ((below : ℕ) → n ≡ suc below → Deeper below) → (marks : List Bool) → length marks ≡ length (definitions_of_lines lines) → unmarked_count marks ≤ n → (ms : List Member) → Context marks ms → Found n ms
  list_found n deeper marks size few [] c = inl ([], none n)
  list_found n deeper marks size few (m ∷ ms) c =
      let rest : Found n ms = list_found n deeper marks size few ms (λ v j is h. c v j is (behind_front m ms j h)) in
      elim (alias_number_of_atom kd lines m.atom) as (λ o. alias_number_of_atom kd lines m.atom ≡ o → Found n (m ∷ ms)) [
        | None ↦ (λ e. one_found n m ms e rest)
        | Some k ↦ (λ e. elim (slice_get marks k) as (λ o. slice_get marks k ≡ o → Found n (m ∷ ms)) [
          | None ↦ (λ is. absurd (index_below_length_has_element marks k (let h = number_within kd lines m.atom k e in omega (arith, size, h)) is))
          | Some t ↦ (λ is. elim t as (λ b. slice_get marks k ≡ Some b → Found n (m ∷ ms)) [
            | true ↦ (λ is. inr (record { alias = k; reached = here k (at_front m ms k e); cyclic = c k k is (at_front m ms k e) }))
            | false ↦ (λ is. elim n as (λ j. n ≡ j → Found n (m ∷ ms)) [
              | zero ↦ (λ no. absurd (let less = setting_mark_lowers_unmarked_count marks k is in omega (arith, less, no, few)))
              | suc below ↦ (λ here.
                  let less = setting_mark_lowers_unmarked_count marks k is in
                  let inner = deeper below here (set marks k true) (length-set marks k true ∙ size) (omega (arith, less, here, few)) (members_of_definition_number lines k) (inner_context marks m ms k e c) in
                  subst (λ j. Found j (m ∷ ms)) (sym here) (front_found below m ms k e inner (subst (λ j. Found j ms) here rest)))
            ] refl)
          ] is)
        ] refl)
      ] refl

  found_to : (n : ℕ) → Deeper n
  found_to zero = list_found zero (λ below e. absurd cc)
  found_to (suc n) = list_found (suc n) (λ below e. subst Deeper (let same : n ≡ below = cc in same) (found_to n))

  no_mark : (n v : ℕ) → slice_get (replicate n false) v ≡ Some true → ⊥
  no_mark zero v e = cc
  no_mark (suc n) zero e = cc
  no_mark (suc n) (suc v) e = no_mark n v e

  unmarked_all : (n : ℕ) → unmarked_count (replicate n false) ≡ n
  unmarked_all zero = refl
  unmarked_all (suc n) = ap suc (unmarked_all n)

  pub flat_or_cycle : (ms : List Member) → Found (length (definitions_of_lines lines)) ms
  flat_or_cycle ms =
      let n = length (definitions_of_lines lines) in
      found_to n (replicate n false) (length-replicate n false) (let all = unmarked_all n in omega (arith, all)) ms (λ v j is h. absurd (no_mark n v is))

pub list_is_flat_or_leads_to_cycle : (k : Kind) (lines : List Line) (ms : List Member) → ((fs : List SignedAtom) × IsFlatListOf k lines ms fs) ⊎ ListLeadsToCyclicAlias k lines ms
list_is_flat_or_leads_to_cycle k lines ms = elim (flat_or_cycle k lines ms) [ inl f ↦ inl (f.0, is_flat k lines (length (definitions_of_lines lines)) ms f.0 f.1) | inr l ↦ inr (round_is k lines ms l) ]
