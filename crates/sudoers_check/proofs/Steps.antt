-- The steps of the search, each shorter than what was left.
use Rattle.sudoers_check.proofs.Common.{AreGroupsJoined, Bool, Closed, NodeOnSearchPath, HasPathBetween, HasSearchInvariant, IsMetNode, IsSearchStepResult, HasSearchInvariantWithNextNode, List, New, EntersNewNode}
use Rattle.sudoers_check.proofs.Common.{NodeSearchState, None, Open, Option, Some, [], ap, arith, cycle_search_steps_left, edge_targets_of_node, inl, inr, length, refl, set, slice_get, slice_get_within}
use Rattle.sudoers_check.proofs.Common.{steps_left_for_new_nodes, steps_left_on_path, subst, sym, ℕ, ◌++◌, ◌<◌, ◌∷◌, ◌≡◌}
use Rattle.sudoers_check.specs.declared.cycles.CycleSearch.{CycleSearch}
use Rattle.sudoers_check.proofs.Fuel.{entering_node_uses_its_search_steps, pushed_step_adds_its_steps_left}
use Rattle.sudoers_check.proofs.Lists.{Has_at, get-set}
use Rattle.sudoers_check.proofs.Searching.{step_with_one_more_edge, all_reach, advanced, led_to_closed, led_to_open, led_to_new}

pub equal_search_state_keeps_invariant : (graph : List (List ℕ)) {a b : List NodeSearchState} {c d : List Bool} {e f g h : List ℕ} {i j : List NodeOnSearchPath}
    → a ≡ b → c ≡ d → e ≡ f → g ≡ h → i ≡ j → HasSearchInvariantWithNextNode graph None a c e g i → HasSearchInvariantWithNextNode graph None b d f h j
equal_search_state_keeps_invariant graph {a} {b} {c} {d} {e} {f} {g} {h} {i} {j} p q r s t x =
    subst (λ y. HasSearchInvariantWithNextNode graph None b d f h y) t
    (subst (λ y. HasSearchInvariantWithNextNode graph None b d f y i) s
    (subst (λ y. HasSearchInvariantWithNextNode graph None b d y g i) r
    (subst (λ y. HasSearchInvariantWithNextNode graph None b y e g i) q
    (subst (λ y. HasSearchInvariantWithNextNode graph None y c e g i) p x))))

pub entering_node_keeps_met_nodes : (standings : List NodeSearchState) (w p v : ℕ) → IsMetNode standings v → IsMetNode (set standings w (Open p)) v
entering_node_keeps_met_nodes standings w p v met e = elim (get-set standings w v (Open p) New e) [
  | inl new ↦ let clash : Open p ≡ New = new.1 in absurd cc
  | inr old ↦ met old.1
]

-- the node that is entered is met
pub entered_node_is_met : (standings : List NodeSearchState) (w p : ℕ) → IsMetNode (set standings w (Open p)) w
entered_node_is_met standings w p e = elim (get-set standings w w (Open p) New e) [
  | inl new ↦ let clash : Open p ≡ New = new.1 in absurd cc
  | inr old ↦ old.0 refl
]

pub entering_new_node_keeps_search_invariant : (graph : List (List ℕ)) (next : Option ℕ) (old new : CycleSearch) (w : ℕ)
    → HasSearchInvariantWithNextNode graph next old.standings.items old.marks.items old.nodes.items old.groups.items old.way.items
    → ((x : ℕ) → next ≡ Some x → w ≡ x) → ((p v : ℕ) → slice_get old.nodes.items p ≡ Some v → HasPathBetween graph v w)
    → slice_get old.standings.items w ≡ Some New → EntersNewNode w old new → HasSearchInvariant graph new
entering_new_node_keeps_search_invariant graph next old new w f is_next reach is e =
    equal_search_state_keeps_invariant graph (sym e.standings) (sym e.marks) (sym e.nodes) (sym e.groups) (sym e.way)
    (led_to_new graph next old.standings.items old.marks.items old.nodes.items old.groups.items old.way.items f w is_next reach is)

module _ (graph : List (List ℕ)) (standings : List NodeSearchState) (marks : List Bool) (nodes groups : List ℕ) (way : List NodeOnSearchPath) (step : NodeOnSearchPath)
    (f : HasSearchInvariantWithNextNode graph None standings marks nodes groups (way ++ step ∷ []))
    (w : ℕ) (edge : slice_get (edge_targets_of_node graph step.node) step.edges ≡ Some w) (way_new : List NodeOnSearchPath) (is_way : way_new ≡ way ++ step_with_one_more_edge step ∷ []) where
  shorter : steps_left_on_path graph way_new < steps_left_on_path graph (way ++ step ∷ [])
  shorter =
      let within : step.edges < length (edge_targets_of_node graph step.node) = slice_get_within (edge_targets_of_node graph step.node) step.edges w edge in
      let more = ap (steps_left_on_path graph) is_way in
      omega (arith, more, pushed_step_adds_its_steps_left graph way step, pushed_step_adds_its_steps_left graph way (step_with_one_more_edge step))

  moved : HasSearchInvariantWithNextNode graph (Some w) standings marks nodes groups way_new
  moved = subst (λ y. HasSearchInvariantWithNextNode graph (Some w) standings marks nodes groups y) (sym is_way) (advanced graph standings marks nodes groups way step f w edge)

  is_next : (x : ℕ) → Some w ≡ Some x → w ≡ x
  is_next x e = cc

  reach : (p v : ℕ) → slice_get nodes p ≡ Some v → HasPathBetween graph v w
  reach = all_reach graph standings marks nodes groups way step f w (Has_at (edge_targets_of_node graph step.node) step.edges w edge)

  pub shorter_fuel : cycle_search_steps_left graph standings way_new < cycle_search_steps_left graph standings (way ++ step ∷ [])
  shorter_fuel = let less = shorter in omega arith

  pub step_to_closed : slice_get standings w ≡ Some Closed → HasSearchInvariantWithNextNode graph None standings marks nodes groups way_new
  step_to_closed = led_to_closed graph (Some w) standings marks nodes groups way_new moved w is_next

  pub step_to_open : (q : ℕ) → slice_get standings w ≡ Some (Open q) → (groups_new : List ℕ) → AreGroupsJoined groups q groups_new
      → HasSearchInvariantWithNextNode graph None standings marks nodes groups_new way_new
  step_to_open = led_to_open graph (Some w) standings marks nodes groups way_new moved w is_next reach

  pub step_to_new : slice_get standings w ≡ Some New → (new : CycleSearch)
      → new.standings.items ≡ set standings w (Open (length nodes)) → new.marks.items ≡ marks → new.nodes.items ≡ nodes ++ w ∷ []
      → new.groups.items ≡ groups ++ length nodes ∷ [] → new.way.items ≡ way_new ++ record { node = w; place = length nodes; edges = 0 } ∷ []
      → IsSearchStepResult graph standings (cycle_search_steps_left graph standings (way ++ step ∷ [])) new
  step_to_new is new a b c d e = record {
    kept = equal_search_state_keeps_invariant graph (sym a) (sym b) (sym c) (sym d) (sym e) (led_to_new graph (Some w) standings marks nodes groups way_new moved w is_next reach is);
    met = λ v met. subst (λ ss. IsMetNode ss v) (sym a) (entering_node_keeps_met_nodes standings w (length nodes) v met);
    less =
        let less = shorter in
        let fresh_is = ap (λ ss. steps_left_for_new_nodes ss graph) a in
        let left_is = ap (steps_left_on_path graph) e in
        omega (arith, fresh_is, left_is, entering_node_uses_its_search_steps standings graph w (length nodes) is f.standings_size, pushed_step_adds_its_steps_left graph way_new (record { node = w; place = length nodes; edges = 0 }));
  }
