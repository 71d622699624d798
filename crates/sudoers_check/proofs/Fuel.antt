-- How many steps of the search are left.
use Rattle.sudoers_check.proofs.Common.{Closed, NodeOnSearchPath, List, New, NodeSearchState, Open, Some, [], arith, edge_targets_of_node, length, refl, set, slice_get, steps_left_for_new_nodes, steps_left_on_path}
use Rattle.sudoers_check.proofs.Common.{suc, zero, ℕ, ◌++◌, ◌+◌, ◌-◌, ◌∷◌, ◌≡◌}

pub entering_node_uses_its_search_steps : (standings : List NodeSearchState) (graph : List (List ℕ)) (v p : ℕ) → slice_get standings v ≡ Some New → length standings ≡ length graph
    → steps_left_for_new_nodes (set standings v (Open p)) graph + (1 + length (edge_targets_of_node graph v)) ≡ steps_left_for_new_nodes standings graph
entering_node_uses_its_search_steps [] graph v p is size = absurd cc
entering_node_uses_its_search_steps (s ∷ ss) [] v p is size = absurd (omega arith)
entering_node_uses_its_search_steps (New ∷ ss) (es ∷ graph) zero p is size = omega arith
entering_node_uses_its_search_steps (Open q ∷ ss) (es ∷ graph) zero p is size = absurd cc
entering_node_uses_its_search_steps (Closed ∷ ss) (es ∷ graph) zero p is size = absurd cc
entering_node_uses_its_search_steps (New ∷ ss) (es ∷ graph) (suc v) p is size = omega (arith, entering_node_uses_its_search_steps ss graph v p is (omega arith))
entering_node_uses_its_search_steps (Open q ∷ ss) (es ∷ graph) (suc v) p is size = omega (arith, entering_node_uses_its_search_steps ss graph v p is (omega arith))
entering_node_uses_its_search_steps (Closed ∷ ss) (es ∷ graph) (suc v) p is size = omega (arith, entering_node_uses_its_search_steps ss graph v p is (omega arith))

pub closing_node_keeps_search_steps_left : (standings : List NodeSearchState) (graph : List (List ℕ)) (v p : ℕ) → slice_get standings v ≡ Some (Open p)
    → steps_left_for_new_nodes (set standings v Closed) graph ≡ steps_left_for_new_nodes standings graph
closing_node_keeps_search_steps_left [] graph v p is = absurd cc
closing_node_keeps_search_steps_left (s ∷ ss) [] zero p is = refl
closing_node_keeps_search_steps_left (s ∷ ss) [] (suc v) p is = refl
closing_node_keeps_search_steps_left (New ∷ ss) (es ∷ graph) zero p is = absurd cc
closing_node_keeps_search_steps_left (Open q ∷ ss) (es ∷ graph) zero p is = refl
closing_node_keeps_search_steps_left (Closed ∷ ss) (es ∷ graph) zero p is = absurd cc
closing_node_keeps_search_steps_left (New ∷ ss) (es ∷ graph) (suc v) p is = omega (arith, closing_node_keeps_search_steps_left ss graph v p is)
closing_node_keeps_search_steps_left (Open q ∷ ss) (es ∷ graph) (suc v) p is = closing_node_keeps_search_steps_left ss graph v p is
closing_node_keeps_search_steps_left (Closed ∷ ss) (es ∷ graph) (suc v) p is = closing_node_keeps_search_steps_left ss graph v p is

pub pushed_step_adds_its_steps_left : (graph : List (List ℕ)) (way : List NodeOnSearchPath) (s : NodeOnSearchPath)
    → steps_left_on_path graph (way ++ s ∷ []) ≡ steps_left_on_path graph way + (1 + (length (edge_targets_of_node graph s.node) - s.edges))
pushed_step_adds_its_steps_left graph [] s = omega arith
pushed_step_adds_its_steps_left graph (t ∷ way) s = omega (arith, pushed_step_adds_its_steps_left graph way s)
