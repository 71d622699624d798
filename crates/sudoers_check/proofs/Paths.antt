-- Ways along edges, joined and taken apart.
use Rattle.sudoers_check.proofs.Common.{HasEdge, HasPathBetween, IsOnCycle, IsReachedByChainOfSteps, List, here, inl, inr, onward, subst, sym, ℕ, ◌≡◌, ◌⊎◌}

module _ (graph : List (List ℕ)) where
  pub path_on : (P : ℕ → Type 0) (v w : ℕ) → IsReachedByChainOfSteps (HasEdge graph) P v → HasPathBetween graph v w → IsReachedByChainOfSteps (HasEdge graph) P w
  path_on P v w c (here x e) = subst (IsReachedByChainOfSteps (HasEdge graph) P) e c
  path_on P v w c (onward x y p s) = onward x y (path_on P v x c p) s

  pub path_cases : (v w : ℕ) → HasPathBetween graph v w → (v ≡ w) ⊎ IsReachedByChainOfSteps (HasEdge graph) (HasEdge graph v) w
  path_cases v w (here x e) = inl e
  path_cases v w (onward x y p s) =
      elim (path_cases v x p) [ inl e ↦ inr (here y (subst (λ u. HasEdge graph u y) (sym e) s)) | inr c ↦ inr (onward x y c s) ]

  -- two nodes that reach each other are on a cycle
  pub round_trip : (v w : ℕ) → (v ≡ w → ⊥) → HasPathBetween graph v w → HasPathBetween graph w v → IsOnCycle graph v
  round_trip v w apart there back =
      elim (path_cases v w there) [ inl e ↦ absurd (apart e) | inr c ↦ path_on (HasEdge graph v) w v c back ]
