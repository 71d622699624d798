-- Chains of steps.
use Rattle.sudoers_check.proofs.Common.{IsReachedByChainOfSteps, ListHasElement, [], here, inl, onward, refl, ◌∷◌}

-- a chain from some comes from more
pub chain_from_some_is_chain_from_superset : {X : Type 0} {Step : X → X → Type 0} (P Q : X → Type 0) → ((x : X) → P x → Q x) → (x : X) → IsReachedByChainOfSteps Step P x → IsReachedByChainOfSteps Step Q x
chain_from_some_is_chain_from_superset P Q wider x (here y p) = here y (wider y p)
chain_from_some_is_chain_from_superset P Q wider x (onward y z c s) = onward y z (chain_from_some_is_chain_from_superset P Q wider y c) s

-- a chain from some comes from one of them
pub chain_starts_at_one_element : {X : Type 0} {Step : X → X → Type 0} (P : X → Type 0) (x : X) → IsReachedByChainOfSteps Step P x → (y : X) × P y × IsReachedByChainOfSteps Step (ListHasElement (y ∷ [])) x
chain_starts_at_one_element P x (here y p) = (y, p, here y (inl refl))
chain_starts_at_one_element P x (onward y z c s) = let first = chain_starts_at_one_element P y c in (first.0, first.1, onward y z first.2 s)
