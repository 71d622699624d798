-- Things that stand one behind another.
use Rattle.std.specs.Prelude.{ℕ, ◌<◌, ◌≤◌, List, [], ◌∷◌}
use Rattle.sudoers_text.specs.declared.token.Token.{Token}

-- Between these two places they stand one behind another, and none is empty; begins, ends: where each does.
abbrev pub AreOrderedSpans : {X : Type 0} → (X → ℕ) → (X → ℕ) → ℕ → ℕ → List X → Type 0
AreOrderedSpans begins ends from to [] = from ≤ to
AreOrderedSpans begins ends from to (x ∷ xs) = (from ≤ begins x) × (begins x < ends x) × AreOrderedSpans begins ends (ends x) to xs

abbrev pub AreOrderedTokens : ℕ → ℕ → List Token → Type 0
AreOrderedTokens = AreOrderedSpans (λ (t : Token). t.start) (λ (t : Token). t.stop)
