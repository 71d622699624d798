-- The last of a list of which something holds.
use Rattle.std.specs.Prelude.{◌≡◌, List, [], ◌∷◌, ◌++◌, Option, Some, None}
use Rattle.std.specs.List.{AllByRecursion}
use Rattle.std.specs.Option.{option_or}

-- None holds where it holds of no item; of those after the last it does not hold.
abbrev pub IsLastItemWith : {X : Type 0} → (X → Type 0) → List X → Option X → Type 0
IsLastItemWith P xs None = AllByRecursion (λ x. P x → ⊥) xs
IsLastItemWith {X} P xs (Some x) = (before after : List X) × (xs ≡ before ++ x ∷ after) × P x × AllByRecursion (λ other. P other → ⊥) after

-- the last item
abbrev pub last_item_of : {X : Type 0} → List X → Option X
last_item_of [] = None
last_item_of (x ∷ xs) = option_or (last_item_of xs) (Some x)
