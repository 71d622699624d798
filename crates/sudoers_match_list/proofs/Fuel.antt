-- How many steps of the walk are left.
use Rattle.sudoers_match_list.proofs.Common.{AliasDecisionState, AliasSearchStep, Decided, Line, List, MemberHit, New, Open, Option, PlacedDefinition, Some, [], arith, length, members_of_optional_definition}
use Rattle.sudoers_match_list.proofs.Common.{members_of_definition_number, refl, set, slice_get, steps_left_for_new_aliases, steps_left_on_stack, suc, zero, ℕ, ◌++◌, ◌+◌, ◌-◌, ◌∷◌, ◌≡◌}

pub entering_alias_uses_its_search_steps : (standings : List AliasDecisionState) (ds : List PlacedDefinition) (k : ℕ) → slice_get standings k ≡ Some New → length standings ≡ length ds
    → steps_left_for_new_aliases (set standings k Open) ds + (2 + length (members_of_optional_definition (slice_get ds k))) ≡ steps_left_for_new_aliases standings ds
entering_alias_uses_its_search_steps [] ds k is size = absurd cc
entering_alias_uses_its_search_steps (s ∷ ss) [] k is size = absurd (omega arith)
entering_alias_uses_its_search_steps (New ∷ ss) (d ∷ ds) zero is size = omega arith
entering_alias_uses_its_search_steps (Open ∷ ss) (d ∷ ds) zero is size = absurd cc
entering_alias_uses_its_search_steps (Decided hit ∷ ss) (d ∷ ds) zero is size = absurd cc
entering_alias_uses_its_search_steps (New ∷ ss) (d ∷ ds) (suc k) is size = omega (arith, entering_alias_uses_its_search_steps ss ds k is (omega arith))
entering_alias_uses_its_search_steps (Open ∷ ss) (d ∷ ds) (suc k) is size = omega (arith, entering_alias_uses_its_search_steps ss ds k is (omega arith))
entering_alias_uses_its_search_steps (Decided hit ∷ ss) (d ∷ ds) (suc k) is size = omega (arith, entering_alias_uses_its_search_steps ss ds k is (omega arith))

pub deciding_alias_keeps_search_steps_left : (standings : List AliasDecisionState) (ds : List PlacedDefinition) (k : ℕ) (hit : Option MemberHit) → slice_get standings k ≡ Some Open
    → steps_left_for_new_aliases (set standings k (Decided hit)) ds ≡ steps_left_for_new_aliases standings ds
deciding_alias_keeps_search_steps_left [] ds k hit is = absurd cc
deciding_alias_keeps_search_steps_left (s ∷ ss) [] zero hit is = refl
deciding_alias_keeps_search_steps_left (s ∷ ss) [] (suc k) hit is = refl
deciding_alias_keeps_search_steps_left (New ∷ ss) (d ∷ ds) zero hit is = absurd cc
deciding_alias_keeps_search_steps_left (Open ∷ ss) (d ∷ ds) zero hit is = refl
deciding_alias_keeps_search_steps_left (Decided h ∷ ss) (d ∷ ds) zero hit is = absurd cc
deciding_alias_keeps_search_steps_left (New ∷ ss) (d ∷ ds) (suc k) hit is = omega (arith, deciding_alias_keeps_search_steps_left ss ds k hit is)
deciding_alias_keeps_search_steps_left (Open ∷ ss) (d ∷ ds) (suc k) hit is = deciding_alias_keeps_search_steps_left ss ds k hit is
deciding_alias_keeps_search_steps_left (Decided h ∷ ss) (d ∷ ds) (suc k) hit is = deciding_alias_keeps_search_steps_left ss ds k hit is

pub pushed_step_adds_its_steps_left : (lines : List Line) (way : List AliasSearchStep) (s : AliasSearchStep)
    → steps_left_on_stack lines (way ++ s ∷ []) ≡ steps_left_on_stack lines way + (1 + (length (members_of_definition_number lines s.alias) - s.next))
pushed_step_adds_its_steps_left lines [] s = omega arith
pushed_step_adds_its_steps_left lines (t ∷ way) s = omega (arith, pushed_step_adds_its_steps_left lines way s)
