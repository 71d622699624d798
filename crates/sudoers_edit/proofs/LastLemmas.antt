-- The last line, with LF and without.
use Rattle.sudoers_edit.proofs.Common.{List, None, Some, [], ap, arith, length, refl, slice_get, subst, suc, ℕ, ◌++◌, ◌-◌, ◌∷◌, ◌≡◌}

-- THE LAST LINE

-- a line before lines of which one is the last
line_before_split_lines_keeps_split : (k : List ℕ) (ls : List (List ℕ)) (line : List ℕ) → (front : List (List ℕ)) × (ls ≡ front ++ line ∷ []) → (front : List (List ℕ)) × (k ∷ ls ≡ front ++ line ∷ [])
line_before_split_lines_keeps_split k ls line parts = (k ∷ parts.0, ap (λ (z : List (List ℕ)). k ∷ z) parts.1)

-- lines of which one is the last
pub lines_with_last_are_front_and_last : (ls : List (List ℕ)) (line : List ℕ) → slice_get ls (length ls - 1) ≡ Some line → (front : List (List ℕ)) × (ls ≡ front ++ line ∷ [])
lines_with_last_are_front_and_last [] line is = cc
lines_with_last_are_front_and_last (k ∷ []) line is = let same : k ≡ line = cc in ([], ap (λ (z : List ℕ). z ∷ []) same)
lines_with_last_are_front_and_last (k ∷ j ∷ js) line is =
    let place : length (k ∷ j ∷ js) - 1 ≡ suc (length (j ∷ js) - 1) = omega arith in
    let rest = lines_with_last_are_front_and_last (j ∷ js) line (subst (λ n. slice_get (k ∷ j ∷ js) n ≡ Some line) place is) in
    line_before_split_lines_keeps_split k (j ∷ js) line rest

-- lines without a last one
pub lines_without_last_are_empty : (ls : List (List ℕ)) → slice_get ls (length ls - 1) ≡ None → ls ≡ []
lines_without_last_are_empty [] is = refl
lines_without_last_are_empty (k ∷ []) is = absurd (cc)
lines_without_last_are_empty (k ∷ j ∷ js) is =
    let place : length (k ∷ j ∷ js) - 1 ≡ suc (length (j ∷ js) - 1) = omega arith in
    let rest : j ∷ js ≡ [] = lines_without_last_are_empty (j ∷ js) (subst (λ n. slice_get (k ∷ j ∷ js) n ≡ None) place is) in
    absurd (cc)
