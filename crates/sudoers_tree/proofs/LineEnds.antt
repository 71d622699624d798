-- How many LF there are.
use Rattle.sudoers_tree.proofs.Common.{Bool, List, [], ap, arith, false, if◌then◌else◌, length, lf_count, refl, true, ℕ, ◌+◌, ◌==◌, ◌∙◌, ◌∷◌, ◌≡◌, ◌≤◌}
use Rattle.sudoers_tree.proofs.Joined.{lf_count_adds_over_append}

-- the first byte, and the others
lf_count_is_first_byte_and_rest : (b : ℕ) (bytes : List ℕ) (t : Bool) → (b == 10) ≡ t → lf_count (b ∷ bytes) ≡ (if t then 1 else 0) + lf_count bytes
lf_count_is_first_byte_and_rest b bytes t e = lf_count_adds_over_append (b ∷ []) bytes ∙ ap (λ n. n + lf_count bytes) (alone t e)
  where
    alone : (t : Bool) → (b == 10) ≡ t → lf_count (b ∷ []) ≡ (if t then 1 else 0)
    alone true e = rw e refl
    alone false e = rw e refl

-- There are no more LF than bytes.
pub lf_count_is_at_most_length : (bytes : List ℕ) → lf_count bytes ≤ length bytes
lf_count_is_at_most_length [] = omega arith
lf_count_is_at_most_length (b ∷ bytes) = by (b == 10) refl (lf_count_is_at_most_length bytes)
  where
    by : (t : Bool) → (b == 10) ≡ t → lf_count bytes ≤ length bytes → lf_count (b ∷ bytes) ≤ length (b ∷ bytes)
    by true e later = omega (arith, later, lf_count_is_first_byte_and_rest b bytes true e)
    by false e later = omega (arith, later, lf_count_is_first_byte_and_rest b bytes false e)
