-- Line ends and columns of bytes one after another.
use Rattle.sudoers_check.proofs.Common.{List, [], ap, arith, byte_count_after_last_lf, cond, drop, false, if◌then◌else◌, refl, suc, take, true, zero, ℕ, ◌++◌, ◌+◌, ◌-◌, ◌==◌, ◌∙◌, ◌∷◌, ◌≡◌, ◌≤◌}
use Rattle.std.proofs.lemmas.List.Sums.{sum_by-append}
use Rattle.sudoers_text.specs.Fault.{lf_count}

pub lf_count_of_appended_is_sum : (xs ys : List ℕ) → lf_count (xs ++ ys) ≡ lf_count xs + lf_count ys
lf_count_of_appended_is_sum xs ys = sum_by-append (λ (b : ℕ). cond (b == 10) 1 0) xs ys

pub bytes_after_last_lf_continue_over_appended : (n : ℕ) (xs ys : List ℕ) → byte_count_after_last_lf n (xs ++ ys) ≡ byte_count_after_last_lf (byte_count_after_last_lf n xs) ys
bytes_after_last_lf_continue_over_appended n [] ys = refl
bytes_after_last_lf_continue_over_appended n (b ∷ xs) ys = elim (b == 10) as (λ t. (if t then byte_count_after_last_lf 0 (xs ++ ys) else byte_count_after_last_lf (n + 1) (xs ++ ys)) ≡ byte_count_after_last_lf (if t then byte_count_after_last_lf 0 xs else byte_count_after_last_lf (n + 1) xs) ys) [
  | true ↦ bytes_after_last_lf_continue_over_appended 0 xs ys
  | false ↦ bytes_after_last_lf_continue_over_appended (n + 1) xs ys
]

leading_elements_of_empty_are_empty : {X : Type 0} (n : ℕ) → (let none : List X = [] in none ≡ take n none)
leading_elements_of_empty_are_empty zero = refl
leading_elements_of_empty_are_empty (suc n) = refl

pub leading_bytes_are_split_at_smaller_count : (a s : ℕ) (xs : List ℕ) → a ≤ s → take s xs ≡ take a xs ++ take (s - a) (drop a xs)
leading_bytes_are_split_at_smaller_count zero s xs l = ap (λ n. take n xs) (omega arith)
leading_bytes_are_split_at_smaller_count (suc a) zero xs l = absurd (omega arith)
leading_bytes_are_split_at_smaller_count (suc a) (suc s) [] l = leading_elements_of_empty_are_empty (suc s - suc a)
leading_bytes_are_split_at_smaller_count (suc a) (suc s) (x ∷ xs) l = ap (λ zs. x ∷ zs) (leading_bytes_are_split_at_smaller_count a s xs (omega (arith, l)) ∙ ap (λ n. take a xs ++ take n (drop a xs)) (omega arith))
