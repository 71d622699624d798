-- Numbers of items that pass a test.
use Rattle.std.proofs.Common.{◌≡◌, ◌∙◌, ◌↔◌, ℕ, suc, ◌+◌, ◌==◌, Bool, true, false, not, List, [], ◌∷◌, ◌++◌, length, map, reverse, refl, sym, ap, arith, if◌then◌else◌, ◌||◌}
use Rattle.std.proofs.lemmas.List.{reverse-append}
use Rattle.std.specs.List.{list_any}
use Rattle.sudoers_edit_script.specs.declared.edit.Edit.{Edit}
use Rattle.sudoers_plan.specs.Numbers.{numbers_of_passing}

positive_is_not_zero : (n : ℕ) → (suc n == 0) ≡ false
positive_is_not_zero n = grind (arith)

-- an item passes exactly if there is a number of one
pub any_passes_if_numbered : {X : Type 0} (test : X → Bool) (n : ℕ) (xs : List X) → list_any test xs ≡ not (length (numbers_of_passing test n xs) == 0)
any_passes_if_numbered test n [] = refl
any_passes_if_numbered test n (x ∷ xs) = by (test x) (any_passes_if_numbered test (n + 1) xs)
  where
    by : (b : Bool) → list_any test xs ≡ not (length (numbers_of_passing test (n + 1) xs) == 0)
        → (b || list_any test xs) ≡ not (length (if b then n ∷ numbers_of_passing test (n + 1) xs else numbers_of_passing test (n + 1) xs) == 0)
    by true rest = ap not (sym (positive_is_not_zero (length (numbers_of_passing test (n + 1) xs))))
    by false rest = rest

-- there is no number where none passes, and the other way round
pub none_passes : {X : Type 0} (test : X → Bool) (n : ℕ) (xs : List X) → (numbers_of_passing test n xs ≡ []) ↔ (list_any test xs ≡ false)
none_passes test n xs = by (numbers_of_passing test n xs) (any_passes_if_numbered test n xs)
  where
    by : (ns : List ℕ) → list_any test xs ≡ not (length ns == 0) → (ns ≡ []) ↔ (list_any test xs ≡ false)
    by [] e = ((λ _. e), (λ _. refl))
    by (m ∷ ns) e = ((λ h. absurd (cc)), (λ h. absurd (let t : true ≡ false = ap not (sym (positive_is_not_zero (length ns))) ∙ sym e ∙ h in cc)))

-- no edit is made of no number, and of a number one is
pub no_edit_of_numbers : (f : ℕ → Edit) (ns : List ℕ) → (map f (reverse ns) ≡ []) ↔ (ns ≡ [])
no_edit_of_numbers f [] = ((λ _. refl), (λ _. refl))
no_edit_of_numbers f (n ∷ ns) = ((λ h. absurd (no_end (reverse ns) (sym (ap (map f) (reverse-append (n ∷ []) ns)) ∙ h))), (λ h. absurd (cc)))
  where
    no_end : (ms : List ℕ) → map f (ms ++ n ∷ []) ≡ [] → ⊥
    no_end [] h = cc
    no_end (m ∷ ms) h = cc
