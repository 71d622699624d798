-- The names and the numbers that are looked up in place of groups.
use Rattle.std.proofs.Common.{Bool, List, [], ap, false, if◌then◌else◌, refl, sym, true, ◌++◌, ◌||◌, ◌∙◌, ◌∷◌, ◌≡◌}
use Rattle.std.proofs.lemmas.Bool.{false≢true}
use Rattle.std.proofs.lemmas.List.Folds.{list_any-append}
use Rattle.std.specs.List.{list_any}

or_false_after : (a b : Bool) → (a || (b || false)) ≡ (a || b)
or_false_after true b = refl
or_false_after false true = refl
or_false_after false false = refl

or_with_first : (a b : Bool) → (a || b) ≡ ((a || b) || a)
or_with_first true b = refl
or_with_first false true = refl
or_with_first false false = refl

or_with_both : (a b c : Bool) → b ≡ (b || c) → (a || b) ≡ ((a || b) || c)
or_with_both true b c e = refl
or_with_both false b c e = e

-- What equals an element passes no test that the list fails.
equal_element_passes_no_more : {K : Type 0} (same : K → K → Bool) (w : K) → ((x : K) → same w x ≡ true → w ≡ x)
    → (test : K → Bool) (xs : List K) → list_any (same w) xs ≡ true → list_any test xs ≡ (list_any test xs || test w)
equal_element_passes_no_more same w are_one test [] has = absurd (false≢true has)
equal_element_passes_no_more same w are_one test (x ∷ xs) has = by (same w x) refl (equal_element_passes_no_more same w are_one test xs)
  where
    by : (b : Bool) → same w x ≡ b → (list_any (same w) xs ≡ true → list_any test xs ≡ (list_any test xs || test w)) → (test x || list_any test xs) ≡ ((test x || list_any test xs) || test w)
    by true e again = or_with_first (test x) (list_any test xs) ∙ ap (λ y. (test x || list_any test xs) || test y) (sym (are_one x e))
    by false e again = or_with_both (test x) (list_any test xs) (test w) (again (ap (λ b. b || list_any (same w) xs) (sym e) ∙ has))

-- What is added unless it is there is among the elements.
pub added_element_is_among_elements : {K : Type 0} (same : K → K → Bool) (w : K) → ((x : K) → same w x ≡ true → w ≡ x)
    → (test : K → Bool) (xs more : List K) → more ≡ (if list_any (same w) xs then xs else xs ++ w ∷ []) → list_any test more ≡ (list_any test xs || test w)
added_element_is_among_elements same w are_one test xs more is = ap (list_any test) is ∙ by (list_any (same w) xs) refl
  where
    by : (known : Bool) → list_any (same w) xs ≡ known → list_any test (if known then xs else xs ++ w ∷ []) ≡ (list_any test xs || test w)
    by true known = equal_element_passes_no_more same w are_one test xs known
    by false known = list_any-append test xs (w ∷ []) ∙ or_false_after (list_any test xs) (test w)
