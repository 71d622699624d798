-- Elements of lists by their places, after a write, a push or a cut.
use Rattle.sudoers_check.proofs.Common.{AllByRecursion, List, ListHasElement, None, Option, Some, [], ap, arith, eq-eqb, eqb, eqb_tells, get_or, get_or_from_slice_get, inl, inr, length, list_any, ltb, ltb-true, refl}
use Rattle.sudoers_check.proofs.Common.{set, slice_get, slice_get_read, slice_get_within, subst, suc, sym, take, true, zero, ℕ, ◌++◌, ◌-◌, ◌<◌, ◌∙◌, ◌∷◌, ◌≡◌, ◌≢◌, ◌⊎◌}
use Rattle.std.proofs.Math.Bool.{or-true}
use Rattle.std.specs.Borrow.{Bor}
use Rattle.std.specs.Option.{option_to_list, option_copied, is_some, IfSome}

module _ {X : Type 0} where
  pub Has_at : (xs : List X) (i : ℕ) (x : X) → slice_get xs i ≡ Some x → ListHasElement xs x
  Has_at [] i x e = absurd cc
  Has_at (y ∷ ys) zero x e = inl cc
  Has_at (y ∷ ys) (suc i) x e = inr (Has_at ys i x e)

  pub place_of : (xs : List X) (x : X) → ListHasElement xs x → (i : ℕ) × (slice_get xs i ≡ Some x)
  place_of [] x h = elim h [ ]
  place_of (y ∷ ys) x (inl e) = (zero, ap Some e)
  place_of (y ∷ ys) x (inr h) = let at = place_of ys x h in (suc at.0, at.1)

  pub All_at : (P : X → Type 0) (xs : List X) (i : ℕ) (x : X) → AllByRecursion P xs → slice_get xs i ≡ Some x → P x
  All_at P [] i x all e = absurd cc
  All_at P (y ∷ ys) zero x all e = let same : y ≡ x = cc in subst P same all.0
  All_at P (y ∷ ys) (suc i) x all e = All_at P ys i x all.1 e

  -- ---- a push

  pub get_front : (xs ys : List X) (i : ℕ) (x : X) → slice_get xs i ≡ Some x → slice_get (xs ++ ys) i ≡ Some x
  get_front [] ys i x e = absurd cc
  get_front (y ∷ xs) ys zero x e = e
  get_front (y ∷ xs) ys (suc i) x e = get_front xs ys i x e

  pub get_pushed : (xs : List X) (x : X) → slice_get (xs ++ x ∷ []) (length xs) ≡ Some x
  get_pushed [] x = refl
  get_pushed (y ∷ ys) x = get_pushed ys x

  pub get_push : (xs : List X) (x : X) (i : ℕ) (y : X) → slice_get (xs ++ x ∷ []) i ≡ Some y
      → (slice_get xs i ≡ Some y) ⊎ ((i ≡ length xs) × (x ≡ y))
  get_push [] x zero y e = inr (refl, cc)
  get_push [] x (suc i) y e = absurd cc
  get_push (z ∷ zs) x zero y e = inl e
  get_push (z ∷ zs) x (suc i) y e = elim (get_push zs x i y e) [ inl h ↦ inl h | inr h ↦ inr (ap suc h.0, h.1) ]

  pub Has_front : (xs ys : List X) (x : X) → ListHasElement xs x → ListHasElement (xs ++ ys) x
  Has_front [] ys x h = elim h [ ]
  Has_front (y ∷ xs) ys x (inl e) = inl e
  Has_front (y ∷ xs) ys x (inr h) = inr (Has_front xs ys x h)

  pub Has_pushed : (xs : List X) (x : X) → ListHasElement (xs ++ x ∷ []) x
  Has_pushed [] x = inl refl
  Has_pushed (y ∷ ys) x = inr (Has_pushed ys x)

  pub Has_push : (xs : List X) (x y : X) → ListHasElement (xs ++ x ∷ []) y → ListHasElement xs y ⊎ (x ≡ y)
  Has_push [] x y (inl e) = inr e
  Has_push [] x y (inr h) = elim h [ ]
  Has_push (z ∷ zs) x y (inl e) = inl (inl e)
  Has_push (z ∷ zs) x y (inr h) = elim (Has_push zs x y h) [ inl k ↦ inl (inr k) | inr e ↦ inr e ]

  -- ---- a write

  pub get-set_same : (xs : List X) (i : ℕ) (x : X) → i < length xs → slice_get (set xs i x) i ≡ Some x
  get-set_same [] i x h = absurd (omega arith)
  get-set_same (y ∷ ys) zero x h = refl
  get-set_same (y ∷ ys) (suc i) x h = get-set_same ys i x (omega arith)

  pub get-set_other : (xs : List X) (i j : ℕ) (x : X) → j ≢ i → slice_get (set xs i x) j ≡ slice_get xs j
  get-set_other [] i j x n = refl
  get-set_other (y ∷ ys) zero zero x n = absurd (n refl)
  get-set_other (y ∷ ys) zero (suc j) x n = refl
  get-set_other (y ∷ ys) (suc i) zero x n = refl
  get-set_other (y ∷ ys) (suc i) (suc j) x n = get-set_other ys i j x (λ e. n (ap suc e))

  -- what stands anywhere after a write
  pub get-set : (xs : List X) (i j : ℕ) (x y : X) → slice_get (set xs i x) j ≡ Some y
      → ((j ≡ i) × (x ≡ y)) ⊎ ((j ≢ i) × (slice_get xs j ≡ Some y))
  get-set [] i j x y e = absurd cc
  get-set (z ∷ zs) zero zero x y e = inl (refl, cc)
  get-set (z ∷ zs) zero (suc j) x y e = inr (λ h. absurd (omega arith), e)
  get-set (z ∷ zs) (suc i) zero x y e = inr (λ h. absurd (omega arith), e)
  get-set (z ∷ zs) (suc i) (suc j) x y e =
      elim (get-set zs i j x y e) [ inl h ↦ inl (ap suc h.0, h.1) | inr h ↦ inr (λ same. h.0 (omega arith), h.1) ]

  -- ---- a cut

  pub get_cut : (n : ℕ) (xs : List X) (i : ℕ) (x : X) → slice_get (take n xs) i ≡ Some x → (i < n) × (slice_get xs i ≡ Some x)
  get_cut zero xs i x e = absurd cc
  get_cut (suc n) [] i x e = absurd cc
  get_cut (suc n) (y ∷ ys) zero x e = (omega arith, e)
  get_cut (suc n) (y ∷ ys) (suc i) x e = let h = get_cut n ys i x e in (omega (arith, h.0), h.1)

  pub get_kept : (n : ℕ) (xs : List X) (i : ℕ) (x : X) → i < n → slice_get xs i ≡ Some x → slice_get (take n xs) i ≡ Some x
  get_kept zero xs i x h e = absurd (omega arith)
  get_kept (suc n) [] i x h e = absurd cc
  get_kept (suc n) (y ∷ ys) zero x h e = e
  get_kept (suc n) (y ∷ ys) (suc i) x h e = get_kept n ys i x (omega arith) e

-- ---- a number among others

pub list_element_passes_number_test : (v : ℕ) (xs : List ℕ) → ListHasElement xs v → list_any (λ y. eqb y v) xs ≡ true
list_element_passes_number_test v [] h = elim h [ ]
list_element_passes_number_test v (x ∷ xs) (inl e) = rw (eq-eqb x v e)
list_element_passes_number_test v (x ∷ xs) (inr h) = rw (list_element_passes_number_test v xs h) (or-true (eqb x v))

pub number_test_implies_list_element : (v : ℕ) (xs : List ℕ) → list_any (λ y. eqb y v) xs ≡ true → ListHasElement xs v
number_test_implies_list_element v [] e = absurd cc
number_test_implies_list_element v (x ∷ xs) e = elim (eqb_tells x v) [ inl same ↦ inl same.1 | inr other ↦ inr (number_test_implies_list_element v xs (rw other.0 at e)) ]

-- what is left without the last
pub popped_list_is_front_and_last : (xs rest : List ℕ) (o : Option ℕ) (n x : ℕ) → xs ≡ rest ++ option_to_list o → ((d : ℕ) → 0 < n → o ≡ Some (get_or xs (n - 1) d))
    → n ≡ length xs → slice_get xs (length xs - 1) ≡ Some x → xs ≡ rest ++ x ∷ []
popped_list_is_front_and_last xs rest o n x e value count last =
    let within : length xs - 1 < length xs = slice_get_within xs (length xs - 1) x last in
    let is = value 0 (omega (arith, count, within)) in
    let same : get_or xs (length xs - 1) 0 ≡ x = get_or_from_slice_get xs (length xs - 1) x 0 last in
    e ∙ ap (λ r. rest ++ option_to_list r) (is ∙ ap (λ m. Some (get_or xs (m - 1) 0)) count ∙ ap Some same)

-- what `get` and `copied` gave
pub copied_element_is_element_at_index : (xs : List ℕ) (i : ℕ) (o : Option (Bor ℕ)) (x : ℕ) → is_some o ≡ ltb i (length xs) → IfSome o (λ y. y.now ≡ get_or xs i y.now)
    → Some x ≡ option_copied o → slice_get xs i ≡ Some x
copied_element_is_element_at_index xs i None x m h e = absurd cc
copied_element_is_element_at_index xs i (Some y) x m h e = slice_get_read xs (length xs) i y.now refl (ltb-true i (length xs) (sym m)) h ∙ sym e
