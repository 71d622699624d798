-- Lists that ascend, and a push.
use Rattle.sudoers_check.proofs.Common.{HasAscendingKeys, List, ListHasElement, Some, [], ap, arith, cases_lt, inl, inr, length, slice_get, slice_get_within, subst, sym, ℕ, ◌++◌, ◌-◌, ◌<◌, ◌∙◌, ◌∷◌, ◌≡◌, ◌≤◌, ◌⊎◌}
use Rattle.sudoers_check.proofs.Lists.{Has_at, place_of, get_front, get_pushed, get_push}

module _ {X : Type 0} (key : X → ℕ) where
  pub ascends_front : (xs ys : List X) → HasAscendingKeys key (xs ++ ys) → HasAscendingKeys key xs
  ascends_front xs ys a i j x y at_i at_j lt = a i j x y (get_front xs ys i x at_i) (get_front xs ys j y at_j) lt

  pub ascends_last : (xs : List X) (y : X) → HasAscendingKeys key (xs ++ y ∷ []) → (x : X) → ListHasElement xs x → key x < key y
  ascends_last xs y a x h =
      let at = place_of xs x h in
      a at.0 (length xs) x y (get_front xs (y ∷ []) at.0 x at.1) (get_pushed xs y) (slice_get_within xs at.0 x at.1)

  pub ascends_push : (xs : List X) (y : X) → HasAscendingKeys key xs → ((x : X) → ListHasElement xs x → key x < key y) → HasAscendingKeys key (xs ++ y ∷ [])
  ascends_push xs y a below i j x z at_i at_j lt = by (get_push xs y i x at_i) (get_push xs y j z at_j)
    where
      by : (slice_get xs i ≡ Some x) ⊎ ((i ≡ length xs) × (y ≡ x)) → (slice_get xs j ≡ Some z) ⊎ ((j ≡ length xs) × (y ≡ z)) → key x < key z
      by (inl p) (inl q) = a i j x z p q lt
      by (inl p) (inr q) = subst (λ w. key x < key w) q.1 (below x (Has_at xs i x p))
      by (inr p) (inl q) = let within : j < length xs = slice_get_within xs j z q in absurd (omega (arith, p.0))
      by (inr p) (inr q) = absurd (omega (arith, p.0, q.0))

  -- the last is the greatest
  pub ascends_end : (xs : List X) (y x : X) → HasAscendingKeys key xs → slice_get xs (length xs - 1) ≡ Some y → ListHasElement xs x → key x ≤ key y
  ascends_end xs y x a end h =
      let at = place_of xs x h in
      let within : at.0 < length xs = slice_get_within xs at.0 x at.1 in
      elim (cases_lt at.0 (length xs - 1)) [
        | inl before ↦ let lt : key x < key y = a at.0 (length xs - 1) x y at.1 end before in omega arith
        | inr behind ↦
            let there : at.0 ≡ length xs - 1 = omega arith in
            let same : Some x ≡ Some y = sym at.1 ∙ ap (slice_get xs) there ∙ end in
            let is : x ≡ y = cc in
            let keys : key x ≡ key y = ap key is in
            omega arith
      ]
