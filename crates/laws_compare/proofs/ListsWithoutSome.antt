-- The last item with a property is the last in a list that lacks some items, if none of these is the last.
use Rattle.std.proofs.Common.{◌≡◌, ◌⊎◌, inl, inr, List, [], ◌∷◌, ◌++◌, Option, Some, None, refl, sym, ap, subst}
use Rattle.std.specs.List.{AllByRecursion}
use Rattle.sudoers_check.specs.Chain.{ListHasElement}
use Rattle.sudoers_match.specs.Last.{IsLastItemWith}
use Rattle.laws_compare.specs.Covers.{IsListWithoutSome, nothing_left, item_kept, item_left_out}
use Rattle.laws_compare.specs.Granted.{AreAllItemsWith, no_item_more, item_with, item_without}

module _ {X : Type 0} (P : X → Type 0) where
  abbrev pub Not : X → Type 0
  Not x = P x → ⊥

  pub no_element_has_property_that_none_has : (xs : List X) → AllByRecursion Not xs → (x : X) → ListHasElement xs x → P x → ⊥
  no_element_has_property_that_none_has [] none x has p = has
  no_element_has_property_that_none_has (y ∷ xs) none x (inl e) p = none.0 (subst P (sym e) p)
  no_element_has_property_that_none_has (y ∷ xs) none x (inr has) p = no_element_has_property_that_none_has xs none.1 x has p

  -- The last of a list stands behind the first item, or it is that item.
  pub last_is_behind_first_or_is_first : (x : X) (xs : List X) (a : Option X) → IsLastItemWith P (x ∷ xs) a
      → (IsLastItemWith P xs a × (Not x ⊎ ((y : X) × (a ≡ Some y)))) ⊎ ((a ≡ Some x) × P x × AllByRecursion Not xs)
  last_is_behind_first_or_is_first x xs None l = inl (l.1, inl l.0)
  last_is_behind_first_or_is_first x xs (Some y) ([], after, e, p, none) =
      let first : x ≡ y = cc in
      let rest : xs ≡ after = cc in
      inr (ap Some (sym first), subst P (sym first) p, subst (AllByRecursion Not) (sym rest) none)
  last_is_behind_first_or_is_first x xs (Some y) (b ∷ before, after, e, p, none) =
      let rest : xs ≡ before ++ y ∷ after = cc in
      inl ((before, after, rest, p, none), inr (y, refl))

  -- The last stays the last if the list gets an item more in front.
  last_stays_last_behind_new_first : (x : X) (xs : List X) (a : Option X) → IsLastItemWith P xs a → (a ≡ None → Not x) → IsLastItemWith P (x ∷ xs) a
  last_stays_last_behind_new_first x xs None l not = (not refl, l)
  last_stays_last_behind_new_first x xs (Some y) l not = (x ∷ l.0, l.1, ap (λ zs. x ∷ zs) l.2, l.3, l.4)

  first_is_last_if_none_behind_has_property : (x : X) (xs : List X) (a : Option X) → a ≡ Some x → P x → AllByRecursion Not xs → IsLastItemWith P (x ∷ xs) a
  first_is_last_if_none_behind_has_property x xs a e p none = subst (IsLastItemWith P (x ∷ xs)) (sym e) ([], xs, refl, p, none)

  first_lacks_property_if_none_is_last : (x : X) (a : Option X) → Not x ⊎ ((y : X) × (a ≡ Some y)) → a ≡ None → Not x
  first_lacks_property_if_none_is_last x a (inl not) e = not
  first_lacks_property_if_none_is_last x a (inr some) e = absurd (by a some.0 some.1 e)
    where
      by : (a : Option X) (y : X) → a ≡ Some y → a ≡ None → ⊥
      by None y e f = absurd cc
      by (Some z) y e f = absurd cc

  -- An item that is left out has the property only if one behind it has it.
  module _ (MayLack : X → List X → Type 0) (never : (x : X) (xs : List X) → MayLack x xs → P x → AllByRecursion Not xs → ⊥) where
    pub last_is_last_without_some : (xs ys : List X) (a : Option X) → IsListWithoutSome MayLack xs ys → IsLastItemWith P xs a → IsLastItemWith P ys a
    last_is_last_without_some xs ys a nothing_left l = l
    last_is_last_without_some xs ys a (item_kept x more rest is) l = elim (last_is_behind_first_or_is_first x more a l) [
      | inl s ↦ last_stays_last_behind_new_first x rest a (last_is_last_without_some more rest a is s.0) (first_lacks_property_if_none_is_last x a s.1)
      | inr s ↦ first_is_last_if_none_behind_has_property x rest a s.0 s.1 (last_is_last_without_some more rest None is s.2)
    ]
    last_is_last_without_some xs ys a (item_left_out x more rest lacks is) l = elim (last_is_behind_first_or_is_first x more a l) [
      | inl s ↦ last_is_last_without_some more rest a is s.0
      | inr s ↦ absurd (never x more lacks s.1 s.2)
    ]

    pub last_without_some_is_last : (xs ys : List X) (a : Option X) → IsListWithoutSome MayLack xs ys → IsLastItemWith P ys a → IsLastItemWith P xs a
    last_without_some_is_last xs ys a nothing_left l = l
    last_without_some_is_last xs ys a (item_kept x more rest is) l = elim (last_is_behind_first_or_is_first x rest a l) [
      | inl s ↦ last_stays_last_behind_new_first x more a (last_without_some_is_last more rest a is s.0) (first_lacks_property_if_none_is_last x a s.1)
      | inr s ↦ first_is_last_if_none_behind_has_property x more a s.0 s.1 (last_without_some_is_last more rest None is s.2)
    ]
    last_without_some_is_last xs ys a (item_left_out x more rest lacks is) l =
        let inner = last_without_some_is_last more rest a is l in
        last_stays_last_behind_new_first x more a inner (λ e p. never x more lacks p (subst (IsLastItemWith P more) e inner))

pub items_with_property_are_list_without_others : {X : Type 0} (Q : X → Type 0) (xs ys : List X) → AreAllItemsWith Q xs ys → IsListWithoutSome (λ x behind. Q x → ⊥) xs ys
items_with_property_are_list_without_others Q xs ys no_item_more = nothing_left
items_with_property_are_list_without_others Q xs ys (item_with x more rest q is) = item_kept x more rest (items_with_property_are_list_without_others Q more rest is)
items_with_property_are_list_without_others Q xs ys (item_without x more rest not is) = item_left_out x more rest not (items_with_property_are_list_without_others Q more rest is)

pub all_items_with_property_have_it : {X : Type 0} (Q : X → Type 0) (xs ys : List X) → AreAllItemsWith Q xs ys → AllByRecursion Q ys
all_items_with_property_have_it Q xs ys no_item_more = tt
all_items_with_property_have_it Q xs ys (item_with x more rest q is) = (q, all_items_with_property_have_it Q more rest is)
all_items_with_property_have_it Q xs ys (item_without x more rest not is) = all_items_with_property_have_it Q more rest is
