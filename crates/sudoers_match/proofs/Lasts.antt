-- The last of lists.
use Rattle.sudoers_match.proofs.Common.{AllByRecursion, IsLastItemWith, List, None, Option, Some, [], ap, append_assoc, cons_option, drop, drop_all, drop_more, filter_map, get_or, inl, inr, last_item_of, length, map}
use Rattle.sudoers_match.proofs.Common.{option_map, option_or, refl, subst, sym, ℕ, ◌++◌, ◌+◌, ◌<◌, ◌∙◌, ◌∷◌, ◌≡◌, ◌≤◌, ◌⊎◌}

pub option_or_none_is_option : {X : Type 0} (a : Option X) → option_or a None ≡ a
option_or_none_is_option None = refl
option_or_none_is_option (Some x) = refl

option_or_after_some_ignores_last : {X : Type 0} (a : Option X) (x : X) (z : Option X) → option_or (option_or a (Some x)) z ≡ option_or a (Some x)
option_or_after_some_ignores_last None x z = refl
option_or_after_some_ignores_last (Some y) x z = refl

last_item_after_optional_first_is_last : {X : Type 0} (o : Option X) (xs : List X) (z : Option X) → option_or (last_item_of (cons_option o xs)) z ≡ option_or (last_item_of xs) (option_or o z)
last_item_after_optional_first_is_last None xs z = refl
last_item_after_optional_first_is_last (Some x) xs z = option_or_after_some_ignores_last (last_item_of xs) x z

pub option_map_distributes_over_option_or : {X Y : Type 0} (f : X → Y) (a b : Option X) → option_map f (option_or a b) ≡ option_or (option_map f a) (option_map f b)
option_map_distributes_over_option_or f None b = refl
option_map_distributes_over_option_or f (Some x) b = refl

module _ {R P V : Type 0} (f : R → P) (h : P → Option V) (rows : List R) where
  -- the last of what some items give, one item more
  pub last_more : (i : ℕ) (d : R) (z : Option V) → i < length rows
      → option_or (last_item_of (filter_map h (map f (drop (i + 1) rows)))) (option_or (h (f (get_or rows i d))) z) ≡ option_or (last_item_of (filter_map h (map f (drop i rows)))) z
  last_more i d z within =
      sym (last_item_after_optional_first_is_last (h (f (get_or rows i d))) (filter_map h (map f (drop (i + 1) rows))) z)
      ∙ ap (λ rs. option_or (last_item_of (filter_map h (map f rs))) z) (sym (drop_more rows i d within))

  pub last_all : (i : ℕ) (z : Option V) → length rows ≤ i → option_or (last_item_of (filter_map h (map f (drop i rows)))) z ≡ z
  last_all i z end = ap (λ rs. option_or (last_item_of (filter_map h (map f rs))) z) (drop_all i rows end)

-- ---- the last of which something holds

module _ {X : Type 0} (P : X → Type 0) where
  pub all_append : (xs ys : List X) → AllByRecursion P xs → AllByRecursion P ys → AllByRecursion P (xs ++ ys)
  all_append [] ys a b = b
  all_append (x ∷ xs) ys a b = (a.0, all_append xs ys a.1 b)

  all_within : (before : List X) (x : X) (after : List X) → AllByRecursion P (before ++ x ∷ after) → P x
  all_within [] x after a = a.0
  all_within (y ∷ before) x after a = all_within before x after a.1

module _ {X : Type 0} (P : X → Type 0) where
  abbrev Not : X → Type 0
  Not x = P x → ⊥

  pub last_then : (xs ys : List X) (a b : Option X) → IsLastItemWith P xs a → IsLastItemWith P ys b → IsLastItemWith P (xs ++ ys) (option_or b a)
  last_then xs ys None None l m = all_append Not xs ys l m
  last_then xs ys (Some x) None l m =
      (l.0, l.1 ++ ys, ap (λ zs. zs ++ ys) l.2 ∙ append_assoc l.0 (x ∷ l.1) ys, l.3, all_append Not l.1 ys l.4 m)
  last_then xs ys a (Some x) l m = (xs ++ m.0, m.1, ap (λ zs. xs ++ zs) m.2 ∙ sym (append_assoc xs m.0 (x ∷ m.1)), m.3, m.4)

  none_of_some : (xs : List X) (x : X) → IsLastItemWith P xs (Some x) → AllByRecursion Not xs → ⊥
  none_of_some xs x l none = all_within Not l.0 x l.1 (subst (AllByRecursion Not) l.2 none) l.3

  -- the last of a list stands behind its first item, or it is that item
  behind : (x : X) (xs : List X) (a : Option X) → IsLastItemWith P (x ∷ xs) a
      → (IsLastItemWith P xs a × (Not x ⊎ ((y : X) × (a ≡ Some y)))) ⊎ ((a ≡ Some x) × P x × AllByRecursion Not xs)
  behind x xs None l = inl (l.1, inl l.0)
  behind x xs (Some y) ([], after, e, p, none) =
      let first : x ≡ y = cc in
      let rest : xs ≡ after = cc in
      inr (ap Some (sym first), subst P (sym first) p, subst (AllByRecursion Not) (sym rest) none)
  behind x xs (Some y) (b ∷ before, after, e, p, none) =
      let rest : xs ≡ before ++ y ∷ after = cc in
      inl ((before, after, rest, p, none), inr (y, refl))

  -- there is one
  pub last_one : (xs : List X) (a b : Option X) → IsLastItemWith P xs a → IsLastItemWith P xs b → a ≡ b
  last_one [] None None l m = refl
  last_one [] (Some x) b l m = absurd (none_of_some [] x l tt)
  last_one [] None (Some y) l m = absurd (none_of_some [] y m tt)
  last_one (x ∷ xs) a b l m = elim (behind x xs a l) [
    | inl s ↦ elim (behind x xs b m) [
      | inl t ↦ last_one xs a b s.0 t.0
      | inr t ↦ absurd (clash s.0 s.1 t.1 t.2)
    ]
    | inr s ↦ elim (behind x xs b m) [
      | inl t ↦ absurd (clash t.0 t.1 s.1 s.2)
      | inr t ↦ s.0 ∙ sym t.0
    ]
  ]
    where
      clash : {o : Option X} → IsLastItemWith P xs o → Not x ⊎ ((y : X) × (o ≡ Some y)) → P x → AllByRecursion Not xs → ⊥
      clash l (inl other) p none = other p
      clash l (inr (y, e)) p none = none_of_some xs y (subst (IsLastItemWith P xs) e l) none
