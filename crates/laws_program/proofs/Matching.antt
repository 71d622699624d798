-- A list that says something of a value has a member that does.
use Rattle.laws_program.proofs.Common.{◌≡◌, ◌≢◌, inl, inr, ℕ, Bool, true, false, ◌||◌, List, [], ◌∷◌, ◌++◌, length, map, Option, Some, None, refl, sym, ap, ◌∙◌}
use Rattle.laws_program.proofs.Common.{cond, filter, list_any, map-append, Kind, Atom, Member, Line, definitions_of_lines, signed_atom_of_member, fully_expanded_list, times_empty, is_any_value_allowed}
use Rattle.laws_program.proofs.Common.{is_any_value_matched}
use Rattle.std.specs.Option.{is_some}
use Rattle.std.proofs.lemmas.Bool.{or_left, or_right, or_cases}
use Rattle.sudoers_match_list.specs.declared.verdict.MemberHit.{MemberHit}
use Rattle.sudoers_match_list.specs.Flat.{later_hit_if_any, last_hit_of_list}
use Rattle.sudoers_match_list.proofs.Flats.{last_hit_of_appended_is_later_hit}
use Rattle.sudoers_match_list.proofs.Parts.{times_append}
use Rattle.sudoers_cvt_rewrite.specs.Filter.{last_hit_in_expanded_list, is_allowing_hit}

-- ---- tests of items

weaker_test_keeps_passing_element : {X : Type 0} (p q : X → Bool) → ((x : X) → p x ≡ true → q x ≡ true) → (xs : List X) → list_any p xs ≡ true → list_any q xs ≡ true
weaker_test_keeps_passing_element p q more [] e = absurd cc
weaker_test_keeps_passing_element p q more (x ∷ xs) e = elim (or_cases (p x) (list_any p xs) e) as (λ _. list_any q (x ∷ xs) ≡ true) [
  | inl h ↦ or_left (q x) (list_any q xs) (more x h)
  | inr h ↦ or_right (q x) (list_any q xs) (weaker_test_keeps_passing_element p q more xs h)
]

-- Of some value some item passes, so some item passes of some value.
passing_pair_is_found_in_either_order : {X Y : Type 0} (p : Y → X → Bool) (xs : List X) (ys : List Y) → list_any (λ y. list_any (p y) xs) ys ≡ true
    → list_any (λ x. list_any (λ y. p y x) ys) xs ≡ true
passing_pair_is_found_in_either_order p xs [] e = absurd cc
passing_pair_is_found_in_either_order p xs (y ∷ ys) e =
    elim (or_cases (list_any (p y) xs) (list_any (λ z. list_any (p z) xs) ys) e) as (λ _. list_any (λ x. p y x || list_any (λ z. p z x) ys) xs ≡ true) [
      | inl h ↦ weaker_test_keeps_passing_element (p y) (λ x. p y x || list_any (λ z. p z x) ys) (λ x i. or_left (p y x) (list_any (λ z. p z x) ys) i) xs h
      | inr h ↦ weaker_test_keeps_passing_element (λ x. list_any (λ z. p z x) ys) (λ x. p y x || list_any (λ z. p z x) ys) (λ x i. or_right (p y x) (list_any (λ z. p z x) ys) i) xs
          (passing_pair_is_found_in_either_order p xs ys h)
    ]

-- What passes is left.
pub filter_with_passing_element_is_not_empty : {X : Type 0} (p : X → Bool) (xs : List X) → list_any p xs ≡ true → filter p xs ≢ []
filter_with_passing_element_is_not_empty {X = X} p [] e none = absurd cc
filter_with_passing_element_is_not_empty {X = X} p (x ∷ xs) e none = by (p x) e none (filter_with_passing_element_is_not_empty p xs)
  where
    by : (t : Bool) → (t || list_any p xs) ≡ true → cond t (x ∷ filter p xs) (filter p xs) ≡ [] → (list_any p xs ≡ true → filter p xs ≢ []) → ⊥
    by true e none later_hit_if_any = absurd cc
    by false e none later_hit_if_any = later_hit_if_any e none

-- ---- what a list says

later_hit_is_some_of_either : (a b : Option MemberHit) → is_some (later_hit_if_any a b) ≡ (is_some a || is_some b)
later_hit_is_some_of_either None None = refl
later_hit_is_some_of_either None (Some h) = refl
later_hit_is_some_of_either (Some g) None = refl
later_hit_is_some_of_either (Some g) (Some h) = refl

allowing_hit_is_some : (h : Option MemberHit) → is_allowing_hit h ≡ true → is_some h ≡ true
allowing_hit_is_some None e = absurd cc
allowing_hit_is_some (Some h) e = refl

module _ (k : Kind) (lines : List Line) where
  said_append : (test : Atom → Bool) (xs ys : List Member) → last_hit_in_expanded_list lines k test (xs ++ ys) ≡ later_hit_if_any (last_hit_in_expanded_list lines k test xs) (last_hit_in_expanded_list lines k test ys)
  said_append test xs ys =
      ap (λ ms. last_hit_of_list test (map signed_atom_of_member ms)) (times_append k lines (length (definitions_of_lines lines)) xs ys)
      ∙ ap (last_hit_of_list test) (map-append signed_atom_of_member (fully_expanded_list k lines xs) (fully_expanded_list k lines ys))
      ∙ last_hit_of_appended_is_later_hit test (map signed_atom_of_member (fully_expanded_list k lines xs)) (map signed_atom_of_member (fully_expanded_list k lines ys))

  says_by_member : (test : Atom → Bool) (ms : List Member) → is_some (last_hit_in_expanded_list lines k test ms) ≡ list_any (λ (m : Member). is_some (last_hit_in_expanded_list lines k test (m ∷ []))) ms
  says_by_member test [] = ap (λ ms. is_some (last_hit_of_list test (map signed_atom_of_member ms))) (times_empty k lines (length (definitions_of_lines lines)))
  says_by_member test (m ∷ ms) =
      ap is_some (said_append test (m ∷ []) ms)
      ∙ later_hit_is_some_of_either (last_hit_in_expanded_list lines k test (m ∷ [])) (last_hit_in_expanded_list lines k test ms)
      ∙ ap (λ b. is_some (last_hit_in_expanded_list lines k test (m ∷ [])) || b) (says_by_member test ms)

  -- A list that allows one of the values has a member that matches one of them.
  pub allowing_has : (test : List ℕ → Atom → Bool) (values : List (List ℕ)) (ms : List Member) → is_any_value_allowed lines k test values ms ≡ true
      → list_any (λ (m : Member). is_any_value_matched lines k test values (m ∷ [])) ms ≡ true
  allowing_has test values ms e =
      passing_pair_is_found_in_either_order (λ (value : List ℕ) (m : Member). is_some (last_hit_in_expanded_list lines k (test value) (m ∷ []))) ms values
      (weaker_test_keeps_passing_element (λ (value : List ℕ). is_allowing_hit (last_hit_in_expanded_list lines k (test value) ms))
      (λ (value : List ℕ). list_any (λ (m : Member). is_some (last_hit_in_expanded_list lines k (test value) (m ∷ []))) ms)
      (λ value h. sym (says_by_member (test value) ms) ∙ allowing_hit_is_some (last_hit_in_expanded_list lines k (test value) ms) h) values e)

  -- The members that match a value of or_cases kind are not none, if the list allows one.
  pub either_has : (test other : List ℕ → Atom → Bool) (values others : List (List ℕ)) (ms : List Member)
      → (is_any_value_allowed lines k test values ms || is_any_value_allowed lines k other others ms) ≡ true
      → list_any (λ (m : Member). is_any_value_matched lines k test values (m ∷ []) || is_any_value_matched lines k other others (m ∷ [])) ms ≡ true
  either_has test other values others ms e =
      elim (or_cases (is_any_value_allowed lines k test values ms) (is_any_value_allowed lines k other others ms) e)
      as (λ _. list_any (λ (m : Member). is_any_value_matched lines k test values (m ∷ []) || is_any_value_matched lines k other others (m ∷ [])) ms ≡ true) [
        | inl h ↦
            weaker_test_keeps_passing_element (λ (m : Member). is_any_value_matched lines k test values (m ∷ []))
            (λ (m : Member). is_any_value_matched lines k test values (m ∷ []) || is_any_value_matched lines k other others (m ∷ []))
            (λ m i. or_left (is_any_value_matched lines k test values (m ∷ [])) (is_any_value_matched lines k other others (m ∷ [])) i) ms (allowing_has test values ms h)
        | inr h ↦
            weaker_test_keeps_passing_element (λ (m : Member). is_any_value_matched lines k other others (m ∷ []))
            (λ (m : Member). is_any_value_matched lines k test values (m ∷ []) || is_any_value_matched lines k other others (m ∷ []))
            (λ m i. or_right (is_any_value_matched lines k test values (m ∷ [])) (is_any_value_matched lines k other others (m ∷ [])) i) ms (allowing_has other others ms h)
      ]
