-- Lists, kinds and names.
use Rattle.sudoers_check.proofs.Common.{Bool, Cmnd, Host, Kind, List, ListHasElement, PlacedDefinition, Runas, Some, User, [], ap, bytes_eq, bytes_eq-Decides, cond, false, filter, first_definition_of, flat_map}
use Rattle.sudoers_check.proofs.Common.{if◌then◌else◌, inl, inr, is_definition_of_name, is_equal_kind, is_some, list_any, refl, subst, sym, true, ℕ, ◌&&◌, ◌++◌, ◌||◌, ◌∙◌, ◌∷◌, ◌≡◌, ◌⊎◌}

-- BOOLEANS

pub true_conjunction_has_true_parts : (x y : Bool) → (x && y) ≡ true → (x ≡ true) × (y ≡ true)
true_conjunction_has_true_parts true true e = (refl, refl)
true_conjunction_has_true_parts true false e = (refl, e)
true_conjunction_has_true_parts false true e = (e, refl)
true_conjunction_has_true_parts false false e = (e, e)

pub truth_value_is_not_true_and_false : (x : Bool) → x ≡ true → x ≡ false → ⊥
truth_value_is_not_true_and_false true t f = cc
truth_value_is_not_true_and_false false t f = cc

pub truth_value_is_true_or_false : (x : Bool) → (x ≡ true) ⊎ (x ≡ false)
truth_value_is_true_or_false true = inl refl
truth_value_is_true_or_false false = inr refl

-- MEMBERS OF LISTS

pub element_of_appended_is_in_either : {X : Type 0} (xs ys : List X) (x : X) → ListHasElement (xs ++ ys) x → ListHasElement xs x ⊎ ListHasElement ys x
element_of_appended_is_in_either [] ys x h = inr h
element_of_appended_is_in_either (z ∷ xs) ys x (inl e) = inl (inl e)
element_of_appended_is_in_either (z ∷ xs) ys x (inr h) = elim (element_of_appended_is_in_either xs ys x h) as (λ _. ListHasElement (z ∷ xs) x ⊎ ListHasElement ys x) [ inl a ↦ inl (inr a) | inr b ↦ inr b ]

pub element_of_front_is_in_appended : {X : Type 0} (xs ys : List X) (x : X) → ListHasElement xs x → ListHasElement (xs ++ ys) x
element_of_front_is_in_appended [] ys x h = absurd h
element_of_front_is_in_appended (z ∷ xs) ys x (inl e) = inl e
element_of_front_is_in_appended (z ∷ xs) ys x (inr h) = inr (element_of_front_is_in_appended xs ys x h)

pub element_of_back_is_in_appended : {X : Type 0} (xs ys : List X) (x : X) → ListHasElement ys x → ListHasElement (xs ++ ys) x
element_of_back_is_in_appended [] ys x h = h
element_of_back_is_in_appended (z ∷ xs) ys x h = inr (element_of_back_is_in_appended xs ys x h)

pub element_of_part_is_in_flat_map : {X Y : Type 0} (f : X → List Y) (xs : List X) (x : X) (y : Y) → ListHasElement xs x → ListHasElement (f x) y → ListHasElement (flat_map f xs) y
element_of_part_is_in_flat_map f [] x y h g = absurd h
element_of_part_is_in_flat_map f (z ∷ xs) x y (inl e) g = element_of_front_is_in_appended (f z) (flat_map f xs) y (subst (λ w. ListHasElement (f w) y) (sym e) g)
element_of_part_is_in_flat_map f (z ∷ xs) x y (inr h) g = element_of_back_is_in_appended (f z) (flat_map f xs) y (element_of_part_is_in_flat_map f xs x y h g)

-- an element of a flat list comes from one
pub flat_map_element_is_of_some_part : {X Y : Type 0} (f : X → List Y) (xs : List X) (y : Y) → ListHasElement (flat_map f xs) y → (x : X) × ListHasElement xs x × ListHasElement (f x) y
flat_map_element_is_of_some_part f [] y h = absurd h
flat_map_element_is_of_some_part f (z ∷ xs) y h = elim (element_of_appended_is_in_either (f z) (flat_map f xs) y h) as (λ _. (x : _) × ListHasElement (z ∷ xs) x × ListHasElement (f x) y) [
  | inl a ↦ (z, inl refl, a)
  | inr b ↦ let r = flat_map_element_is_of_some_part f xs y b in (r.0, inr r.1, r.2)
]

pub passing_element_is_in_filtered : {X : Type 0} (p : X → Bool) (xs : List X) (x : X) → ListHasElement xs x → p x ≡ true → ListHasElement (filter p xs) x
passing_element_is_in_filtered p [] x h t = absurd h
passing_element_is_in_filtered p (z ∷ xs) x (inl e) t =
    let e1 : p z ≡ true = ap p e ∙ t in
    subst (λ (b : Bool). ListHasElement (cond b (z ∷ filter p xs) (filter p xs)) x) (sym e1) (inl e)
passing_element_is_in_filtered p (z ∷ xs) x (inr h) t =
    elim (p z) as (λ b. ListHasElement (cond b (z ∷ filter p xs) (filter p xs)) x) [
      | true ↦ inr (passing_element_is_in_filtered p xs x h t)
      | false ↦ passing_element_is_in_filtered p xs x h t
    ]

element_of_conditional_filter_passes : {X : Type 0} (p : X → Bool) (z : X) (xs : List X) (x : X) (b : Bool) → p z ≡ b → ListHasElement (cond b (z ∷ filter p xs) (filter p xs)) x → (ListHasElement (filter p xs) x → ListHasElement xs x × (p x ≡ true)) → ListHasElement (z ∷ xs) x × (p x ≡ true)
element_of_conditional_filter_passes p z xs x true e (inl s) rest = (inl s, ap p (sym s) ∙ e)
element_of_conditional_filter_passes p z xs x true e (inr h) rest = let r = rest h in (inr r.0, r.1)
element_of_conditional_filter_passes p z xs x false e h rest = let r = rest h in (inr r.0, r.1)

pub filtered_element_is_in_list_and_passes : {X : Type 0} (p : X → Bool) (xs : List X) (x : X) → ListHasElement (filter p xs) x → ListHasElement xs x × (p x ≡ true)
filtered_element_is_in_list_and_passes p [] x h = absurd h
filtered_element_is_in_list_and_passes p (z ∷ xs) x h = element_of_conditional_filter_passes p z xs x (p z) refl h (λ g. filtered_element_is_in_list_and_passes p xs x g)

pub passing_list_has_passing_element : {X : Type 0} (p : X → Bool) (xs : List X) → list_any p xs ≡ true → (x : X) × ListHasElement xs x × (p x ≡ true)
passing_list_has_passing_element p [] e = absurd (truth_value_is_not_true_and_false false e refl)
passing_list_has_passing_element p (z ∷ xs) e = elim (truth_value_is_true_or_false (p z)) as (λ _. (x : _) × ListHasElement (z ∷ xs) x × (p x ≡ true)) [
  | inl t ↦ (z, inl refl, t)
  | inr f ↦ let r = passing_list_has_passing_element p xs (ap (λ b. b || list_any p xs) (sym f) ∙ e) in (r.0, inr r.1, r.2)
]

pub passing_element_makes_list_pass : {X : Type 0} (p : X → Bool) (xs : List X) (x : X) → ListHasElement xs x → p x ≡ true → list_any p xs ≡ true
passing_element_makes_list_pass p [] x h t = absurd h
passing_element_makes_list_pass p (z ∷ xs) x (inl e) t = ap (λ b. b || list_any p xs) (ap p e ∙ t)
passing_element_makes_list_pass p (z ∷ xs) x (inr h) t = elim (p z) as (λ b. (b || list_any p xs) ≡ true) [ true ↦ refl | false ↦ passing_element_makes_list_pass p xs x h t ]

-- KINDS AND NAMES

pub kinds_tested_equal_are_equal : (k j : Kind) → is_equal_kind k j ≡ true → k ≡ j
kinds_tested_equal_are_equal User User e = refl
kinds_tested_equal_are_equal User Runas e = cc
kinds_tested_equal_are_equal User Host e = cc
kinds_tested_equal_are_equal User Cmnd e = cc
kinds_tested_equal_are_equal Runas User e = cc
kinds_tested_equal_are_equal Runas Runas e = refl
kinds_tested_equal_are_equal Runas Host e = cc
kinds_tested_equal_are_equal Runas Cmnd e = cc
kinds_tested_equal_are_equal Host User e = cc
kinds_tested_equal_are_equal Host Runas e = cc
kinds_tested_equal_are_equal Host Host e = refl
kinds_tested_equal_are_equal Host Cmnd e = cc
kinds_tested_equal_are_equal Cmnd User e = cc
kinds_tested_equal_are_equal Cmnd Runas e = cc
kinds_tested_equal_are_equal Cmnd Host e = cc
kinds_tested_equal_are_equal Cmnd Cmnd e = refl

pub kind_is_equal_to_itself : (k : Kind) → is_equal_kind k k ≡ true
kind_is_equal_to_itself User = refl
kind_is_equal_to_itself Runas = refl
kind_is_equal_to_itself Host = refl
kind_is_equal_to_itself Cmnd = refl

-- A definition of a name in a kind has that kind and that name.
pub definition_of_name_has_kind_and_name : (k : Kind) (name : List ℕ) (d : PlacedDefinition) → is_definition_of_name k name d ≡ true → (d.kind ≡ k) × (d.def.name ≡ name)
definition_of_name_has_kind_and_name k name d e =
    let parts = true_conjunction_has_true_parts (is_equal_kind k d.kind) (bytes_eq name d.def.name) e in
    (sym (kinds_tested_equal_are_equal k d.kind parts.0), sym ((bytes_eq-Decides name d.def.name).0 parts.1))

pub definition_of_kind_and_name_defines_it : (k : Kind) (name : List ℕ) (d : PlacedDefinition) → d.kind ≡ k → d.def.name ≡ name → is_definition_of_name k name d ≡ true
definition_of_kind_and_name_defines_it k name d ek en =
    ap (λ j. is_equal_kind k j && bytes_eq name d.def.name) ek ∙ ap (λ b. b && bytes_eq name d.def.name) (kind_is_equal_to_itself k)
    ∙ (bytes_eq-Decides name d.def.name).1 (sym en)

pub definition_is_of_its_own_name : (d : PlacedDefinition) → is_definition_of_name d.kind d.def.name d ≡ true
definition_is_of_its_own_name d = definition_of_kind_and_name_defines_it d.kind d.def.name d refl refl

-- FOUND AMONG DEFINITIONS

pub defined_name_has_definition_in_list : (k : Kind) (name : List ℕ) (ds : List PlacedDefinition) → is_some (first_definition_of k name ds) ≡ true → (d : PlacedDefinition) × ListHasElement ds d × (is_definition_of_name k name d ≡ true)
defined_name_has_definition_in_list k name [] e = absurd (truth_value_is_not_true_and_false false e refl)
defined_name_has_definition_in_list k name (z ∷ ds) e = elim (truth_value_is_true_or_false (is_definition_of_name k name z)) as (λ _. (d : PlacedDefinition) × ListHasElement (z ∷ ds) d × (is_definition_of_name k name d ≡ true)) [
  | inl t ↦ (z, inl refl, t)
  | inr f ↦ let r = defined_name_has_definition_in_list k name ds (ap (λ b. is_some (if b then Some z else first_definition_of k name ds)) (sym f) ∙ e) in (r.0, inr r.1, r.2)
]

pub definition_in_list_defines_its_name : (k : Kind) (name : List ℕ) (ds : List PlacedDefinition) (d : PlacedDefinition) → ListHasElement ds d → is_definition_of_name k name d ≡ true → is_some (first_definition_of k name ds) ≡ true
definition_in_list_defines_its_name k name [] d h t = absurd h
definition_in_list_defines_its_name k name (z ∷ ds) d (inl e) t = ap (λ b. is_some (if b then Some z else first_definition_of k name ds)) (ap (is_definition_of_name k name) e ∙ t)
definition_in_list_defines_its_name k name (z ∷ ds) d (inr h) t =
    elim (is_definition_of_name k name z) as (λ b. is_some (if b then Some z else first_definition_of k name ds) ≡ true) [ true ↦ refl | false ↦ definition_in_list_defines_its_name k name ds d h t ]
