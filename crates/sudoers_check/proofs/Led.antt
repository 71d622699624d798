-- What is computed of chains agrees with them.
use Rattle.sudoers_check.proofs.Common.{Bool, DefinitionMentionsName, IsCyclic, IsReachedFromSpecOrDefaults, IsReachedByChainOfSteps, Kind, Line, List, ListHasElement, PlacedDefinition, [], alias_names_among_members, ap, arith, cond}
use Rattle.sudoers_check.proofs.Common.{definitions_left_after_rounds, definitions_of_lines, false, filter, here, inl, inr, is_cyclic, is_definition_of_name, is_definition_of_names, is_reached_from_names, is_unused}
use Rattle.sudoers_check.proofs.Common.{length, list_any, names_mentioned_by, not, onward, refl, root_alias_names, subst, suc, sym, true, zero, ℕ, ◌<◌, ◌||◌, ◌∙◌, ◌∷◌, ◌≡◌, ◌≤◌, ◌⊎◌}
use Rattle.sudoers_check.proofs.Named.{truth_value_is_not_true_and_false, truth_value_is_true_or_false, element_of_part_is_in_flat_map, flat_map_element_is_of_some_part, passing_element_is_in_filtered, filtered_element_is_in_list_and_passes, passing_list_has_passing_element, passing_element_makes_list_pass, definition_of_name_has_kind_and_name, definition_of_kind_and_name_defines_it, definition_is_of_its_own_name, defined_name_has_definition_in_list, definition_in_list_defines_its_name}

not_being_true_is_false : (b : Bool) → not b ≡ true → b ≡ false
not_being_true_is_false true e = cc
not_being_true_is_false false e = refl

not_being_false_is_true : (b : Bool) → not b ≡ false → b ≡ true
not_being_false_is_true true e = refl
not_being_false_is_true false e = cc

-- WHAT IS TAKEN OUT IS LED TO

abbrev IsNameReachedByMentions : Kind → List PlacedDefinition → List (List ℕ) → List ℕ → Type 0
IsNameReachedByMentions k all from = IsReachedByChainOfSteps (DefinitionMentionsName k all) (ListHasElement from)

-- those that are named are led to, and so is what they mention
names_mentioned_by_reached_are_reached : (k : Kind) (all : List PlacedDefinition) (from names : List (List ℕ)) (ds : List PlacedDefinition) → ((name : List ℕ) → ListHasElement names name → IsNameReachedByMentions k all from name)
    → ((d : PlacedDefinition) → ListHasElement ds d → ListHasElement all d) → (name : List ℕ) → ListHasElement (names_mentioned_by (filter (is_definition_of_names k names) ds)) name → IsNameReachedByMentions k all from name
names_mentioned_by_reached_are_reached k all from names ds led in_all name h =
    let hit = flat_map_element_is_of_some_part (λ (d : PlacedDefinition). alias_names_among_members d.def.members) (filter (is_definition_of_names k names) ds) name h in
    let d : PlacedDefinition = hit.0 in
    let was = filtered_element_is_in_list_and_passes (is_definition_of_names k names) ds d hit.1 in
    let by = passing_list_has_passing_element (λ n. is_definition_of_name k n d) names was.1 in
    let is = definition_of_name_has_kind_and_name k by.0 d by.2 in
    onward by.0 name (led by.0 by.1) (record { by = d; stands = in_all d was.0; of_kind = is.0; of_name = is.1; mentions = hit.2 })

definition_is_left_or_reached : (n : ℕ) (k : Kind) (all : List PlacedDefinition) (from names : List (List ℕ)) (ds : List PlacedDefinition) → ((name : List ℕ) → ListHasElement names name → IsNameReachedByMentions k all from name)
    → ((d : PlacedDefinition) → ListHasElement ds d → ListHasElement all d) → (d : PlacedDefinition) → ListHasElement ds d → d.kind ≡ k → ListHasElement (definitions_left_after_rounds n k names ds) d ⊎ IsNameReachedByMentions k all from d.def.name
definition_is_left_or_reached zero k all from names ds led in_all d h kind = inl h
definition_is_left_or_reached (suc n) k all from names ds led in_all d h kind = elim (truth_value_is_true_or_false (is_definition_of_names k names d)) as (λ _. ListHasElement (definitions_left_after_rounds (suc n) k names ds) d ⊎ IsNameReachedByMentions k all from d.def.name) [
  | inl t ↦
      let by = passing_list_has_passing_element (λ m. is_definition_of_name k m d) names t in
      let is = definition_of_name_has_kind_and_name k by.0 d by.2 in
      inr (subst (IsNameReachedByMentions k all from) (sym is.1) (led by.0 by.1))
  | inr f ↦
      definition_is_left_or_reached n k all from (names_mentioned_by (filter (is_definition_of_names k names) ds)) (filter (λ e. not (is_definition_of_names k names e)) ds)
      (names_mentioned_by_reached_are_reached k all from names ds led in_all) (λ e g. in_all e (filtered_element_is_in_list_and_passes (λ x. not (is_definition_of_names k names x)) ds e g).0) d
      (passing_element_is_in_filtered (λ e. not (is_definition_of_names k names e)) ds d h (ap not f)) kind
]

-- WHAT IS LEFT IS NOT LED TO

-- Of these none has the name.
abbrev IsNameDefinedByNone : Kind → List PlacedDefinition → List ℕ → Type 0
IsNameDefinedByNone k ds name = (d : PlacedDefinition) → ListHasElement ds d → is_definition_of_name k name d ≡ true → ⊥

-- The name is sought next, if it is one of these.
abbrev IsNameSoughtIfDefined : Kind → List (List ℕ) → List PlacedDefinition → List ℕ → Type 0
IsNameSoughtIfDefined k names ds name = (d : PlacedDefinition) → ListHasElement ds d → is_definition_of_name k name d ≡ true → is_definition_of_names k names d ≡ true

-- What is mentioned by what was taken out is sought next, or was taken out.
record SeeksMentionsOfTakenDefinitions (k : Kind) (all : List PlacedDefinition) (from names : List (List ℕ)) (ds : List PlacedDefinition) : Type 0 where
  begun : (name : List ℕ) → ListHasElement from name → IsNameSoughtIfDefined k names ds name
  taken : (d : PlacedDefinition) → ListHasElement all d → d.kind ≡ k → ListHasElement ds d ⊎ ((name : List ℕ) → ListHasElement (alias_names_among_members d.def.members) name → IsNameSoughtIfDefined k names ds name)

record IsClosedUnderMentions (k : Kind) (all : List PlacedDefinition) (from : List (List ℕ)) (ds : List PlacedDefinition) : Type 0 where
  begun : (name : List ℕ) → ListHasElement from name → IsNameDefinedByNone k ds name
  taken : (d : PlacedDefinition) → ListHasElement all d → d.kind ≡ k → ListHasElement ds d ⊎ ((name : List ℕ) → ListHasElement (alias_names_among_members d.def.members) name → IsNameDefinedByNone k ds name)

filtered_list_is_not_longer : {X : Type 0} (p : X → Bool) (xs : List X) → length (filter p xs) ≤ length xs
filtered_list_is_not_longer p [] = omega arith
filtered_list_is_not_longer p (x ∷ xs) = elim (p x) as (λ b. length (cond b (x ∷ filter p xs) (filter p xs)) ≤ length (x ∷ xs)) [
  | true ↦ omega (arith, filtered_list_is_not_longer p xs)
  | false ↦ omega (arith, filtered_list_is_not_longer p xs)
]

-- what is not among the others that are left
abbrev definitions_not_of_names : Kind → List (List ℕ) → List PlacedDefinition → List PlacedDefinition
definitions_not_of_names k names ds = filter (λ d. not (is_definition_of_names k names d)) ds

abbrev names_mentioned_by_definitions_of_names : Kind → List (List ℕ) → List PlacedDefinition → List (List ℕ)
names_mentioned_by_definitions_of_names k names ds = names_mentioned_by (filter (is_definition_of_names k names) ds)

-- a name that was sought is none of the rest's
sought_name_is_defined_by_none_left : (k : Kind) (names : List (List ℕ)) (ds : List PlacedDefinition) (name : List ℕ) → IsNameSoughtIfDefined k names ds name → IsNameDefinedByNone k (definitions_not_of_names k names ds) name
sought_name_is_defined_by_none_left k names ds name sought d h e =
    let was = filtered_element_is_in_list_and_passes (λ x. not (is_definition_of_names k names x)) ds d h in
    truth_value_is_not_true_and_false (is_definition_of_names k names d) (sought d was.0 e) (not_being_true_is_false _ was.1)

search_round_keeps_seeking : (k : Kind) (all : List PlacedDefinition) (from names : List (List ℕ)) (ds : List PlacedDefinition) → SeeksMentionsOfTakenDefinitions k all from names ds
    → SeeksMentionsOfTakenDefinitions k all from (names_mentioned_by_definitions_of_names k names ds) (definitions_not_of_names k names ds)
search_round_keeps_seeking k all from names ds s = record {
  begun = λ name h d g e. absurd (sought_name_is_defined_by_none_left k names ds name (s.begun name h) d g e);
  taken = λ d h kind. elim (s.taken d h kind) as (λ _. ListHasElement (definitions_not_of_names k names ds) d ⊎ ((name : List ℕ) → ListHasElement (alias_names_among_members d.def.members) name → IsNameSoughtIfDefined k (names_mentioned_by_definitions_of_names k names ds) (definitions_not_of_names k names ds) name)) [
    | inl among ↦ elim (truth_value_is_true_or_false (is_definition_of_names k names d)) as (λ _. ListHasElement (definitions_not_of_names k names ds) d ⊎ ((name : List ℕ) → ListHasElement (alias_names_among_members d.def.members) name → IsNameSoughtIfDefined k (names_mentioned_by_definitions_of_names k names ds) (definitions_not_of_names k names ds) name)) [
      | inl t ↦ inr (λ name m x g e.
          passing_element_makes_list_pass (λ n. is_definition_of_name k n x) (names_mentioned_by_definitions_of_names k names ds) name
          (element_of_part_is_in_flat_map (λ (y : PlacedDefinition). alias_names_among_members y.def.members) (filter (is_definition_of_names k names) ds) d name (passing_element_is_in_filtered (is_definition_of_names k names) ds d among t) m) e)
      | inr f ↦ inl (passing_element_is_in_filtered (λ x. not (is_definition_of_names k names x)) ds d among (ap not f))
    ]
    | inr old ↦ inr (λ name m x g e. absurd (sought_name_is_defined_by_none_left k names ds name (old name m) x g e))
  ];
}

-- where nothing is sought any more
search_with_no_hit_is_closed : (k : Kind) (all : List PlacedDefinition) (from names : List (List ℕ)) (ds : List PlacedDefinition) → SeeksMentionsOfTakenDefinitions k all from names ds
    → ((d : PlacedDefinition) → ListHasElement ds d → is_definition_of_names k names d ≡ true → ⊥) → IsClosedUnderMentions k all from ds
search_with_no_hit_is_closed k all from names ds s none = record {
  begun = λ name h d g e. none d g (s.begun name h d g e);
  taken = λ d h kind. elim (s.taken d h kind) as (λ _. ListHasElement ds d ⊎ ((name : List ℕ) → ListHasElement (alias_names_among_members d.def.members) name → IsNameDefinedByNone k ds name)) [
    | inl among ↦ inl among
    | inr old ↦ inr (λ name m x g e. none x g (old name m x g e))
  ];
}

-- a round with nothing to seek leaves all
round_without_names_leaves_definitions : (n : ℕ) (k : Kind) (ds : List PlacedDefinition) → definitions_left_after_rounds n k [] ds ≡ ds
round_without_names_leaves_definitions zero k ds = refl
round_without_names_leaves_definitions (suc n) k ds =
    ap (λ hits. definitions_left_after_rounds n k (names_mentioned_by hits) (definitions_not_of_names k [] ds)) (no_hits k ds)
    ∙ ap (definitions_left_after_rounds n k []) (all_left k ds) ∙ round_without_names_leaves_definitions n k ds
  where
    no_hits : (j : Kind) (es : List PlacedDefinition) → filter (is_definition_of_names j []) es ≡ []
    no_hits j [] = refl
    no_hits j (e ∷ es) = no_hits j es

    all_left : (j : Kind) (es : List PlacedDefinition) → definitions_not_of_names j [] es ≡ es
    all_left j [] = refl
    all_left j (e ∷ es) = ap (λ xs. e ∷ xs) (all_left j es)

filter_without_hit_is_empty : {X : Type 0} (p : X → Bool) (xs : List X) → list_any p xs ≡ false → (filter p xs ≡ []) × (filter (λ x. not (p x)) xs ≡ xs)
filter_without_hit_is_empty p [] e = (refl, refl)
filter_without_hit_is_empty p (x ∷ xs) e = elim (truth_value_is_true_or_false (p x)) as (λ _. (filter p (x ∷ xs) ≡ []) × (filter (λ y. not (p y)) (x ∷ xs) ≡ x ∷ xs)) [
  | inl t ↦ absurd (truth_value_is_not_true_and_false (list_any p (x ∷ xs)) (passing_element_makes_list_pass p (x ∷ xs) x (inl refl) t) e)
  | inr f ↦
      let r = filter_without_hit_is_empty p xs (ap (λ b. b || list_any p xs) (sym f) ∙ e) in (
        ap (λ b. cond b (x ∷ filter p xs) (filter p xs)) f ∙ r.0,
        ap (λ b. cond (not b) (x ∷ filter (λ y. not (p y)) xs) (filter (λ y. not (p y)) xs)) f ∙ ap (λ ys. x ∷ ys) r.1,
      )
]

filter_of_others_with_hit_is_shorter : {X : Type 0} (p : X → Bool) (xs : List X) → list_any p xs ≡ true → length (filter (λ x. not (p x)) xs) < length xs
filter_of_others_with_hit_is_shorter p [] e = absurd (truth_value_is_not_true_and_false false e refl)
filter_of_others_with_hit_is_shorter p (x ∷ xs) e = elim (truth_value_is_true_or_false (p x)) as (λ _. length (filter (λ y. not (p y)) (x ∷ xs)) < length (x ∷ xs)) [
  | inl t ↦
      let same : length (filter (λ y. not (p y)) (x ∷ xs)) ≡ length (filter (λ y. not (p y)) xs) =
      ap (λ b. length (cond (not b) (x ∷ filter (λ y. not (p y)) xs) (filter (λ y. not (p y)) xs))) t in
      omega (arith, same, filtered_list_is_not_longer (λ y. not (p y)) xs)
  | inr f ↦
      let same : length (filter (λ y. not (p y)) (x ∷ xs)) ≡ length (x ∷ filter (λ y. not (p y)) xs) =
      ap (λ b. length (cond (not b) (x ∷ filter (λ y. not (p y)) xs) (filter (λ y. not (p y)) xs))) f in
      omega (arith, same, filter_of_others_with_hit_is_shorter p xs (ap (λ b. b || list_any p xs) (sym f) ∙ e))
]

empty_list_has_no_element : {X : Type 0} (xs : List X) (x : X) → length xs ≤ 0 → ListHasElement xs x → ⊥
empty_list_has_no_element [] x l h = h
empty_list_has_no_element (y ∷ ys) x l h = omega arith

search_of_enough_rounds_is_closed : (n : ℕ) (k : Kind) (all : List PlacedDefinition) (from names : List (List ℕ)) (ds : List PlacedDefinition) → length ds ≤ n → SeeksMentionsOfTakenDefinitions k all from names ds
    → IsClosedUnderMentions k all from (definitions_left_after_rounds n k names ds)
search_of_enough_rounds_is_closed zero k all from names ds l s = search_with_no_hit_is_closed k all from names ds s (λ d h e. empty_list_has_no_element ds d l h)
search_of_enough_rounds_is_closed (suc n) k all from names ds l s = elim (truth_value_is_true_or_false (list_any (is_definition_of_names k names) ds)) as (λ _. IsClosedUnderMentions k all from (definitions_left_after_rounds (suc n) k names ds)) [
  | inl t ↦ search_of_enough_rounds_is_closed n k all from (names_mentioned_by_definitions_of_names k names ds) (definitions_not_of_names k names ds) (omega (arith, l, filter_of_others_with_hit_is_shorter (is_definition_of_names k names) ds t)) (search_round_keeps_seeking k all from names ds s)
  | inr f ↦
      let none = filter_without_hit_is_empty (is_definition_of_names k names) ds f in
      let left : definitions_left_after_rounds (suc n) k names ds ≡ ds =
      ap (λ hits. definitions_left_after_rounds n k (names_mentioned_by hits) (definitions_not_of_names k names ds)) none.0 ∙ ap (definitions_left_after_rounds n k []) none.1 ∙ round_without_names_leaves_definitions n k ds in
      subst (IsClosedUnderMentions k all from) (sym left) (search_with_no_hit_is_closed k all from names ds s (λ d h e. truth_value_is_not_true_and_false _ (passing_element_makes_list_pass (is_definition_of_names k names) ds d h e) f))
]

-- nothing that is left is led to
reached_name_is_defined_by_none_left : (k : Kind) (all : List PlacedDefinition) (from : List (List ℕ)) (ds : List PlacedDefinition) → IsClosedUnderMentions k all from ds → (name : List ℕ) → IsNameReachedByMentions k all from name → IsNameDefinedByNone k ds name
reached_name_is_defined_by_none_left k all from ds c name (here y h) = c.begun y h
reached_name_is_defined_by_none_left k all from ds c name (onward x y led joins) =
    elim (c.taken joins.by joins.stands joins.of_kind) as (λ _. IsNameDefinedByNone k ds y) [
      | inl left ↦ absurd (reached_name_is_defined_by_none_left k all from ds c x led joins.by left (definition_of_kind_and_name_defines_it k x joins.by joins.of_kind joins.of_name))
      | inr taken ↦ taken y joins.mentions
    ]

-- BOTH WAYS

pub definition_found_reached_is_reached : (names : List (List ℕ)) (ds : List PlacedDefinition) (d : PlacedDefinition) → ListHasElement ds d → is_reached_from_names names ds d ≡ true → IsReachedByChainOfSteps (DefinitionMentionsName d.kind ds) (ListHasElement names) d.def.name
definition_found_reached_is_reached names ds d h e =
    elim (definition_is_left_or_reached (length ds) d.kind ds names names ds (λ name has. here name has) (λ x has. has) d h refl) as (λ _. IsReachedByChainOfSteps (DefinitionMentionsName d.kind ds) (ListHasElement names) d.def.name) [
      | inl left ↦ absurd (truth_value_is_not_true_and_false _ (definition_in_list_defines_its_name d.kind d.def.name _ d left (definition_is_of_its_own_name d)) (not_being_true_is_false _ e))
      | inr led ↦ led
    ]

pub definition_found_unreached_is_not_reached : (names : List (List ℕ)) (ds : List PlacedDefinition) (d : PlacedDefinition) → is_reached_from_names names ds d ≡ false → IsReachedByChainOfSteps (DefinitionMentionsName d.kind ds) (ListHasElement names) d.def.name → ⊥
definition_found_unreached_is_not_reached names ds d e led =
    let left = defined_name_has_definition_in_list d.kind d.def.name (definitions_left_after_rounds (length ds) d.kind names ds) (not_being_false_is_true _ e) in
    let begun : SeeksMentionsOfTakenDefinitions d.kind ds names names ds = record {
      begun = λ name h x g t. passing_element_makes_list_pass (λ n. is_definition_of_name d.kind n x) names name h t;
      taken = λ x h kind. inl h;
    } in
    reached_name_is_defined_by_none_left d.kind ds names (definitions_left_after_rounds (length ds) d.kind names ds) (search_of_enough_rounds_is_closed (length ds) d.kind ds names names ds (omega arith) begun) d.def.name led left.0 left.1 left.2

pub unused_definition_is_not_reachable : (lines : List Line) (d : PlacedDefinition) → ListHasElement (definitions_of_lines lines) d → is_unused lines d ≡ true → IsReachedFromSpecOrDefaults d.kind lines d.def.name → ⊥
unused_definition_is_not_reachable lines d h e = definition_found_unreached_is_not_reached (root_alias_names d.kind lines) (definitions_of_lines lines) d (not_being_true_is_false _ e)

pub used_definition_is_reachable : (lines : List Line) (d : PlacedDefinition) → ListHasElement (definitions_of_lines lines) d → is_unused lines d ≡ false → IsReachedFromSpecOrDefaults d.kind lines d.def.name
used_definition_is_reachable lines d h e = definition_found_reached_is_reached (root_alias_names d.kind lines) (definitions_of_lines lines) d h (not_being_false_is_true _ e)

pub definition_found_cyclic_is_cyclic : (lines : List Line) (d : PlacedDefinition) → ListHasElement (definitions_of_lines lines) d → is_cyclic lines d ≡ true → IsCyclic lines d
definition_found_cyclic_is_cyclic lines d h e = definition_found_reached_is_reached (alias_names_among_members d.def.members) (definitions_of_lines lines) d h e

pub definition_found_acyclic_is_not_cyclic : (lines : List Line) (d : PlacedDefinition) → ListHasElement (definitions_of_lines lines) d → is_cyclic lines d ≡ false → IsCyclic lines d → ⊥
definition_found_acyclic_is_not_cyclic lines d h e = definition_found_unreached_is_not_reached (alias_names_among_members d.def.members) (definitions_of_lines lines) d e
