-- The definitions that a prune keeps are those to which chains of mentions lead.
use Rattle.std.proofs.Common.{◌≡◌, ◌⊎◌, inl, inr, ℕ, zero, suc, ◌+◌, ◌≤◌, ◌<◌, Bool, true, false, List, [], ◌∷◌, ◌++◌, length, remove, reverse, Some, refl, sym, ap, ap₂, subst, ◌∙◌, arith}
use Rattle.std.proofs.lemmas.Bool.{and_parts, ltb-true, ltb-false}
use Rattle.std.proofs.lemmas.List.{reverse-append}
use Rattle.std.proofs.lemmas.Slice.Eq.{bytes_eq-Decides}
use Rattle.std.specs.List.{AllByRecursion, filter}
use Rattle.std.specs.Prelude.{nat_lt, slice_get}
use Rattle.std.specs.Str.{bytes_eq}
use Rattle.sudoers_grammar.specs.Node.{Def, Node}
use Rattle.sudoers_grammar.specs.Node as node
use Rattle.sudoers_grammar.specs.declared.node.Kind.{Kind}
use Rattle.sudoers_tree.specs.Line.{Line}
use Rattle.sudoers_tree.specs.Definition.{PlacedDefinition, definitions_of_lines, definitions_from_place, definitions_in_line, definitions_from_line_number}
use Rattle.sudoers_check.specs.Chain.{ListHasElement}
use Rattle.sudoers_check.specs.Chains.{IsReachedFromSpecOrDefaults}
use Rattle.sudoers_check.specs.Led.{is_unused}
use Rattle.sudoers_check.proofs.Named.{element_of_front_is_in_appended, element_of_back_is_in_appended, passing_element_is_in_filtered}
use Rattle.sudoers_match.proofs.Lasts.{all_append}
use Rattle.sudoers_line_rows.specs.Alike.{are_lists_alike, is_same_def, is_same_member}
use Rattle.laws_edit.proofs.PruneLeaves.{WasAt, before_same}

-- what the law of used definitions says
abbrev pub UsedDefinitionsAreReachable : Type 0
UsedDefinitionsAreReachable = (lines : List Line) (d : PlacedDefinition) → ListHasElement (definitions_of_lines lines) d → is_unused lines d ≡ false → IsReachedFromSpecOrDefaults d.kind lines d.def.name

-- ---- places that descend

-- The places descend, each below the one before it.
abbrev pub HaveDescendingPlaces : ℕ → ℕ → List PlacedDefinition → Type 0
HaveDescendingPlaces low high [] = Unit {0}
HaveDescendingPlaces low high (d ∷ ds) = (d.place.def < high) × (low ≤ d.place.def) × HaveDescendingPlaces low d.place.def ds

pub descending_places_have_lower_bound : (low other high : ℕ) (ds : List PlacedDefinition) → other ≤ low → HaveDescendingPlaces low high ds → HaveDescendingPlaces other high ds
descending_places_have_lower_bound low other high [] l a = tt
descending_places_have_lower_bound low other high (d ∷ ds) l a = (a.0, omega (arith, a.1, l), descending_places_have_lower_bound low other d.place.def ds l a.2)

pub descending_places_have_higher_bound : (low high other : ℕ) (ds : List PlacedDefinition) → high ≤ other → HaveDescendingPlaces low high ds → HaveDescendingPlaces low other ds
descending_places_have_higher_bound low high other [] l a = tt
descending_places_have_higher_bound low high other (d ∷ ds) l a = (omega (arith, a.0, l), a.1, a.2)

-- One of these stands at this place.
abbrev pub IsPlaceOfSomeDefinition : ℕ → List PlacedDefinition → Type 0
IsPlaceOfSomeDefinition p [] = ⊥
IsPlaceOfSomeDefinition p (d ∷ ds) = (d.place.def ≡ p) ⊎ IsPlaceOfSomeDefinition p ds

place_of_descending_is_below_bound : (p high : ℕ) (ds : List PlacedDefinition) → HaveDescendingPlaces 0 high ds → IsPlaceOfSomeDefinition p ds → p < high
place_of_descending_is_below_bound p high [] descend is = absurd is
place_of_descending_is_below_bound p high (d ∷ ds) descend (inl is) = omega (arith, is, descend.0)
place_of_descending_is_below_bound p high (d ∷ ds) descend (inr is) = omega (arith, place_of_descending_is_below_bound p d.place.def ds descend.2 is, descend.0)

place_of_definition_is_among_places : (ds : List PlacedDefinition) (d : PlacedDefinition) → ListHasElement ds d → IsPlaceOfSomeDefinition d.place.def ds
place_of_definition_is_among_places [] d has = absurd has
place_of_definition_is_among_places (x ∷ ds) d (inl is) = inl (ap (λ (y : PlacedDefinition). y.place.def) is)
place_of_definition_is_among_places (x ∷ ds) d (inr has) = inr (place_of_definition_is_among_places ds d has)

element_of_list_is_in_reverse : {X : Type 0} (xs : List X) (x : X) → ListHasElement xs x → ListHasElement (reverse xs) x
element_of_list_is_in_reverse [] x has = absurd has
element_of_list_is_in_reverse {X} (y ∷ xs) x has = subst (λ (zs : List X). ListHasElement zs x) (sym (reverse-append (y ∷ []) xs)) (by has (element_of_list_is_in_reverse xs x))
  where
    by : ListHasElement (y ∷ xs) x → (ListHasElement xs x → ListHasElement (reverse xs) x) → ListHasElement (reverse xs ++ y ∷ []) x
    by (inl is) later = element_of_back_is_in_appended (reverse xs) (y ∷ []) x (inl is)
    by (inr more) later = element_of_front_is_in_appended (reverse xs) (y ∷ []) x (later more)

numbered_definition_is_among_placed : (k : Kind) (l m : ℕ) (defs : List Def) (p : ℕ) (e : Def) → slice_get defs p ≡ Some e → (q : ℕ) → q ≡ m + p
    → ListHasElement (definitions_from_place k l m defs) (record { kind = k; place = record { line = l; def = q }; def = e })
numbered_definition_is_among_placed k l m [] p e is q at = absurd (cc)
numbered_definition_is_among_placed k l m (d ∷ defs) zero e is q at =
    let same : d ≡ e = cc in
    let here : m ≡ q = omega (arith, at) in
    inl (ap₂ (λ (n : ℕ) (x : Def). record { kind = k; place = record { line = l; def = n }; def = x }) here same)
numbered_definition_is_among_placed k l m (d ∷ defs) (suc p) e is q at = inr (numbered_definition_is_among_placed k l (m + 1) defs p e is q (omega (arith, at)))

module _ (policy : List Line) where
  -- ---- used definitions

  -- A chain of mentions of the policy leads to the definition.
  abbrev pub IsUsed : PlacedDefinition → Type 0
  IsUsed d = IsReachedFromSpecOrDefaults d.kind policy d.def.name

  -- So it is with all definitions of these lines.
  abbrev pub AreUsed : List Line → Type 0
  AreUsed lines = (i : ℕ) → AllByRecursion IsUsed (definitions_from_line_number i lines)

  used_from : (k : Kind) (l n : ℕ) (defs : List Def) → AllByRecursion (λ (e : Def). IsReachedFromSpecOrDefaults k policy e.name) defs
      → AllByRecursion IsUsed (definitions_from_place k l n defs)
  used_from k l n [] all = tt
  used_from k l n (d ∷ defs) all = (all.0, used_from k l (n + 1) defs all.1)

  used_line : (line : Line) (after : List Line) → ((i : ℕ) → AllByRecursion IsUsed (definitions_in_line i line.node)) → AreUsed after → AreUsed (line ∷ after)
  used_line line after here behind i = all_append IsUsed (definitions_in_line i line.node) (definitions_from_line_number (i + 1) after) (here i) (behind (i + 1))

  -- a line that says this
  pub used_other : (line : Line) (after : List Line) (says : Node) → line.node ≡ says → ((i : ℕ) → AllByRecursion IsUsed (definitions_in_line i says)) → AreUsed after
      → AreUsed (line ∷ after)
  used_other line after says is here behind =
      used_line line after (λ i. subst (λ (n : Node). AllByRecursion IsUsed (definitions_in_line i n)) (sym is) (here i)) behind

  pub used_alias : (line : Line) (after : List Line) (k : Kind) (defs : List Def) → line.node ≡ node.Alias k defs
      → AllByRecursion (λ (e : Def). IsReachedFromSpecOrDefaults k policy e.name) defs → AreUsed after → AreUsed (line ∷ after)
  used_alias line after k defs makes used behind = used_other line after (node.Alias k defs) makes (λ i. used_from k i 0 defs used) behind

  -- ---- used or about to go

  -- Each of the definitions is used, or one of these stands at its place.
  abbrev pub UsedOrGoing : Kind → List Def → List PlacedDefinition → Type 0
  UsedOrGoing k defs ds = (p : ℕ) (e : Def) → slice_get defs p ≡ Some e → IsReachedFromSpecOrDefaults k policy e.name ⊎ IsPlaceOfSomeDefinition p ds

  pub none_going : (k : Kind) (defs : List Def) → UsedOrGoing k defs [] → AllByRecursion (λ (e : Def). IsReachedFromSpecOrDefaults k policy e.name) defs
  none_going k [] going = tt
  none_going k (d ∷ defs) going = (by (going zero d refl), none_going k defs (λ p e is. going (suc p) e is))
    where
      by : IsReachedFromSpecOrDefaults k policy d.name ⊎ ⊥ → IsReachedFromSpecOrDefaults k policy d.name
      by (inl used) = used
      by (inr none) = absurd none

  -- a definition of alike ones
  alike_at : (defs less : List Def) → are_lists_alike is_same_def defs less ≡ true → (p : ℕ) (e : Def) → slice_get less p ≡ Some e → WasAt policy defs p e
  alike_at [] [] h p e is = absurd (cc)
  alike_at [] (x ∷ less) h p e is = absurd (cc)
  alike_at (d ∷ defs) [] h p e is = absurd (cc)
  alike_at (d ∷ defs) (x ∷ less) h zero e is =
      let parts = and_parts (is_same_def d x) (are_lists_alike is_same_def defs less) h in
      let name = (bytes_eq-Decides d.name x.name).0 (and_parts (bytes_eq d.name x.name) (are_lists_alike is_same_member d.members x.members) parts.0).0 in
      let same : x ≡ e = cc in
      record { one = d; at = refl; called = name ∙ ap (λ (y : Def). y.name) same }
  alike_at (d ∷ defs) (x ∷ less) h (suc p) e is =
      let parts = and_parts (is_same_def d x) (are_lists_alike is_same_def defs less) h in
      let was = alike_at defs less parts.1 p e is in
      record { one = was.one; at = was.at; called = was.called }

  -- The definitions behind a dropped one move up.
  behind_same : (defs : List Def) (at : ℕ) (less : List Def) → are_lists_alike is_same_def (remove defs at) less ≡ true → (p : ℕ) → at ≤ p → (e : Def)
      → slice_get less p ≡ Some e → WasAt policy defs (suc p) e
  behind_same [] zero [] h p l e is = absurd (cc)
  behind_same [] (suc at) [] h p l e is = absurd (cc)
  behind_same [] zero (x ∷ less) h p l e is = absurd (cc)
  behind_same [] (suc at) (x ∷ less) h p l e is = absurd (cc)
  behind_same (d ∷ defs) zero less h p l e is =
      let was = alike_at defs less h p e is in
      record { one = was.one; at = was.at; called = was.called }
  behind_same (d ∷ defs) (suc at) [] h p l e is = absurd (cc)
  behind_same (d ∷ defs) (suc at) (x ∷ less) h zero l e is = absurd (omega (arith, l))
  behind_same (d ∷ defs) (suc at) (x ∷ less) h (suc p) l e is =
      let parts = and_parts (is_same_def d x) (are_lists_alike is_same_def (remove defs at) less) h in
      let was = behind_same defs at less parts.1 p (omega (arith, l)) e is in
      record { one = was.one; at = was.at; called = was.called }

  -- Without the first of those that go, the others go.
  pub less_going : (k : Kind) (defs less : List Def) (d : PlacedDefinition) (ds : List PlacedDefinition) → are_lists_alike is_same_def (remove defs d.place.def) less ≡ true
      → HaveDescendingPlaces 0 d.place.def ds → UsedOrGoing k defs (d ∷ ds) → UsedOrGoing k less ds
  less_going k defs less d ds alike descend going p e is = by (nat_lt p at) refl
    where
      at : ℕ
      at = d.place.def

      still : (q : ℕ) (was : WasAt policy defs q e) → (q ≡ at → ⊥) → (IsPlaceOfSomeDefinition q ds → IsPlaceOfSomeDefinition p ds) → IsReachedFromSpecOrDefaults k policy e.name ⊎ IsPlaceOfSomeDefinition p ds
      still q was other move = by_one (going q was.one was.at)
        where
          by_one : IsReachedFromSpecOrDefaults k policy was.one.name ⊎ IsPlaceOfSomeDefinition q (d ∷ ds) → IsReachedFromSpecOrDefaults k policy e.name ⊎ IsPlaceOfSomeDefinition p ds
          by_one (inl used) = inl (subst (IsReachedFromSpecOrDefaults k policy) was.called used)
          by_one (inr (inl here)) = absurd (other (sym here))
          by_one (inr (inr more)) = inr (move more)

      by : (b : Bool) → nat_lt p at ≡ b → IsReachedFromSpecOrDefaults k policy e.name ⊎ IsPlaceOfSomeDefinition p ds
      by true below =
          let lower = ltb-true p at below in
          still p (before_same policy defs at less alike p lower e is) (λ same. omega (arith, same, lower)) (λ more. more)
      by false below =
          let higher : at ≤ p = ltb-false p at below in
          still (suc p) (behind_same defs at less alike p higher e is) (λ same. omega (arith, same, higher))
          (λ more. absurd (omega (arith, place_of_descending_is_below_bound (suc p) at ds descend more, higher)))

  -- ---- the definitions of a line

  module _ (law : UsedDefinitionsAreReachable) (k : Kind) (n : ℕ) (defs : List Def) (among : (d : PlacedDefinition) → ListHasElement (definitions_from_place k n 0 defs) d → ListHasElement (definitions_of_lines policy) d) where
    -- Those that are not unused are used.
    pub unused_going : UsedOrGoing k defs (reverse (filter (is_unused policy) (definitions_from_place k n 0 defs)))
    unused_going p e is = by (is_unused policy d) refl
      where
        d : PlacedDefinition
        d = record { kind = k; place = record { line = n; def = p }; def = e }

        stands : ListHasElement (definitions_from_place k n 0 defs) d
        stands = numbered_definition_is_among_placed k n 0 defs p e is p (omega arith)

        by : (b : Bool) → is_unused policy d ≡ b → IsReachedFromSpecOrDefaults k policy e.name ⊎ IsPlaceOfSomeDefinition p (reverse (filter (is_unused policy) (definitions_from_place k n 0 defs)))
        by true unused =
            let all = filter (is_unused policy) (definitions_from_place k n 0 defs) in
            inr (place_of_definition_is_among_places (reverse all) d (element_of_list_is_in_reverse all d (passing_element_is_in_filtered (is_unused policy) (definitions_from_place k n 0 defs) d stands unused)))
        by false used = inl (law policy d (among d stands) used)

    -- Without unused definitions all are used.
    pub all_used : length (filter (is_unused policy) (definitions_from_place k n 0 defs)) ≡ 0 → AllByRecursion (λ (e : Def). IsReachedFromSpecOrDefaults k policy e.name) defs
    all_used none = none_going k defs (subst (λ (ds : List PlacedDefinition). UsedOrGoing k defs (reverse ds)) (empty (filter (is_unused policy) (definitions_from_place k n 0 defs)) none) unused_going)
      where
        empty : (ds : List PlacedDefinition) → length ds ≡ 0 → ds ≡ []
        empty [] is = refl
        empty (d ∷ ds) is = absurd (omega (arith, is))
