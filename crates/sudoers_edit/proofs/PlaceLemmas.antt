-- A definition stands where it stood, when a line of definitions has a member more or less.
use Rattle.sudoers_edit.proofs.Common.{Bool, Cmnd, Def, Host, Kind, List, Option, Place, PlacedDefinition, Runas, Some, User, [], ap, ap₂, are_lists_alike, bytes_eq-Decides, definition_without_member}
use Rattle.sudoers_edit.proofs.Common.{definitions_from_place, definitions_with_one_changed, false, first_definition_of, if◌then◌else◌, is_definition_of_name, is_equal_kind, is_same_def, option_map, refl, suc, sym}
use Rattle.sudoers_edit.proofs.Common.{true, zero, ℕ, ◌&&◌, ◌++◌, ◌+◌, ◌∷◌, ◌≡◌}
use Rattle.std.proofs.Common.{bytes_eq}
use Rattle.sudoers_edit.proofs.ExtentLemmas.{conjunction_implies_both}

-- NAMES

-- the definitions have the same names
pub HaveSameDefinitionNames : List Def → List Def → Type 0
HaveSameDefinitionNames [] [] = Unit {0}
HaveSameDefinitionNames [] (e ∷ es) = ⊥
HaveSameDefinitionNames (d ∷ ds) [] = ⊥
HaveSameDefinitionNames (d ∷ ds) (e ∷ es) = (d.name ≡ e.name) × HaveSameDefinitionNames ds es

same_definition_has_equal_name : (d e : Def) → is_same_def d e ≡ true → d.name ≡ e.name
same_definition_has_equal_name d e h = (bytes_eq-Decides d.name e.name).0 (conjunction_implies_both _ _ h).0

alike_definitions_have_same_names : (ds es : List Def) → are_lists_alike is_same_def ds es ≡ true → HaveSameDefinitionNames ds es
unfolding HaveSameDefinitionNames
alike_definitions_have_same_names [] [] h = tt
alike_definitions_have_same_names [] (e ∷ es) h = absurd (cc)
alike_definitions_have_same_names (d ∷ ds) [] h = absurd (cc)
alike_definitions_have_same_names (d ∷ ds) (e ∷ es) h = let parts = conjunction_implies_both _ _ h in (same_definition_has_equal_name d e parts.0, alike_definitions_have_same_names ds es parts.1)

pub definitions_without_member_have_same_names : (ds es : List Def) (def at : ℕ) → are_lists_alike is_same_def (definitions_with_one_changed def (definition_without_member at) ds) es ≡ true → HaveSameDefinitionNames ds es
unfolding HaveSameDefinitionNames
definitions_without_member_have_same_names [] [] def at h = tt
definitions_without_member_have_same_names [] (e ∷ es) def at h = absurd (cc)
definitions_without_member_have_same_names (d ∷ ds) [] zero at h = absurd (cc)
definitions_without_member_have_same_names (d ∷ ds) [] (suc def) at h = absurd (cc)
definitions_without_member_have_same_names (d ∷ ds) (e ∷ es) zero at h = let parts = conjunction_implies_both _ _ h in (same_definition_has_equal_name (definition_without_member at d) e parts.0, alike_definitions_have_same_names ds es parts.1)
definitions_without_member_have_same_names (d ∷ ds) (e ∷ es) (suc def) at h = let parts = conjunction_implies_both _ _ h in (same_definition_has_equal_name d e parts.0, definitions_without_member_have_same_names ds es def at parts.1)

pub equal_kinds_are_identical : (k j : Kind) → is_equal_kind k j ≡ true → k ≡ j
equal_kinds_are_identical User User h = refl
equal_kinds_are_identical User Runas h = absurd (cc)
equal_kinds_are_identical User Host h = absurd (cc)
equal_kinds_are_identical User Cmnd h = absurd (cc)
equal_kinds_are_identical Runas User h = absurd (cc)
equal_kinds_are_identical Runas Runas h = refl
equal_kinds_are_identical Runas Host h = absurd (cc)
equal_kinds_are_identical Runas Cmnd h = absurd (cc)
equal_kinds_are_identical Host User h = absurd (cc)
equal_kinds_are_identical Host Runas h = absurd (cc)
equal_kinds_are_identical Host Host h = refl
equal_kinds_are_identical Host Cmnd h = absurd (cc)
equal_kinds_are_identical Cmnd User h = absurd (cc)
equal_kinds_are_identical Cmnd Runas h = absurd (cc)
equal_kinds_are_identical Cmnd Host h = absurd (cc)
equal_kinds_are_identical Cmnd Cmnd h = refl

-- HEADS

-- the definitions have the same kinds, places and names
pub HaveSameKindPlaceAndName : List PlacedDefinition → List PlacedDefinition → Type 0
HaveSameKindPlaceAndName [] [] = Unit {0}
HaveSameKindPlaceAndName [] (e ∷ es) = ⊥
HaveSameKindPlaceAndName (d ∷ ds) [] = ⊥
HaveSameKindPlaceAndName (d ∷ ds) (e ∷ es) = (d.kind ≡ e.kind) × (d.place ≡ e.place) × (d.def.name ≡ e.def.name) × HaveSameKindPlaceAndName ds es

pub definitions_have_their_own_heads : (ds : List PlacedDefinition) → HaveSameKindPlaceAndName ds ds
unfolding HaveSameKindPlaceAndName
definitions_have_their_own_heads [] = tt
definitions_have_their_own_heads (d ∷ ds) = (refl, refl, refl, definitions_have_their_own_heads ds)

pub joined_definitions_have_same_heads : (xs bs cs ds : List PlacedDefinition) → HaveSameKindPlaceAndName xs bs → HaveSameKindPlaceAndName cs ds → HaveSameKindPlaceAndName (xs ++ cs) (bs ++ ds)
unfolding HaveSameKindPlaceAndName
joined_definitions_have_same_heads [] [] cs ds h rest = rest
joined_definitions_have_same_heads [] (b ∷ bs) cs ds h rest = absurd h
joined_definitions_have_same_heads (a ∷ xs) [] cs ds h rest = absurd h
joined_definitions_have_same_heads (a ∷ xs) (b ∷ bs) cs ds h rest = (h.0, h.1, h.2, joined_definitions_have_same_heads xs bs cs ds h.3 rest)

pub definitions_of_same_names_have_same_heads : (k : Kind) (line n : ℕ) (ds es : List Def) → HaveSameDefinitionNames ds es → HaveSameKindPlaceAndName (definitions_from_place k line n ds) (definitions_from_place k line n es)
unfolding HaveSameDefinitionNames HaveSameKindPlaceAndName
definitions_of_same_names_have_same_heads k line n [] [] h = tt
definitions_of_same_names_have_same_heads k line n [] (e ∷ es) h = absurd h
definitions_of_same_names_have_same_heads k line n (d ∷ ds) [] h = absurd h
definitions_of_same_names_have_same_heads k line n (d ∷ ds) (e ∷ es) h = (refl, refl, h.0, definitions_of_same_names_have_same_heads k line (n + 1) ds es h.1)

place_of_choice_is_same : (a b : Bool) (p q : Place) (r s : Option PlacedDefinition) (d e : PlacedDefinition) → a ≡ b → d.place ≡ e.place
    → option_map (λ (x : PlacedDefinition). x.place) r ≡ option_map (λ (x : PlacedDefinition). x.place) s
    → option_map (λ (x : PlacedDefinition). x.place) (if a then Some d else r) ≡ option_map (λ (x : PlacedDefinition). x.place) (if b then Some e else s)
place_of_choice_is_same true b p q r s d e is here rest = rw (sym is) (ap (λ z. Some z) here)
place_of_choice_is_same false b p q r s d e is here rest = rw (sym is) rest

pub same_heads_give_same_first_place : (k : Kind) (name : List ℕ) (ds es : List PlacedDefinition) → HaveSameKindPlaceAndName ds es
    → option_map (λ (x : PlacedDefinition). x.place) (first_definition_of k name ds) ≡ option_map (λ (x : PlacedDefinition). x.place) (first_definition_of k name es)
unfolding HaveSameKindPlaceAndName
same_heads_give_same_first_place k name [] [] h = refl
same_heads_give_same_first_place k name [] (e ∷ es) h = absurd h
same_heads_give_same_first_place k name (d ∷ ds) [] h = absurd h
same_heads_give_same_first_place k name (d ∷ ds) (e ∷ es) h =
    place_of_choice_is_same (is_definition_of_name k name d) (is_definition_of_name k name e) d.place e.place (first_definition_of k name ds) (first_definition_of k name es) d e
    (ap₂ (λ j n. is_equal_kind k j && bytes_eq name n) h.0 h.2) h.1 (same_heads_give_same_first_place k name ds es h.3)

pub same_definition_names_are_symmetric : (ds es : List Def) → HaveSameDefinitionNames ds es → HaveSameDefinitionNames es ds
unfolding HaveSameDefinitionNames
same_definition_names_are_symmetric [] [] h = tt
same_definition_names_are_symmetric [] (e ∷ es) h = absurd h
same_definition_names_are_symmetric (d ∷ ds) [] h = absurd h
same_definition_names_are_symmetric (d ∷ ds) (e ∷ es) h = (sym h.0, same_definition_names_are_symmetric ds es h.1)
