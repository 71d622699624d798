-- The kinds and names of definitions, by which they can stand behind one another.
use Rattle.laws_program.proofs.Common.{◌≡◌, ℕ, ◌+◌, Bool, true, false, List, [], ◌∷◌, ◌++◌, map, Some, None, refl, sym, ap, ap₂, subst, ◌∙◌, ◌&&◌}
use Rattle.laws_program.proofs.Common.{if◌then◌else◌, bytes_eq, AllByRecursion, map-append, Kind, PlacedDefinition, is_equal_kind, first_definition_of, is_definition_of_name, definition_count_of_kind, HasUnreservedName}
use Rattle.laws_program.proofs.Common.{HaveDistinctNames, IsPointwiseRelated}
use Rattle.sudoers_text.specs.Word.{is_reserved}
use Rattle.laws_program.proofs.Aliases.{IsKindAndDefinitionSameButPlace, kinds_and_definitions_of_placed}

-- the kind and the name of a definition
abbrev pub KindAndName : Type 0
KindAndName = Kind × List ℕ

abbrev pub kind_and_name_of_definition : PlacedDefinition → KindAndName
kind_and_name_of_definition d = (d.kind, d.def.name)

abbrev pub kinds_and_names_of_definitions : List PlacedDefinition → List KindAndName
kinds_and_names_of_definitions ds = map kind_and_name_of_definition ds

-- ---- what can stand, by keys

unreserved_names_are_unreserved_in_keys : (ds : List PlacedDefinition) → AllByRecursion HasUnreservedName ds → AllByRecursion (λ (key : KindAndName). is_reserved key.1 ≡ false) (kinds_and_names_of_definitions ds)
unreserved_names_are_unreserved_in_keys [] all = tt
unreserved_names_are_unreserved_in_keys (d ∷ ds) all = (all.0, unreserved_names_are_unreserved_in_keys ds all.1)

unreserved_keys_are_of_unreserved_names : (ds : List PlacedDefinition) → AllByRecursion (λ (key : KindAndName). is_reserved key.1 ≡ false) (kinds_and_names_of_definitions ds) → AllByRecursion HasUnreservedName ds
unreserved_keys_are_of_unreserved_names [] all = tt
unreserved_keys_are_of_unreserved_names (d ∷ ds) all = (all.0, unreserved_keys_are_of_unreserved_names ds all.1)

pub same_keys_keep_unreserved_names : (ds es : List PlacedDefinition) → kinds_and_names_of_definitions ds ≡ kinds_and_names_of_definitions es → AllByRecursion HasUnreservedName ds → AllByRecursion HasUnreservedName es
same_keys_keep_unreserved_names ds es same all = unreserved_keys_are_of_unreserved_names es (subst (AllByRecursion (λ (key : KindAndName). is_reserved key.1 ≡ false)) same (unreserved_names_are_unreserved_in_keys ds all))

abbrev key_count_of_kind : Kind → List KindAndName → ℕ
key_count_of_kind k [] = 0
key_count_of_kind k (key ∷ keys) = if is_equal_kind k key.0 then 1 + key_count_of_kind k keys else key_count_of_kind k keys

definition_count_is_key_count : (k : Kind) (ds : List PlacedDefinition) → definition_count_of_kind k ds ≡ key_count_of_kind k (kinds_and_names_of_definitions ds)
definition_count_is_key_count k [] = refl
definition_count_is_key_count k (d ∷ ds) = ap (λ n. if is_equal_kind k d.kind then 1 + n else n) (definition_count_is_key_count k ds)

pub same_keys_have_same_definition_count : (k : Kind) (ds es : List PlacedDefinition) → kinds_and_names_of_definitions ds ≡ kinds_and_names_of_definitions es → definition_count_of_kind k ds ≡ definition_count_of_kind k es
same_keys_have_same_definition_count k ds es same = definition_count_is_key_count k ds ∙ ap (key_count_of_kind k) same ∙ sym (definition_count_is_key_count k es)

abbrev is_name_of_kind_among_keys : Kind → List ℕ → List KindAndName → Bool
is_name_of_kind_among_keys k name [] = false
is_name_of_kind_among_keys k name (key ∷ keys) = if is_equal_kind k key.0 && bytes_eq name key.1 then true else is_name_of_kind_among_keys k name keys

undefined_name_is_not_among_keys : (k : Kind) (name : List ℕ) (ds : List PlacedDefinition) → first_definition_of k name ds ≡ None → is_name_of_kind_among_keys k name (kinds_and_names_of_definitions ds) ≡ false
undefined_name_is_not_among_keys k name [] e = refl
undefined_name_is_not_among_keys k name (d ∷ ds) e = by (is_definition_of_name k name d) (undefined_name_is_not_among_keys k name ds) e
  where
    by : (t : Bool) → (first_definition_of k name ds ≡ None → is_name_of_kind_among_keys k name (kinds_and_names_of_definitions ds) ≡ false) → (if t then Some d else first_definition_of k name ds) ≡ None → (if t then true else is_name_of_kind_among_keys k name (kinds_and_names_of_definitions ds)) ≡ false
    by true later e = absurd (cc)
    by false later e = later e

name_not_among_keys_is_undefined : (k : Kind) (name : List ℕ) (ds : List PlacedDefinition) → is_name_of_kind_among_keys k name (kinds_and_names_of_definitions ds) ≡ false → first_definition_of k name ds ≡ None
name_not_among_keys_is_undefined k name [] e = refl
name_not_among_keys_is_undefined k name (d ∷ ds) e = by (is_definition_of_name k name d) (name_not_among_keys_is_undefined k name ds) e
  where
    by : (t : Bool) → (is_name_of_kind_among_keys k name (kinds_and_names_of_definitions ds) ≡ false → first_definition_of k name ds ≡ None) → (if t then true else is_name_of_kind_among_keys k name (kinds_and_names_of_definitions ds)) ≡ false → (if t then Some d else first_definition_of k name ds) ≡ None
    by true later e = absurd (cc)
    by false later e = later e

-- a list of definitions that has a definition of this key behind definitions of these keys
record HasDefinitionAfterKeys (ds : List PlacedDefinition) (keys : List KindAndName) (key : KindAndName) : Type 0 where
  before : List PlacedDefinition
  after : List PlacedDefinition
  d : PlacedDefinition
  split : ds ≡ before ++ d ∷ after
  keys_are : kinds_and_names_of_definitions before ≡ keys
  key_is : kind_and_name_of_definition d ≡ key

first_definition_is_after_no_keys : (d : PlacedDefinition) (ds : List PlacedDefinition) (key : KindAndName) → kind_and_name_of_definition d ≡ key → HasDefinitionAfterKeys (d ∷ ds) [] key
first_definition_is_after_no_keys d ds key is = record { before = []; after = ds; d = d; split = refl; keys_are = refl; key_is = is }

preceding_definition_adds_its_key : (d : PlacedDefinition) (ds : List PlacedDefinition) (k : KindAndName) (keys : List KindAndName) (key : KindAndName) → kind_and_name_of_definition d ≡ k → HasDefinitionAfterKeys ds keys key → HasDefinitionAfterKeys (d ∷ ds) (k ∷ keys) key
preceding_definition_adds_its_key d ds k keys key first later = record {
  before = d ∷ later.before;
  after = later.after;
  d = later.d;
  split = ap (λ (xs : List PlacedDefinition). d ∷ xs) later.split;
  keys_are = ap₂ (λ (x : KindAndName) (xs : List KindAndName). x ∷ xs) first later.keys_are;
  key_is = later.key_is;
}

definitions_of_keys_have_one_after_front : (ds : List PlacedDefinition) (keys : List KindAndName) (key : KindAndName) (more : List KindAndName) → kinds_and_names_of_definitions ds ≡ keys ++ key ∷ more → HasDefinitionAfterKeys ds keys key
definitions_of_keys_have_one_after_front [] [] key more e = absurd (cc)
definitions_of_keys_have_one_after_front [] (k ∷ keys) key more e = absurd (cc)
definitions_of_keys_have_one_after_front (d ∷ ds) [] key more e = first_definition_is_after_no_keys d ds key (cc)
definitions_of_keys_have_one_after_front (d ∷ ds) (k ∷ keys) key more e = preceding_definition_adds_its_key d ds k keys key (cc) (definitions_of_keys_have_one_after_front ds keys key more (cc))

pub same_keys_keep_names_distinct : (ds es : List PlacedDefinition) → kinds_and_names_of_definitions ds ≡ kinds_and_names_of_definitions es → HaveDistinctNames ds → HaveDistinctNames es
same_keys_keep_names_distinct ds es same once before after e is =
    let there = definitions_of_keys_have_one_after_front ds (kinds_and_names_of_definitions before) (kind_and_name_of_definition e) (kinds_and_names_of_definitions after) (same ∙ ap kinds_and_names_of_definitions is ∙ map-append kind_and_name_of_definition before (e ∷ after)) in
    let none = undefined_name_is_not_among_keys there.d.kind there.d.def.name there.before (once there.before there.after there.d there.split) in
    name_not_among_keys_is_undefined e.kind e.def.name before (sym (ap₂ (λ (key : KindAndName) (keys : List KindAndName). is_name_of_kind_among_keys key.0 key.1 keys) there.key_is there.keys_are) ∙ none)

-- ---- definitions that say the same

pub definitions_same_but_place_have_same_keys : (ds es : List PlacedDefinition) → IsPointwiseRelated IsKindAndDefinitionSameButPlace (kinds_and_definitions_of_placed ds) (kinds_and_definitions_of_placed es) → kinds_and_names_of_definitions ds ≡ kinds_and_names_of_definitions es
definitions_same_but_place_have_same_keys [] [] all = refl
definitions_same_but_place_have_same_keys (d ∷ ds) (e ∷ es) all =
    ap₂ (λ (x : KindAndName) (xs : List KindAndName). x ∷ xs) (ap₂ (λ (k : Kind) (name : List ℕ). (k, name)) all.0.kind all.0.def.name) (definitions_same_but_place_have_same_keys ds es all.1)
definitions_same_but_place_have_same_keys ds es all = absurd all
