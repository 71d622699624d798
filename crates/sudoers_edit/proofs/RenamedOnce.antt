-- Definitions of which one has another name: each name is defined once, and the places are those of the old names.
use Rattle.sudoers_edit.proofs.Common.{AllByRecursion, Bool, Cmnd, HaveDistinctNames, Host, Kind, List, None, PlacedDefinition, Runas, Some, User, [], ap, ap₂, bytes_eq, bytes_eq-Decides, false, first_definition_of}
use Rattle.sudoers_edit.proofs.Common.{if◌then◌else◌, is_definition_of_name, is_equal_kind, is_some, refl, subst, sym, true, ℕ, ◌&&◌, ◌++◌, ◌∙◌, ◌∷◌, ◌≡◌}
use Rattle.std.specs.Prelude.{Option}
use Rattle.sudoers_edit.proofs.RenamedNames.{name_after_rename, AreRenamedDefinitions, IsNotDefinitionOfAlias, optional_place_of_definition, renamed_name_is_defined_at_same_place, unequal_bytes_are_unlike}

-- the definition that has been renamed into one of a list, and those before it
record HasOriginBeforeRename (k : Kind) (name fresh : List ℕ) (ds before : List PlacedDefinition) (e : PlacedDefinition) : Type 0 where
  front : List PlacedDefinition
  one : PlacedDefinition
  rest : List PlacedDefinition
  is : ds ≡ front ++ one ∷ rest
  kind : e.kind ≡ one.kind
  named : e.def.name ≡ name_after_rename k name fresh one.kind one.def.name
  part : AreRenamedDefinitions k name fresh front before

renamed_definition_has_origin : (k : Kind) (name fresh : List ℕ) (ds before : List PlacedDefinition) (e : PlacedDefinition) (after : List PlacedDefinition)
    → AreRenamedDefinitions k name fresh ds (before ++ e ∷ after) → HasOriginBeforeRename k name fresh ds before e
renamed_definition_has_origin k name fresh [] [] e after are = absurd are
renamed_definition_has_origin k name fresh [] (b ∷ before) e after are = absurd are
renamed_definition_has_origin k name fresh (d ∷ ds) [] e after are =
    record { front = []; one = d; rest = ds; is = refl; kind = are.0; named = are.2; part = tt }
renamed_definition_has_origin k name fresh (d ∷ ds) (b ∷ before) e after are =
    let f = renamed_definition_has_origin k name fresh ds before e after are.3 in
    record {
      front = d ∷ f.front;
      one = f.one;
      rest = f.rest;
      is = ap (λ xs. d ∷ xs) f.is;
      kind = f.kind;
      named = f.named;
      part = (are.0, are.1, are.2, f.part);
    }

list_property_holds_of_front_and_item : {X : Type 0} (P : X → Type 0) (xs : List X) (y : X) (ys : List X) → AllByRecursion P (xs ++ y ∷ ys) → AllByRecursion P xs × P y
list_property_holds_of_front_and_item P [] y ys a = (tt, a.0)
list_property_holds_of_front_and_item P (x ∷ xs) y ys a = let p = list_property_holds_of_front_and_item P xs y ys a.1 in ((a.0, p.0), p.1)

missing_place_implies_missing_definition : (o : Option PlacedDefinition) → optional_place_of_definition o ≡ None → o ≡ None
missing_place_implies_missing_definition None h = refl
missing_place_implies_missing_definition (Some d) h = absurd (cc)

pub renamed_definitions_keep_distinct_names : (k : Kind) (name fresh : List ℕ) (ds es : List PlacedDefinition) → AreRenamedDefinitions k name fresh ds es → AllByRecursion (IsNotDefinitionOfAlias k fresh) ds
    → HaveDistinctNames ds → HaveDistinctNames es
renamed_definitions_keep_distinct_names k name fresh ds es are lack once before after e is =
    let f = renamed_definition_has_origin k name fresh ds before e after (subst (AreRenamedDefinitions k name fresh ds) is are) in
    let p = list_property_holds_of_front_and_item (IsNotDefinitionOfAlias k fresh) f.front f.one f.rest (subst (AllByRecursion (IsNotDefinitionOfAlias k fresh)) f.is lack) in
    missing_place_implies_missing_definition (first_definition_of e.kind e.def.name before)
    (ap₂ (λ (j : Kind) (n : List ℕ). optional_place_of_definition (first_definition_of j n before)) f.kind f.named
    ∙ renamed_name_is_defined_at_same_place k name fresh f.one.kind f.one.def.name f.front before f.part p.1 p.0
    ∙ ap optional_place_of_definition (once f.front f.rest f.one f.is))

-- ---- a name that is not defined, and one that is

undefined_in_choice_implies_undefined_in_both : (b : Bool) (d : PlacedDefinition) (o : Option PlacedDefinition) → is_some (optional_place_of_definition (if b then Some d else o)) ≡ false
    → (b ≡ false) × (is_some (optional_place_of_definition o) ≡ false)
undefined_in_choice_implies_undefined_in_both true d o h = absurd (cc)
undefined_in_choice_implies_undefined_in_both false d o h = (refl, h)

pub undefined_name_is_lacked_by_definitions : (k : Kind) (fresh : List ℕ) (ds : List PlacedDefinition) → is_some (optional_place_of_definition (first_definition_of k fresh ds)) ≡ false → AllByRecursion (IsNotDefinitionOfAlias k fresh) ds
undefined_name_is_lacked_by_definitions k fresh [] none = tt
undefined_name_is_lacked_by_definitions k fresh (d ∷ ds) none =
    let p = undefined_in_choice_implies_undefined_in_both (is_definition_of_name k fresh d) d (first_definition_of k fresh ds) none in
    (p.0, undefined_name_is_lacked_by_definitions k fresh ds p.1)

undefined_in_both_implies_undefined_in_choice : (b : Bool) (d : PlacedDefinition) (o : Option PlacedDefinition) → b ≡ false → is_some (optional_place_of_definition o) ≡ false
    → is_some (optional_place_of_definition (if b then Some d else o)) ≡ false
undefined_in_both_implies_undefined_in_choice true d o h none = absurd (cc)
undefined_in_both_implies_undefined_in_choice false d o h none = none

pub name_lacked_by_definitions_is_undefined : (k : Kind) (fresh : List ℕ) (ds : List PlacedDefinition) → AllByRecursion (IsNotDefinitionOfAlias k fresh) ds → is_some (optional_place_of_definition (first_definition_of k fresh ds)) ≡ false
name_lacked_by_definitions_is_undefined k fresh [] all = refl
name_lacked_by_definitions_is_undefined k fresh (d ∷ ds) all = undefined_in_both_implies_undefined_in_choice (is_definition_of_name k fresh d) d (first_definition_of k fresh ds) all.0 (name_lacked_by_definitions_is_undefined k fresh ds all.1)

kind_is_equal_to_itself : (k : Kind) → is_equal_kind k k ≡ true
kind_is_equal_to_itself User = refl
kind_is_equal_to_itself Runas = refl
kind_is_equal_to_itself Host = refl
kind_is_equal_to_itself Cmnd = refl

-- the two names differ
pub defined_and_undefined_names_differ : (k : Kind) (name fresh : List ℕ) (ds : List PlacedDefinition) → is_some (optional_place_of_definition (first_definition_of k name ds)) ≡ true
    → is_some (optional_place_of_definition (first_definition_of k fresh ds)) ≡ false → bytes_eq fresh name ≡ false
defined_and_undefined_names_differ k name fresh ds some none = unequal_bytes_are_unlike fresh name (λ same. apart (ap (λ (n : List ℕ). is_some (optional_place_of_definition (first_definition_of k n ds))) same))
  where
    apart : is_some (optional_place_of_definition (first_definition_of k fresh ds)) ≡ is_some (optional_place_of_definition (first_definition_of k name ds)) → ⊥
    apart same = let both : false ≡ true = sym none ∙ same ∙ some in cc

-- the new name is defined where the old one was
pub new_name_is_defined_in_old_place : (k : Kind) (name fresh : List ℕ) (ds es : List PlacedDefinition) → AreRenamedDefinitions k name fresh ds es
    → is_some (optional_place_of_definition (first_definition_of k name ds)) ≡ true → is_some (optional_place_of_definition (first_definition_of k fresh ds)) ≡ false
    → optional_place_of_definition (first_definition_of k fresh es) ≡ optional_place_of_definition (first_definition_of k name ds)
new_name_is_defined_in_old_place k name fresh ds es are some none =
    let own : name_after_rename k name fresh k name ≡ fresh = rw (kind_is_equal_to_itself k, (bytes_eq-Decides name name).1 refl) refl in
    ap (λ (n : List ℕ). optional_place_of_definition (first_definition_of k n es)) (sym own)
    ∙ renamed_name_is_defined_at_same_place k name fresh k name ds es are
    (ap (λ (b : Bool). b && bytes_eq fresh name) (kind_is_equal_to_itself k) ∙ defined_and_undefined_names_differ k name fresh ds some none) (undefined_name_is_lacked_by_definitions k fresh ds none)

-- the old name is not defined
renamed_word_is_not_old_word : (b : Bool) (name fresh word : List ℕ) → bytes_eq name fresh ≡ false
    → (b && bytes_eq name (if b && bytes_eq name word then fresh else word)) ≡ false
renamed_word_is_not_old_word false name fresh word differ = refl
renamed_word_is_not_old_word true name fresh word differ = by (bytes_eq name word) refl
  where
    by : (c : Bool) → bytes_eq name word ≡ c → bytes_eq name (if c then fresh else word) ≡ false
    by true is = differ
    by false is = is

pub renamed_definitions_lack_old_name : (k : Kind) (name fresh : List ℕ) (ds es : List PlacedDefinition) → AreRenamedDefinitions k name fresh ds es → bytes_eq name fresh ≡ false
    → AllByRecursion (IsNotDefinitionOfAlias k name) es
renamed_definitions_lack_old_name k name fresh [] [] are differ = tt
renamed_definitions_lack_old_name k name fresh [] (e ∷ es) are differ = absurd are
renamed_definitions_lack_old_name k name fresh (d ∷ ds) [] are differ = absurd are
renamed_definitions_lack_old_name k name fresh (d ∷ ds) (e ∷ es) are differ = (
  ap₂ (λ (j : Kind) (n : List ℕ). is_equal_kind k j && bytes_eq name n) are.0 are.2 ∙ renamed_word_is_not_old_word (is_equal_kind k d.kind) name fresh d.def.name differ,
  renamed_definitions_lack_old_name k name fresh ds es are.3 differ,
)
