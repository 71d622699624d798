-- Definitions with the keys of others, and definitions of which one has another name.
use Rattle.sudoers_tree.proofs.Common.{AliasNameIndex, Bool, DefinitionKey, IsDefinitionRenamed, IsIndexOfDefinitions, Kind, List, None, Option, Place, PlacedDefinition, ReadFault, RenamesOneDefinition, Some, Tables}
use Rattle.sudoers_tree.proofs.Common.{[], alias_limit_of_each_kind, ap, ap₂, arith, bytes_eq, bytes_eq-Decides, definition_count_of_kind, entries_of_definitions, entries_with_one_renamed, false, fault_of_definition_name}
use Rattle.sudoers_tree.proofs.Common.{fault_of_new_entry, first_definition_fault, first_definition_of, first_of_two_faults, if◌then◌else◌, index_entries_of_kind, is_definition_of_name, is_equal_kind, is_reserved}
use Rattle.sudoers_tree.proofs.Common.{is_some, key_of_definition, keys_of_definitions, length, map-append, number_of_named_entry, option_map, place_of_named_entry, refl, subst, suc, sym, text_in_tables, true}
use Rattle.sudoers_tree.proofs.Common.{true≢false, ℕ, ◌&&◌, ◌++◌, ◌+◌, ◌<◌, ◌∙◌, ◌∷◌, ◌≡◌}
use Rattle.std.proofs.lemmas.List.{append_assoc}
use Rattle.sudoers_line_rows.specs.declared.rows.ByteRange.{ByteRange}
use Rattle.sudoers_tree.proofs.Entries.{place_of_entry_is_place_of_definition, entries_of_appended_definitions_are_appended, kind_equals_itself, fault_of_entry_is_fault_of_definition}
use Rattle.sudoers_tree.proofs.Sound.{no_first_fault_implies_neither_fault, faultless_append_has_faultless_parts, faultless_parts_have_faultless_append, definitions_without_fault_are_sound, faultless_definition_is_new_and_within_limit, new_definition_within_limit_is_faultless, equal_kinds_are_same}

-- ---- what keys tell

-- the names of a kind that keys have, with their places
abbrev pub entries_of_definition_keys : Kind → List DefinitionKey → List (List ℕ × Place)
entries_of_definition_keys k [] = []
entries_of_definition_keys k (x ∷ xs) = if is_equal_kind k x.0 then x.1 ∷ entries_of_definition_keys k xs else entries_of_definition_keys k xs

pub entries_of_definitions_are_those_of_keys : (k : Kind) (ds : List PlacedDefinition) → entries_of_definitions k ds ≡ entries_of_definition_keys k (keys_of_definitions ds)
entries_of_definitions_are_those_of_keys k [] = refl
entries_of_definitions_are_those_of_keys k (d ∷ ds) = ap (λ es. if is_equal_kind k d.kind then (d.def.name, d.place) ∷ es else es) (entries_of_definitions_are_those_of_keys k ds)

abbrev pub fault_of_key_after_keys : List DefinitionKey → DefinitionKey → Option ReadFault
fault_of_key_after_keys before x = fault_of_new_entry x.0 (entries_of_definition_keys x.0 before) x.1.0

abbrev pub first_fault_of_keys : List DefinitionKey → List DefinitionKey → Option ReadFault
first_fault_of_keys before [] = None
first_fault_of_keys before (x ∷ xs) = first_of_two_faults (fault_of_key_after_keys before x) (first_fault_of_keys (before ++ x ∷ []) xs)

fault_of_definition_is_fault_of_key : (before : List PlacedDefinition) (d : PlacedDefinition) → fault_of_definition_name before d ≡ fault_of_key_after_keys (keys_of_definitions before) (key_of_definition d)
fault_of_definition_is_fault_of_key before d =
    sym (fault_of_entry_is_fault_of_definition d.kind d.place d.def before) ∙ ap (λ es. fault_of_new_entry d.kind es d.def.name) (entries_of_definitions_are_those_of_keys d.kind before)

pub first_definition_fault_is_that_of_keys : (before ds : List PlacedDefinition) → first_definition_fault before ds ≡ first_fault_of_keys (keys_of_definitions before) (keys_of_definitions ds)
first_definition_fault_is_that_of_keys before [] = refl
first_definition_fault_is_that_of_keys before (d ∷ ds) =
    ap₂ first_of_two_faults (fault_of_definition_is_fault_of_key before d) (first_definition_fault_is_that_of_keys (before ++ d ∷ []) ds
    ∙ ap (λ ks. first_fault_of_keys ks (keys_of_definitions ds)) (map-append key_of_definition before (d ∷ [])))

-- Definitions with the same keys have the same names.
pub equal_keys_have_equal_entries : (k : Kind) (ds es : List PlacedDefinition) → keys_of_definitions es ≡ keys_of_definitions ds → entries_of_definitions k es ≡ entries_of_definitions k ds
equal_keys_have_equal_entries k ds es same = entries_of_definitions_are_those_of_keys k es ∙ ap (entries_of_definition_keys k) same ∙ sym (entries_of_definitions_are_those_of_keys k ds)

-- Definitions with the same keys have the same faults.
pub equal_keys_have_equal_faults : (before others ds es : List PlacedDefinition) → keys_of_definitions others ≡ keys_of_definitions before → keys_of_definitions es ≡ keys_of_definitions ds
    → first_definition_fault others es ≡ first_definition_fault before ds
equal_keys_have_equal_faults before others ds es front same =
    first_definition_fault_is_that_of_keys others es ∙ ap₂ first_fault_of_keys front same ∙ sym (first_definition_fault_is_that_of_keys before ds)

-- ---- where a definition stands

number_of_new_name_is_length_of_front : (name : List ℕ) (xs : List (List ℕ × Place)) (place : Place) (ys : List (List ℕ × Place)) → place_of_named_entry name xs ≡ None
    → number_of_named_entry name (xs ++ (name, place) ∷ ys) ≡ Some (length xs)
number_of_new_name_is_length_of_front name [] place ys none =
    ap (λ b. if b then Some 0 else option_map (λ n. n + 1) (number_of_named_entry name ys)) ((bytes_eq-Decides name name).1 refl)
number_of_new_name_is_length_of_front name (x ∷ xs) place ys none = by (bytes_eq name x.0) none (number_of_new_name_is_length_of_front name xs place ys)
  where
    by : (b : Bool) → (if b then Some x.1 else place_of_named_entry name xs) ≡ None
        → (place_of_named_entry name xs ≡ None → number_of_named_entry name (xs ++ (name, place) ∷ ys) ≡ Some (length xs))
        → (if b then Some 0 else option_map (λ n. n + 1) (number_of_named_entry name (xs ++ (name, place) ∷ ys))) ≡ Some (suc (length xs))
    by true none later = absurd (cc)
    by false none later = ap (option_map (λ n. n + 1)) (later none) ∙ ap Some (omega arith)

renaming_entry_after_front_replaces_its_name : (name old : List ℕ) (xs : List (List ℕ × Place)) (place : Place) (ys : List (List ℕ × Place))
    → entries_with_one_renamed (length xs) name (xs ++ (old, place) ∷ ys) ≡ xs ++ (name, place) ∷ ys
renaming_entry_after_front_replaces_its_name name old [] place ys = refl
renaming_entry_after_front_replaces_its_name name old (x ∷ xs) place ys = ap (λ es. x ∷ es) (renaming_entry_after_front_replaces_its_name name old xs place ys)

undefined_name_has_no_entry : (k : Kind) (name : List ℕ) (ds : List PlacedDefinition) → first_definition_of k name ds ≡ None → place_of_named_entry name (entries_of_definitions k ds) ≡ None
undefined_name_has_no_entry k name ds none = place_of_entry_is_place_of_definition k name ds ∙ ap (option_map (λ (d : PlacedDefinition). d.place)) none

name_without_entry_is_undefined : (k : Kind) (name : List ℕ) (ds : List PlacedDefinition) → is_some (place_of_named_entry name (entries_of_definitions k ds)) ≡ false → first_definition_of k name ds ≡ None
name_without_entry_is_undefined k name ds none = by (first_definition_of k name ds) (ap is_some (sym (place_of_entry_is_place_of_definition k name ds)) ∙ none)
  where
    by : (o : Option PlacedDefinition) → is_some (option_map (λ (d : PlacedDefinition). d.place) o) ≡ false → o ≡ None
    by None e = refl
    by (Some d) e = absurd (cc)

-- ---- one name is another

module _ (ds es : List PlacedDefinition) (r : RenamesOneDefinition ds es) where
  open r use {before, old, after, front, new, behind}

  -- the old definition with the new name
  abbrev fresh : PlacedDefinition
  fresh = record { kind = old.kind; place = old.place; def = new.def }

  key_is : key_of_definition new ≡ key_of_definition fresh
  key_is = ap₂ (λ (k : Kind) (p : Place). let x : DefinitionKey = (k, (new.def.name, p)) in x) r.kind r.place

  keys_are : keys_of_definitions es ≡ keys_of_definitions (before ++ fresh ∷ after)
  keys_are =
      ap keys_of_definitions r.news
      ∙ map-append key_of_definition front (new ∷ behind)
      ∙ ap₂ (λ xs ys. xs ++ key_of_definition new ∷ ys) r.same_before r.same_after
      ∙ ap (λ x. keys_of_definitions before ++ x ∷ keys_of_definitions after) key_is
      ∙ sym (map-append key_of_definition before (fresh ∷ after))

  not_before : first_definition_fault [] ds ≡ None → place_of_named_entry old.def.name (entries_of_definitions old.kind before) ≡ None
  not_before none =
      undefined_name_has_no_entry old.kind old.def.name before (faultless_definition_is_new_and_within_limit before old (definitions_without_fault_are_sound ds none before after old r.olds)).1

  olds_are : (k : Kind) → entries_of_definitions k ds ≡ entries_of_definitions k before ++ entries_of_definitions k (old ∷ after)
  olds_are k = ap (entries_of_definitions k) r.olds ∙ entries_of_appended_definitions_are_appended k before (old ∷ after)

  news_are : (k : Kind) → entries_of_definitions k es ≡ entries_of_definitions k before ++ entries_of_definitions k (fresh ∷ after)
  news_are k = equal_keys_have_equal_entries k (before ++ fresh ∷ after) es keys_are ∙ entries_of_appended_definitions_are_appended k before (fresh ∷ after)

  one_of : (k : Kind) (b : Bool) → is_equal_kind k old.kind ≡ b → (d : PlacedDefinition) → d.kind ≡ old.kind
      → entries_of_definitions k (d ∷ after) ≡ (if b then (d.def.name, d.place) ∷ entries_of_definitions k after else entries_of_definitions k after)
  one_of k b is d same =
      ap (λ t. if t then (d.def.name, d.place) ∷ entries_of_definitions k after else entries_of_definitions k after) (ap (is_equal_kind k) same ∙ is)

  renamed_here : (n : ℕ) → first_definition_fault [] ds ≡ None → number_of_named_entry old.def.name (entries_of_definitions old.kind ds) ≡ Some n
      → entries_of_definitions old.kind es ≡ entries_with_one_renamed n new.def.name (entries_of_definitions old.kind ds)
  renamed_here n none is =
      let k = old.kind in
      let xs = entries_of_definitions k before in
      let whole : entries_of_definitions k ds ≡ xs ++ (old.def.name, old.place) ∷ entries_of_definitions k after =
      olds_are k ∙ ap (λ ys. xs ++ ys) (one_of k true (kind_equals_itself k) old refl) in
      let at : length xs ≡ n =
      (let both : Some (length xs) ≡ Some n =
      sym (number_of_new_name_is_length_of_front old.def.name xs old.place (entries_of_definitions k after) (not_before none)) ∙ ap (number_of_named_entry old.def.name) (sym whole) ∙ is in cc) in
      news_are k
      ∙ ap (λ ys. xs ++ ys) (one_of k true (kind_equals_itself k) fresh refl)
      ∙ sym (renaming_entry_after_front_replaces_its_name new.def.name old.def.name xs old.place (entries_of_definitions k after))
      ∙ ap₂ (λ m ys. entries_with_one_renamed m new.def.name ys) at (sym whole)

  pub renamed_entries : (n : ℕ) → first_definition_fault [] ds ≡ None → number_of_named_entry old.def.name (entries_of_definitions old.kind ds) ≡ Some n
      → (k : Kind) → entries_of_definitions k es ≡ (if is_equal_kind k old.kind then entries_with_one_renamed n new.def.name (entries_of_definitions k ds) else entries_of_definitions k ds)
  renamed_entries n none is k = by (is_equal_kind k old.kind) refl
    where
      by : (b : Bool) → is_equal_kind k old.kind ≡ b
          → entries_of_definitions k es ≡ (if b then entries_with_one_renamed n new.def.name (entries_of_definitions k ds) else entries_of_definitions k ds)
      by true e =
          subst (λ j. entries_of_definitions j es ≡ entries_with_one_renamed n new.def.name (entries_of_definitions j ds)) (sym (equal_kinds_are_same k old.kind e)) (renamed_here n none is)
      by false e =
          news_are k
          ∙ ap (λ ys. entries_of_definitions k before ++ ys) (one_of k false e fresh refl ∙ sym (one_of k false e old refl))
          ∙ sym (olds_are k)

-- ---- definitions stay sound

replaced_definition_keeps_count_of_kind : (k : Kind) (before : List PlacedDefinition) (old now : PlacedDefinition) (after : List PlacedDefinition) → now.kind ≡ old.kind
    → definition_count_of_kind k (before ++ now ∷ after) ≡ definition_count_of_kind k (before ++ old ∷ after)
replaced_definition_keeps_count_of_kind k [] old now after same = ap (λ j. if is_equal_kind k j then 1 + definition_count_of_kind k after else definition_count_of_kind k after) same
replaced_definition_keeps_count_of_kind k (d ∷ before) old now after same =
    ap (λ n. if is_equal_kind k d.kind then 1 + n else n) (replaced_definition_keeps_count_of_kind k before old now after same)

-- no name of definitions is one of a part
undefined_name_is_of_no_definition : (k : Kind) (name : List ℕ) (d : PlacedDefinition) (ds : List PlacedDefinition) → first_definition_of k name (d ∷ ds) ≡ None
    → (is_definition_of_name k name d ≡ false) × (first_definition_of k name ds ≡ None)
undefined_name_is_of_no_definition k name d ds none = by (is_definition_of_name k name d) refl none
  where
    by : (b : Bool) → is_definition_of_name k name d ≡ b → (if b then Some d else first_definition_of k name ds) ≡ None
        → (is_definition_of_name k name d ≡ false) × (first_definition_of k name ds ≡ None)
    by true e none = absurd (cc)
    by false e none = (e, none)

name_of_no_definition_stays_undefined : (k : Kind) (name : List ℕ) (d : PlacedDefinition) (ds : List PlacedDefinition) → is_definition_of_name k name d ≡ false → first_definition_of k name ds ≡ None
    → first_definition_of k name (d ∷ ds) ≡ None
name_of_no_definition_stays_undefined k name d ds e none = ap (λ b. if b then Some d else first_definition_of k name ds) e ∙ none

replacing_definition_keeps_name_undefined : (k : Kind) (name : List ℕ) (before : List PlacedDefinition) (old now : PlacedDefinition) (after : List PlacedDefinition)
    → is_definition_of_name k name now ≡ false → first_definition_of k name (before ++ old ∷ after) ≡ None → first_definition_of k name (before ++ now ∷ after) ≡ None
replacing_definition_keeps_name_undefined k name [] old now after e none = name_of_no_definition_stays_undefined k name now after e (undefined_name_is_of_no_definition k name old after none).1
replacing_definition_keeps_name_undefined k name (d ∷ before) old now after e none =
    let both = undefined_name_is_of_no_definition k name d (before ++ old ∷ after) none in
    name_of_no_definition_stays_undefined k name d (before ++ now ∷ after) both.0 (replacing_definition_keeps_name_undefined k name before old now after e both.1)

name_undefined_in_append_is_in_neither : (k : Kind) (name : List ℕ) (xs ys : List PlacedDefinition) → first_definition_of k name (xs ++ ys) ≡ None
    → (first_definition_of k name xs ≡ None) × (first_definition_of k name ys ≡ None)
name_undefined_in_append_is_in_neither k name [] ys none = (refl, none)
name_undefined_in_append_is_in_neither k name (x ∷ xs) ys none =
    let both = undefined_name_is_of_no_definition k name x (xs ++ ys) none in
    let rest = name_undefined_in_append_is_in_neither k name xs ys both.1 in
    (name_of_no_definition_stays_undefined k name x xs both.0 rest.0, rest.1)

difference_of_kind_or_name_is_symmetric : (k j : Kind) (a b : List ℕ) → (is_equal_kind k j && bytes_eq a b) ≡ false → (is_equal_kind j k && bytes_eq b a) ≡ false
difference_of_kind_or_name_is_symmetric k j a b e = by (is_equal_kind j k) refl (bytes_eq b a) refl
  where
    by : (t : Bool) → is_equal_kind j k ≡ t → (u : Bool) → bytes_eq b a ≡ u → (t && u) ≡ false
    by false f u g = refl
    by true f false g = refl
    by true f true g =
        absurd (true≢false (sym (ap₂ (λ t u. t && u) (ap (is_equal_kind k) (equal_kinds_are_same j k f) ∙ kind_equals_itself k)
        ((bytes_eq-Decides a b).1 (sym ((bytes_eq-Decides b a).0 g)))) ∙ e))

-- Definitions behind the renamed one can still stand.
definitions_after_renamed_stay_faultless : (before : List PlacedDefinition) (old now : PlacedDefinition) (mid after : List PlacedDefinition) → now.kind ≡ old.kind
    → first_definition_of now.kind now.def.name after ≡ None → first_definition_fault (before ++ old ∷ mid) after ≡ None
    → first_definition_fault (before ++ now ∷ mid) after ≡ None
definitions_after_renamed_stay_faultless before old now mid [] same none e = refl
definitions_after_renamed_stay_faultless before old now mid (d ∷ after) same none e =
    let both = no_first_fault_implies_neither_fault (fault_of_definition_name (before ++ old ∷ mid) d) (first_definition_fault ((before ++ old ∷ mid) ++ d ∷ []) after) e in
    let here = faultless_definition_is_new_and_within_limit (before ++ old ∷ mid) d both.0 in
    let names = undefined_name_is_of_no_definition now.kind now.def.name d after none in
    let rest = definitions_after_renamed_stay_faultless before old now (mid ++ d ∷ []) after same names.1
    (ap (λ xs. first_definition_fault xs after) (sym (append_assoc before (old ∷ mid) (d ∷ []))) ∙ both.1) in
    ap₂ first_of_two_faults
    (new_definition_within_limit_is_faultless (before ++ now ∷ mid) d here.0
    (replacing_definition_keeps_name_undefined d.kind d.def.name before old now mid (difference_of_kind_or_name_is_symmetric now.kind d.kind now.def.name d.def.name names.0) here.1)
    (subst (λ n. n < alias_limit_of_each_kind) (sym (replaced_definition_keeps_count_of_kind d.kind before old now mid same)) here.2))
    (ap (λ xs. first_definition_fault xs after) (append_assoc before (now ∷ mid) (d ∷ [])) ∙ rest)

pub renaming_to_free_name_keeps_faultless : (ds es : List PlacedDefinition) (r : RenamesOneDefinition ds es) → first_definition_fault [] ds ≡ None
    → is_reserved r.new.def.name ≡ false → is_some (place_of_named_entry r.new.def.name (entries_of_definitions r.old.kind ds)) ≡ false
    → first_definition_fault [] es ≡ None
renaming_to_free_name_keeps_faultless ds es r none free apart =
    let before = r.before in
    let old = r.old in
    let after = r.after in
    let now : PlacedDefinition = record { kind = old.kind; place = old.place; def = r.new.def } in
    let absent = name_undefined_in_append_is_in_neither old.kind now.def.name before (old ∷ after)
    (ap (first_definition_of old.kind now.def.name) (sym r.olds) ∙ name_without_entry_is_undefined old.kind now.def.name ds apart) in
    let parts = faultless_append_has_faultless_parts before (old ∷ after) (ap (first_definition_fault []) (sym r.olds) ∙ none) in
    let two = no_first_fault_implies_neither_fault (fault_of_definition_name before old) (first_definition_fault (before ++ old ∷ []) after) parts.1 in
    equal_keys_have_equal_faults [] [] (before ++ now ∷ after) es refl (keys_are ds es r)
    ∙ faultless_parts_have_faultless_append before (now ∷ after) parts.0
    (ap₂ first_of_two_faults (new_definition_within_limit_is_faultless before now free absent.0 (faultless_definition_is_new_and_within_limit before old two.0).2)
    (definitions_after_renamed_stay_faultless before old now [] after refl (undefined_name_is_of_no_definition old.kind now.def.name old after absent.1).1 two.1))

-- ---- an index in which one name is another

successor_of_number_is_below_successor : (n : ℕ) (o : Option ℕ) (m : ℕ) → ((i : ℕ) → o ≡ Some i → i < m) → option_map (λ i. i + 1) o ≡ Some n → n < suc m
successor_of_number_is_below_successor n None m later is = absurd (cc)
successor_of_number_is_below_successor n (Some i) m later is =
    let same : i + 1 ≡ n = cc in
    omega (arith, later i refl, same)

-- the number of a name is less than the count of names
pub number_of_entry_is_below_count : (name : List ℕ) (xs : List (List ℕ × Place)) (n : ℕ) → number_of_named_entry name xs ≡ Some n → n < length xs
number_of_entry_is_below_count name [] n is = absurd (cc)
number_of_entry_is_below_count name (x ∷ xs) n is = by (bytes_eq name x.0) is (number_of_entry_is_below_count name xs)
  where
    by : (b : Bool) → (if b then Some 0 else option_map (λ i. i + 1) (number_of_named_entry name xs)) ≡ Some n
        → ((i : ℕ) → number_of_named_entry name xs ≡ Some i → i < length xs) → n < suc (length xs)
    by true is later =
        let same : 0 ≡ n = cc in
        omega (arith, same)
    by false is later = successor_of_number_is_below_successor n (number_of_named_entry name xs) (length xs) later is

module _ (t : Tables) (place : Place) (kind : Kind) (name now : ByteRange) (ds es : List PlacedDefinition) (is : IsDefinitionRenamed t place kind name now ds es)
    (index : AliasNameIndex) (indexed : IsIndexOfDefinitions index ds) (none : first_definition_fault [] ds ≡ None) where
  names_are : index_entries_of_kind kind index ≡ entries_of_definitions is.one.old.kind ds
  names_are = indexed kind ∙ ap (λ k. entries_of_definitions k ds) (sym is.kind_is)

  -- An index of definitions is one of those of which one has another name, once it gives that name in its place.
  pub renamed_index : (new : AliasNameIndex) (n : ℕ) → number_of_named_entry (text_in_tables t name) (index_entries_of_kind kind index) ≡ Some n
      → ((k : Kind) → index_entries_of_kind k new ≡ (if is_equal_kind k kind then entries_with_one_renamed n (text_in_tables t now) (index_entries_of_kind k index) else index_entries_of_kind k index))
      → IsIndexOfDefinitions new es
  renamed_index new n number renamed k =
      renamed k
      ∙ ap₂ (λ j es. if is_equal_kind k j then entries_with_one_renamed n (text_in_tables t now) es else es) (sym is.kind_is) (indexed k)
      ∙ ap (λ text. if is_equal_kind k is.one.old.kind then entries_with_one_renamed n text (entries_of_definitions k ds) else entries_of_definitions k ds) (sym is.fresh_is)
      ∙ sym (renamed_entries ds es is.one n none (ap₂ number_of_named_entry is.name_is (sym names_are) ∙ number) k)

  -- They have no fault, if the name is no reserved word and not among the names of the kind.
  pub renamed_faultless : is_reserved (text_in_tables t now) ≡ false → place_of_named_entry (text_in_tables t now) (index_entries_of_kind kind index) ≡ None
      → first_definition_fault [] es ≡ None
  renamed_faultless free apart =
      renaming_to_free_name_keeps_faultless ds es is.one none (ap is_reserved is.fresh_is ∙ free)
      (ap is_some (ap₂ place_of_named_entry is.fresh_is (sym names_are) ∙ apart))
