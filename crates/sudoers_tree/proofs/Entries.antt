-- Names and their definitions.
use Rattle.sudoers_tree.proofs.Common.{AliasNameIndex, Bool, Cmnd, Def, Duplicate, Err, Host, IsEntryOutcome, IsIndexEntryOutcome, IsIndexOfDefinitions, Kind, List, None, NotLoaded, Ok, Option, Place}
use Rattle.sudoers_tree.proofs.Common.{PlacedDefinition, ReadFault, Reserved, Result, Runas, Some, Syntax, Text, TooDeep, TooMany, Twice, User, [], alias_limit_of_each_kind, ap, append-nil, arith, bytes_eq}
use Rattle.sudoers_tree.proofs.Common.{definition_count_of_kind, definitions_from_place, entries_of_definitions, entries_unless_fault, entries_with_definitions, false, fault_of_definition_name, fault_of_new_entry}
use Rattle.sudoers_tree.proofs.Common.{first_definition_fault, first_definition_of, first_of_two_faults, if◌then◌else◌, is_equal_kind, is_reserved, is_some, length, nat_le, option_map, place_of_named_entry, refl}
use Rattle.sudoers_tree.proofs.Common.{suc, sym, true, ℕ, ◌&&◌, ◌++◌, ◌+◌, ◌∙◌, ◌∷◌, ◌≡◌}
use Rattle.std.proofs.lemmas.List.{append_assoc}
use Rattle.sudoers_tree.specs.declared.fault.ReadFault.TheVariants.{NoMemory}

-- ---- what a map has

-- ---- names of definitions

pub place_of_entry_is_place_of_definition : (k : Kind) (name : List ℕ) (ds : List PlacedDefinition) → place_of_named_entry name (entries_of_definitions k ds) ≡ option_map (λ (d : PlacedDefinition). d.place) (first_definition_of k name ds)
place_of_entry_is_place_of_definition k name [] = refl
place_of_entry_is_place_of_definition k name (d ∷ ds) = by (is_equal_kind k d.kind) refl (bytes_eq name d.def.name) refl (place_of_entry_is_place_of_definition k name ds)
  where
    place : Option PlacedDefinition → Option Place
    place = option_map (λ (x : PlacedDefinition). x.place)

    by : (t : Bool) → is_equal_kind k d.kind ≡ t → (u : Bool) → bytes_eq name d.def.name ≡ u
        → place_of_named_entry name (entries_of_definitions k ds) ≡ place (first_definition_of k name ds)
        → place_of_named_entry name (entries_of_definitions k (d ∷ ds)) ≡ place (first_definition_of k name (d ∷ ds))
    by true e true f later =
        ap (λ t. place_of_named_entry name (if t then (d.def.name, d.place) ∷ entries_of_definitions k ds else entries_of_definitions k ds)) e
        ∙ ap (λ u. if u then Some d.place else place_of_named_entry name (entries_of_definitions k ds)) f
        ∙ sym (ap (λ t. place (if t && bytes_eq name d.def.name then Some d else first_definition_of k name ds)) e
        ∙ ap (λ u. place (if u then Some d else first_definition_of k name ds)) f)
    by true e false f later =
        ap (λ t. place_of_named_entry name (if t then (d.def.name, d.place) ∷ entries_of_definitions k ds else entries_of_definitions k ds)) e
        ∙ ap (λ u. if u then Some d.place else place_of_named_entry name (entries_of_definitions k ds)) f
        ∙ later
        ∙ sym (ap (λ t. place (if t && bytes_eq name d.def.name then Some d else first_definition_of k name ds)) e
        ∙ ap (λ u. place (if u then Some d else first_definition_of k name ds)) f)
    by false e u f later =
        ap (λ t. place_of_named_entry name (if t then (d.def.name, d.place) ∷ entries_of_definitions k ds else entries_of_definitions k ds)) e
        ∙ later
        ∙ sym (ap (λ t. place (if t && bytes_eq name d.def.name then Some d else first_definition_of k name ds)) e)

count_of_entries_grows_as_definitions_do : (k : Kind) (d : PlacedDefinition) (ds : List PlacedDefinition) (t : Bool) → is_equal_kind k d.kind ≡ t → length (entries_of_definitions k ds) ≡ definition_count_of_kind k ds
    → length (entries_of_definitions k (d ∷ ds)) ≡ definition_count_of_kind k (d ∷ ds)
count_of_entries_grows_as_definitions_do k d ds true e same =
    let names : length (entries_of_definitions k (d ∷ ds)) ≡ suc (length (entries_of_definitions k ds)) = ap (λ t. length (if t then (d.def.name, d.place) ∷ entries_of_definitions k ds else entries_of_definitions k ds)) e in
    let count : definition_count_of_kind k (d ∷ ds) ≡ 1 + definition_count_of_kind k ds = ap (λ t. if t then 1 + definition_count_of_kind k ds else definition_count_of_kind k ds) e in
    omega (arith, same, names, count)
count_of_entries_grows_as_definitions_do k d ds false e same =
    let names : length (entries_of_definitions k (d ∷ ds)) ≡ length (entries_of_definitions k ds) = ap (λ t. length (if t then (d.def.name, d.place) ∷ entries_of_definitions k ds else entries_of_definitions k ds)) e in
    let count : definition_count_of_kind k (d ∷ ds) ≡ definition_count_of_kind k ds = ap (λ t. if t then 1 + definition_count_of_kind k ds else definition_count_of_kind k ds) e in
    omega (arith, same, names, count)

pub count_of_entries_is_count_of_definitions : (k : Kind) (ds : List PlacedDefinition) → length (entries_of_definitions k ds) ≡ definition_count_of_kind k ds
count_of_entries_is_count_of_definitions k [] = refl
count_of_entries_is_count_of_definitions k (d ∷ ds) = count_of_entries_grows_as_definitions_do k d ds (is_equal_kind k d.kind) refl (count_of_entries_is_count_of_definitions k ds)

entries_append_after_first_definition : (k : Kind) (d : PlacedDefinition) (ds es : List PlacedDefinition) (t : Bool) → is_equal_kind k d.kind ≡ t
    → entries_of_definitions k (ds ++ es) ≡ entries_of_definitions k ds ++ entries_of_definitions k es → entries_of_definitions k (d ∷ ds ++ es) ≡ entries_of_definitions k (d ∷ ds) ++ entries_of_definitions k es
entries_append_after_first_definition k d ds es true e later =
    ap (λ t. if t then (d.def.name, d.place) ∷ entries_of_definitions k (ds ++ es) else entries_of_definitions k (ds ++ es)) e
    ∙ ap (λ xs. (d.def.name, d.place) ∷ xs) later
    ∙ sym (ap (λ t. (if t then (d.def.name, d.place) ∷ entries_of_definitions k ds else entries_of_definitions k ds) ++ entries_of_definitions k es) e)
entries_append_after_first_definition k d ds es false e later =
    ap (λ t. if t then (d.def.name, d.place) ∷ entries_of_definitions k (ds ++ es) else entries_of_definitions k (ds ++ es)) e
    ∙ later
    ∙ sym (ap (λ t. (if t then (d.def.name, d.place) ∷ entries_of_definitions k ds else entries_of_definitions k ds) ++ entries_of_definitions k es) e)

pub entries_of_appended_definitions_are_appended : (k : Kind) (ds es : List PlacedDefinition) → entries_of_definitions k (ds ++ es) ≡ entries_of_definitions k ds ++ entries_of_definitions k es
entries_of_appended_definitions_are_appended k [] es = refl
entries_of_appended_definitions_are_appended k (d ∷ ds) es = entries_append_after_first_definition k d ds es (is_equal_kind k d.kind) refl (entries_of_appended_definitions_are_appended k ds es)

pub kind_equals_itself : (k : Kind) → is_equal_kind k k ≡ true
kind_equals_itself User = refl
kind_equals_itself Runas = refl
kind_equals_itself Host = refl
kind_equals_itself Cmnd = refl

-- the definitions of a line of one kind have no names of another
pub definitions_of_other_kind_have_no_entries : (k j : Kind) (line n : ℕ) (defs : List Def) → is_equal_kind k j ≡ false → entries_of_definitions k (definitions_from_place j line n defs) ≡ []
definitions_of_other_kind_have_no_entries k j line n [] e = refl
definitions_of_other_kind_have_no_entries k j line n (d ∷ ds) e =
    ap (λ t. if t then (d.name, record { line = line; def = n }) ∷ entries_of_definitions k (definitions_from_place j line (n + 1) ds) else entries_of_definitions k (definitions_from_place j line (n + 1) ds)) e
    ∙ definitions_of_other_kind_have_no_entries k j line (n + 1) ds e

-- ---- why a definition cannot stand

place_is_some_if_definition_is_some : (o : Option PlacedDefinition) → is_some (option_map (λ (d : PlacedDefinition). d.place) o) ≡ is_some o
place_is_some_if_definition_is_some None = refl
place_is_some_if_definition_is_some (Some d) = refl

pub fault_of_entry_is_fault_of_definition : (k : Kind) (place : Place) (def : Def) (ds : List PlacedDefinition)
    → fault_of_new_entry k (entries_of_definitions k ds) def.name ≡ fault_of_definition_name ds (record { kind = k; place = place; def = def })
unfolding fault_of_definition_name
fault_of_entry_is_fault_of_definition k place def ds =
    ap (λ b. if is_reserved def.name then Some (Reserved k def.name) else (if b then Some (Duplicate k def.name)
    else (if nat_le alias_limit_of_each_kind (length (entries_of_definitions k ds)) then Some (TooMany k) else None)))
    (ap is_some (place_of_entry_is_place_of_definition k def.name ds) ∙ place_is_some_if_definition_is_some (first_definition_of k def.name ds))
    ∙ ap (λ n. if is_reserved def.name then Some (Reserved k def.name) else (if is_some (first_definition_of k def.name ds) then Some (Duplicate k def.name)
    else (if nat_le alias_limit_of_each_kind n then Some (TooMany k) else None)))
    (count_of_entries_is_count_of_definitions k ds)

-- The outcome of entering names: those of the definitions, or the fault of the first that cannot stand.
abbrev outcome_of_entering_definitions : Kind → ℕ → ℕ → List PlacedDefinition → List Def → Option ReadFault → Result (List (List ℕ × Place)) ReadFault
outcome_of_entering_definitions k line n ds defs None = Ok (entries_of_definitions k (ds ++ definitions_from_place k line n defs))
outcome_of_entering_definitions k line n ds defs (Some fault) = Err fault

outcome_is_same_after_entered_definition : (k : Kind) (line n : ℕ) (ds : List PlacedDefinition) (d : PlacedDefinition) (def : Def) (defs : List Def) (o : Option ReadFault)
    → d ≡ record { kind = k; place = record { line = line; def = n }; def = def }
    → outcome_of_entering_definitions k line (n + 1) (ds ++ d ∷ []) defs o ≡ outcome_of_entering_definitions k line n ds (def ∷ defs) o
outcome_is_same_after_entered_definition k line n ds d def defs None e =
    ap (λ xs. Ok (entries_of_definitions k xs)) (append_assoc ds (d ∷ []) (definitions_from_place k line (n + 1) defs)
    ∙ ap (λ x. ds ++ x ∷ definitions_from_place k line (n + 1) defs) e)
outcome_is_same_after_entered_definition k line n ds d def defs (Some fault) e = refl

pub entries_with_definitions_are_outcome : (k : Kind) (line n : ℕ) (ds : List PlacedDefinition) (defs : List Def)
    → entries_with_definitions k line n (entries_of_definitions k ds) defs ≡ outcome_of_entering_definitions k line n ds defs (first_definition_fault ds (definitions_from_place k line n defs))
entries_with_definitions_are_outcome k line n ds [] = ap (λ xs. Ok (entries_of_definitions k xs)) (sym (append-nil ds))
entries_with_definitions_are_outcome k line n ds (d ∷ defs) =
    by (fault_of_definition_name ds (record { kind = k; place = record { line = line; def = n }; def = d })) refl
    (entries_with_definitions_are_outcome k line (n + 1) (ds ++ record { kind = k; place = record { line = line; def = n }; def = d } ∷ []) defs)
  where
    here : PlacedDefinition
    here = record { kind = k; place = record { line = line; def = n }; def = d }

    rest : Result (List (List ℕ × Place)) ReadFault
    rest = entries_with_definitions k line (n + 1) (entries_of_definitions k ds ++ (d.name, here.place) ∷ []) defs

    later : Option ReadFault
    later = first_definition_fault (ds ++ here ∷ []) (definitions_from_place k line (n + 1) defs)

    one : entries_of_definitions k (ds ++ here ∷ []) ≡ entries_of_definitions k ds ++ (d.name, here.place) ∷ []
    one = entries_of_appended_definitions_are_appended k ds (here ∷ []) ∙ ap (λ t. entries_of_definitions k ds ++ (if t then (d.name, here.place) ∷ [] else [])) (kind_equals_itself k)

    by : (o : Option ReadFault) → fault_of_definition_name ds here ≡ o
        → entries_with_definitions k line (n + 1) (entries_of_definitions k (ds ++ here ∷ [])) defs ≡ outcome_of_entering_definitions k line (n + 1) (ds ++ here ∷ []) defs later
        → entries_unless_fault (fault_of_new_entry k (entries_of_definitions k ds) d.name) rest ≡ outcome_of_entering_definitions k line n ds (d ∷ defs) (first_of_two_faults (fault_of_definition_name ds here) later)
    by (Some fault) e go =
        ap (λ o. entries_unless_fault o rest) (fault_of_entry_is_fault_of_definition k here.place d ds ∙ e)
        ∙ sym (ap (λ o. outcome_of_entering_definitions k line n ds (d ∷ defs) (first_of_two_faults o later)) e)
    by None e go =
        ap (λ o. entries_unless_fault o rest) (fault_of_entry_is_fault_of_definition k here.place d ds ∙ e)
        ∙ ap (λ es. entries_with_definitions k line (n + 1) es defs) (sym one)
        ∙ go
        ∙ outcome_is_same_after_entered_definition k line n ds here d defs later refl
        ∙ sym (ap (λ o. outcome_of_entering_definitions k line n ds (d ∷ defs) (first_of_two_faults o later)) e)

-- ---- the fault of entering names

abbrev fault_of_entry_result : Result (List (List ℕ × Place)) ReadFault → Option ReadFault
fault_of_entry_result (Ok names) = None
fault_of_entry_result (Err fault) = Some fault

abbrev entries_of_entry_result : Result (List (List ℕ × Place)) ReadFault → List (List ℕ × Place)
entries_of_entry_result (Ok names) = names
entries_of_entry_result (Err fault) = []

fault_of_entering_outcome_is_given_fault : (k : Kind) (line : ℕ) (ds : List PlacedDefinition) (defs : List Def) (o : Option ReadFault) → o ≡ fault_of_entry_result (outcome_of_entering_definitions k line 0 ds defs o)
fault_of_entering_outcome_is_given_fault k line ds defs None = refl
fault_of_entering_outcome_is_given_fault k line ds defs (Some fault) = refl

-- The outcome of entering the names of a line's definitions of one kind.
pub entry_outcome_is_index_entry_outcome : (k : Kind) (line : ℕ) (before : List PlacedDefinition) (defs : List Def) (r : Result (Unit {0}) ReadFault) (new : List (List ℕ × Place)) (index : AliasNameIndex)
    → IsEntryOutcome r new (entries_with_definitions k line 0 (entries_of_definitions k before) defs)
    → (new ≡ entries_of_definitions k (before ++ definitions_from_place k line 0 defs) → IsIndexOfDefinitions index (before ++ definitions_from_place k line 0 defs))
    → IsIndexEntryOutcome r index before (definitions_from_place k line 0 defs)
entry_outcome_is_index_entry_outcome k line before defs r new index comes indexes = by r comes
  where
    first : Option ReadFault
    first = first_definition_fault before (definitions_from_place k line 0 defs)

    told : (w : Result (List (List ℕ × Place)) ReadFault) → entries_with_definitions k line 0 (entries_of_definitions k before) defs ≡ w → first ≡ fault_of_entry_result w
    told w is = fault_of_entering_outcome_is_given_fault k line before defs first ∙ ap fault_of_entry_result (sym (entries_with_definitions_are_outcome k line 0 before defs) ∙ is)

    by : (r : Result (Unit {0}) ReadFault) → IsEntryOutcome r new (entries_with_definitions k line 0 (entries_of_definitions k before) defs) → IsIndexEntryOutcome r index before (definitions_from_place k line 0 defs)
    by (Ok u) is =
        (indexes (ap entries_of_entry_result (sym is ∙ entries_with_definitions_are_outcome k line 0 before defs ∙ ap (λ o. outcome_of_entering_definitions k line 0 before defs o) (told (Ok new) is))), told (Ok new) is)
    by (Err (Text fault)) is = told (Err (Text fault)) is
    by (Err (Syntax row col why)) is = told (Err (Syntax row col why)) is
    by (Err (Reserved kind name)) is = told (Err (Reserved kind name)) is
    by (Err (Duplicate kind name)) is = told (Err (Duplicate kind name)) is
    by (Err (TooMany kind)) is = told (Err (TooMany kind)) is
    by (Err (NotLoaded row name)) is = told (Err (NotLoaded row name)) is
    by (Err (Twice row name)) is = told (Err (Twice row name)) is
    by (Err (TooDeep row)) is = told (Err (TooDeep row)) is
    by (Err NoMemory) is = tt

-- A kind of which the line defines nothing keeps its names.
pub other_kind_keeps_its_entries : (k j : Kind) (line : ℕ) (before : List PlacedDefinition) (defs : List Def) (names : List (List ℕ × Place)) → is_equal_kind k j ≡ false → names ≡ entries_of_definitions k before
    → names ≡ entries_of_definitions k (before ++ definitions_from_place j line 0 defs)
other_kind_keeps_its_entries k j line before defs names other is =
    is
    ∙ sym (append-nil (entries_of_definitions k before))
    ∙ ap (λ xs. entries_of_definitions k before ++ xs) (sym (definitions_of_other_kind_have_no_entries k j line 0 defs other))
    ∙ sym (entries_of_appended_definitions_are_appended k before (definitions_from_place j line 0 defs))

pub entries_of_four_kinds_are_index : (index : AliasNameIndex) (ds : List PlacedDefinition) → index.user ≡ entries_of_definitions User ds → index.runas ≡ entries_of_definitions Runas ds → index.host ≡ entries_of_definitions Host ds
    → index.cmnd ≡ entries_of_definitions Cmnd ds → IsIndexOfDefinitions index ds
entries_of_four_kinds_are_index index ds user runas host cmnd User = user
entries_of_four_kinds_are_index index ds user runas host cmnd Runas = runas
entries_of_four_kinds_are_index index ds user runas host cmnd Host = host
entries_of_four_kinds_are_index index ds user runas host cmnd Cmnd = cmnd
