-- A device of the proof, which no public contract cites: the index of names.
use Rattle.std.specs.Prelude.{◌≡◌, ℕ, ◌+◌, Bool, false, List, [], ◌∷◌, ◌++◌, length, map, zip, slice_get, option_map, nat_le, Option, Some, None, Result, Ok, Err, if◌then◌else◌}
use Rattle.std.specs.Str.{bytes_eq}
use Rattle.sudoers_text.specs.Word.{is_reserved}
use Rattle.sudoers_grammar.specs.declared.node.Kind.{Kind}
use Rattle.sudoers_grammar.specs.declared.node.Kind.TheVariants.{User, Runas, Host, Cmnd}
use Rattle.sudoers_grammar.specs.Node.{Def}
use Rattle.sudoers_tree.specs.declared.place.Place.{Place}
use Rattle.sudoers_tree.specs.declared.alias_index.AliasNameIndex.{AliasNameIndex}
use Rattle.sudoers_tree.specs.declared.alias_index.AliasIndexUpdate.{AliasIndexUpdate}
use Rattle.sudoers_tree.specs.declared.alias_names_update.AliasNamesUpdate.{AliasNamesUpdate}
use Rattle.sudoers_tree.specs.declared.fault.ReadFault.{ReadFault}
use Rattle.sudoers_tree.specs.declared.fault.ReadFault.TheVariants.{Text, Syntax, Reserved, Duplicate, TooMany, NotLoaded, Twice, TooDeep, NoMemory}
use Rattle.sudoers_tree.specs.Definition.{PlacedDefinition, is_equal_kind}
use Rattle.sudoers_tree.specs.Policy.{alias_limit_of_each_kind}
use Rattle.sudoers_tree.specs.Fault.{is_some}
use Rattle.sudoers_tree.specs.Reading.{first_definition_fault}

-- the value of the first entry with this name
abbrev pub place_of_named_entry : List ℕ → List (List ℕ × Place) → Option Place
place_of_named_entry name [] = None
place_of_named_entry name (e ∷ es) = if bytes_eq name e.0 then Some e.1 else place_of_named_entry name es

-- the names, without their places
abbrev pub names_of_entries : List (List ℕ × Place) → List (List ℕ)
names_of_entries es = map (λ e. e.0) es

-- the number of the first entry with this name
abbrev pub number_of_named_entry : List ℕ → List (List ℕ × Place) → Option ℕ
number_of_named_entry name [] = None
number_of_named_entry name (e ∷ es) = if bytes_eq name e.0 then Some 0 else option_map (λ n. n + 1) (number_of_named_entry name es)

-- the first known names, as many as these places, with them
abbrev pub known_names_with_places : List (List ℕ × Place) → List Place → List (List ℕ × Place)
known_names_with_places known places = zip (names_of_entries known) places

abbrev pub known_or_own_entries : List (List ℕ × Place) → Option (List (List ℕ × Place)) → List Place → List (List ℕ × Place)
known_or_own_entries known None places = known_names_with_places known places
known_or_own_entries known (Some names) places = names

-- the names that are entered beside known ones
abbrev pub entries_after_update : List (List ℕ × Place) → AliasNamesUpdate → List (List ℕ × Place)
entries_after_update known renewal = known_or_own_entries known renewal.own renewal.places.items

abbrev pub is_equal_optional_name : List ℕ → Option (List ℕ) → Bool
is_equal_optional_name name None = false
is_equal_optional_name name (Some next) = bytes_eq next name

-- the name is the next of the known ones
abbrev pub is_next_known_entry : List (List ℕ × Place) → AliasNamesUpdate → List ℕ → Bool
is_next_known_entry known renewal name = is_equal_optional_name name (slice_get (names_of_entries known) (length renewal.places.items))

-- the names of the definitions of a kind, with their places
abbrev pub entries_of_definitions : Kind → List PlacedDefinition → List (List ℕ × Place)
entries_of_definitions k [] = []
entries_of_definitions k (d ∷ ds) = if is_equal_kind k d.kind then (d.def.name, d.place) ∷ entries_of_definitions k ds else entries_of_definitions k ds

-- the names of this kind
abbrev pub index_entries_of_kind : Kind → AliasNameIndex → List (List ℕ × Place)
index_entries_of_kind User index = index.user
index_entries_of_kind Runas index = index.runas
index_entries_of_kind Host index = index.host
index_entries_of_kind Cmnd index = index.cmnd

-- the names that are entered again beside those of an index
abbrev pub index_after_update : AliasNameIndex → AliasIndexUpdate → AliasNameIndex
index_after_update known new = record {
  user = entries_after_update known.user new.user;
  runas = entries_after_update known.runas new.runas;
  host = entries_after_update known.host new.host;
  cmnd = entries_after_update known.cmnd new.cmnd;
}

-- The index has the names of these definitions.
abbrev pub IsIndexOfDefinitions : AliasNameIndex → List PlacedDefinition → Type 0
IsIndexOfDefinitions index ds = (k : Kind) → index_entries_of_kind k index ≡ entries_of_definitions k ds

-- why a name cannot be entered after these
abbrev pub fault_of_new_entry : Kind → List (List ℕ × Place) → List ℕ → Option ReadFault
fault_of_new_entry k es name =
    if is_reserved name then Some (Reserved k name)
    else (if is_some (place_of_named_entry name es) then Some (Duplicate k name)
    else (if nat_le alias_limit_of_each_kind (length es) then Some (TooMany k) else None))

abbrev pub entries_unless_fault : Option ReadFault → Result (List (List ℕ × Place)) ReadFault → Result (List (List ℕ × Place)) ReadFault
entries_unless_fault None next = next
entries_unless_fault (Some fault) next = Err fault

-- the names with those of a line's definitions from this one on, or the fault of the first that cannot be entered
abbrev pub entries_with_definitions : Kind → ℕ → ℕ → List (List ℕ × Place) → List Def → Result (List (List ℕ × Place)) ReadFault
entries_with_definitions k line n es [] = Ok es
entries_with_definitions k line n es (d ∷ ds) =
    entries_unless_fault (fault_of_new_entry k es d.name)
    (entries_with_definitions k line (n + 1) (es ++ (d.name, record { line = line; def = n }) ∷ []) ds)

-- A change has the outcome that is wanted. `NoMemory` may come instead.
abbrev pub IsEntryOutcome : {X : Type 0} → Result (Unit {0}) ReadFault → X → Result X ReadFault → Type 0
IsEntryOutcome (Ok u) new wanted = wanted ≡ Ok new
IsEntryOutcome (Err (Text fault)) new wanted = wanted ≡ Err (Text fault)
IsEntryOutcome (Err (Syntax row col why)) new wanted = wanted ≡ Err (Syntax row col why)
IsEntryOutcome (Err (Reserved k name)) new wanted = wanted ≡ Err (Reserved k name)
IsEntryOutcome (Err (Duplicate k name)) new wanted = wanted ≡ Err (Duplicate k name)
IsEntryOutcome (Err (TooMany k)) new wanted = wanted ≡ Err (TooMany k)
IsEntryOutcome (Err (NotLoaded row name)) new wanted = wanted ≡ Err (NotLoaded row name)
IsEntryOutcome (Err (Twice row name)) new wanted = wanted ≡ Err (Twice row name)
IsEntryOutcome (Err (TooDeep row)) new wanted = wanted ≡ Err (TooDeep row)
IsEntryOutcome (Err NoMemory) new wanted = Unit {0}

-- the outcome of entering these definitions after the others
abbrev pub IsIndexEntryOutcome : Result (Unit {0}) ReadFault → AliasNameIndex → List PlacedDefinition → List PlacedDefinition → Type 0
IsIndexEntryOutcome (Ok u) index before ds = IsIndexOfDefinitions index (before ++ ds) × (first_definition_fault before ds ≡ None)
IsIndexEntryOutcome (Err (Text fault)) index before ds = first_definition_fault before ds ≡ Some (Text fault)
IsIndexEntryOutcome (Err (Syntax row col why)) index before ds = first_definition_fault before ds ≡ Some (Syntax row col why)
IsIndexEntryOutcome (Err (Reserved k name)) index before ds = first_definition_fault before ds ≡ Some (Reserved k name)
IsIndexEntryOutcome (Err (Duplicate k name)) index before ds = first_definition_fault before ds ≡ Some (Duplicate k name)
IsIndexEntryOutcome (Err (TooMany k)) index before ds = first_definition_fault before ds ≡ Some (TooMany k)
IsIndexEntryOutcome (Err (NotLoaded row name)) index before ds = first_definition_fault before ds ≡ Some (NotLoaded row name)
IsIndexEntryOutcome (Err (Twice row name)) index before ds = first_definition_fault before ds ≡ Some (Twice row name)
IsIndexEntryOutcome (Err (TooDeep row)) index before ds = first_definition_fault before ds ≡ Some (TooDeep row)
IsIndexEntryOutcome (Err NoMemory) index before ds = Unit {0}
