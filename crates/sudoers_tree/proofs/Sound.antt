-- Definitions that can stand, each after those before it.
use Rattle.sudoers_tree.proofs.Common.{AllByRecursion, AreSoundDefinitions, Bool, Cmnd, Duplicate, HasUnreservedName, HaveDistinctNames, Host, IfSome, Kind, Line, List, None, NotLoaded, Option, PlacedDefinition}
use Rattle.sudoers_tree.proofs.Common.{ReadFault, Reserved, Runas, Some, Syntax, Text, TooDeep, TooMany, Twice, User, [], alias_limit_of_each_kind, ap, append-nil, append_assoc, arith, definition_count_of_kind}
use Rattle.sudoers_tree.proofs.Common.{definitions_from_line_number, definitions_of_lines, entries_of_definitions, false, fault_of_definition_name, first_definition_fault, first_definition_of, first_of_two_faults}
use Rattle.sudoers_tree.proofs.Common.{if◌then◌else◌, is_equal_kind, is_reserved, is_some, length, length-append, nat_le, nat_tests, refl, subst, sym, true, ◌++◌, ◌+◌, ◌<◌, ◌∙◌, ◌∷◌, ◌≡◌, ◌≤◌}
use Rattle.sudoers_tree.specs.declared.fault.ReadFault.TheVariants.{NoMemory}
use Rattle.sudoers_tree.proofs.Entries.{count_of_entries_is_count_of_definitions, entries_of_appended_definitions_are_appended, kind_equals_itself}
use Rattle.sudoers_tree.proofs.Joined.{definitions_of_appended_lines_are_appended}

-- ---- the first fault of names

first_of_two_faults_is_associative : (a b c : Option ReadFault) → first_of_two_faults a (first_of_two_faults b c) ≡ first_of_two_faults (first_of_two_faults a b) c
first_of_two_faults_is_associative None b c = refl
first_of_two_faults_is_associative (Some fault) b c = refl

pub no_first_fault_implies_neither_fault : (a b : Option ReadFault) → first_of_two_faults a b ≡ None → (a ≡ None) × (b ≡ None)
no_first_fault_implies_neither_fault None b e = (refl, e)
no_first_fault_implies_neither_fault (Some fault) b e = absurd cc

-- that of definitions, or else that of those after them
pub first_fault_of_append_is_of_first_or_rest : (before ds more : List PlacedDefinition)
    → first_definition_fault before (ds ++ more) ≡ first_of_two_faults (first_definition_fault before ds) (first_definition_fault (before ++ ds) more)
first_fault_of_append_is_of_first_or_rest before [] more = ap (λ ds. first_definition_fault ds more) (sym (append-nil before))
first_fault_of_append_is_of_first_or_rest before (d ∷ ds) more =
    let next = before ++ d ∷ [] in
    ap (first_of_two_faults (fault_of_definition_name before d)) (first_fault_of_append_is_of_first_or_rest next ds more)
    ∙ first_of_two_faults_is_associative (fault_of_definition_name before d) (first_definition_fault next ds) (first_definition_fault (next ++ ds) more)
    ∙ ap (λ xs. first_of_two_faults (first_of_two_faults (fault_of_definition_name before d) (first_definition_fault next ds)) (first_definition_fault xs more)) (append_assoc before (d ∷ []) ds)

-- Two lists of definitions have no fault together exactly if the first has none, and the second has none after it.
pub faultless_parts_have_faultless_append : (ds more : List PlacedDefinition) → first_definition_fault [] ds ≡ None → first_definition_fault ds more ≡ None
    → first_definition_fault [] (ds ++ more) ≡ None
faultless_parts_have_faultless_append ds more e f = first_fault_of_append_is_of_first_or_rest [] ds more ∙ ap (λ o. first_of_two_faults o (first_definition_fault ds more)) e ∙ f

pub faultless_append_has_faultless_parts : (ds more : List PlacedDefinition) → first_definition_fault [] (ds ++ more) ≡ None
    → (first_definition_fault [] ds ≡ None) × (first_definition_fault ds more ≡ None)
faultless_append_has_faultless_parts ds more e = no_first_fault_implies_neither_fault (first_definition_fault [] ds) (first_definition_fault ds more) (sym (first_fault_of_append_is_of_first_or_rest [] ds more) ∙ e)

pub faultless_lines_have_faultless_front : (lines others : List Line) → first_definition_fault [] (definitions_of_lines (lines ++ others)) ≡ None
    → first_definition_fault [] (definitions_of_lines lines) ≡ None
faultless_lines_have_faultless_front lines others e =
    (faultless_append_has_faultless_parts (definitions_of_lines lines) (definitions_from_line_number (0 + length lines) others)
    (ap (first_definition_fault []) (sym (definitions_of_appended_lines_are_appended 0 lines others)) ∙ e)).0

-- Definitions are sound exactly if none has a fault.
pub definitions_without_fault_are_sound : (ds : List PlacedDefinition) → first_definition_fault [] ds ≡ None → AreSoundDefinitions ds
definitions_without_fault_are_sound ds e before after d is =
    (no_first_fault_implies_neither_fault (fault_of_definition_name before d) (first_definition_fault (before ++ d ∷ []) after)
    (faultless_append_has_faultless_parts before (d ∷ after) (ap (first_definition_fault []) (sym is) ∙ e)).1).0

sound_definitions_have_no_fault_after_front : (before ds : List PlacedDefinition) → AreSoundDefinitions (before ++ ds) → first_definition_fault before ds ≡ None
sound_definitions_have_no_fault_after_front before [] sound = refl
sound_definitions_have_no_fault_after_front before (d ∷ ds) sound =
    ap (λ o. first_of_two_faults o (first_definition_fault (before ++ d ∷ []) ds)) (sound before ds d refl)
    ∙ sound_definitions_have_no_fault_after_front (before ++ d ∷ []) ds (subst AreSoundDefinitions (sym (append_assoc before (d ∷ []) ds)) sound)

pub sound_definitions_have_no_fault : (ds : List PlacedDefinition) → AreSoundDefinitions ds → first_definition_fault [] ds ≡ None
sound_definitions_have_no_fault ds sound = sound_definitions_have_no_fault_after_front [] ds sound

-- the first of some definitions that cannot stand after the others
pub record IsFirstFaultyDefinition (before ds : List PlacedDefinition) (fault : ReadFault) : Type 0 where
  pub good : List PlacedDefinition
  pub bad : PlacedDefinition
  pub more : List PlacedDefinition
  pub place : ds ≡ good ++ bad ∷ more
  pub none : first_definition_fault before good ≡ None
  pub fault_is : fault_of_definition_name (before ++ good) bad ≡ Some fault

pub first_fault_has_faulty_definition : (before ds : List PlacedDefinition) (fault : ReadFault) → first_definition_fault before ds ≡ Some fault → IsFirstFaultyDefinition before ds fault
first_fault_has_faulty_definition before [] fault e = absurd cc
first_fault_has_faulty_definition before (d ∷ ds) fault e = by (fault_of_definition_name before d) refl (first_fault_has_faulty_definition (before ++ d ∷ []) ds fault)
  where
    by : (o : Option ReadFault) → fault_of_definition_name before d ≡ o
        → (first_definition_fault (before ++ d ∷ []) ds ≡ Some fault → IsFirstFaultyDefinition (before ++ d ∷ []) ds fault)
        → IsFirstFaultyDefinition before (d ∷ ds) fault
    by (Some here) is later = record {
      good = [];
      bad = d;
      more = ds;
      place = refl;
      none = refl;
      fault_is =
          ap (λ xs. fault_of_definition_name xs d) (append-nil before)
          ∙ is
          ∙ ap (λ o. first_of_two_faults o (first_definition_fault (before ++ d ∷ []) ds)) (sym is)
          ∙ e;
    }
    by None is later =
        let first = later (ap (λ o. first_of_two_faults o (first_definition_fault (before ++ d ∷ []) ds)) (sym is) ∙ e) in
        record {
          good = d ∷ first.good;
          bad = first.bad;
          more = first.more;
          place = ap (λ xs. d ∷ xs) first.place;
          none = ap (λ o. first_of_two_faults o (first_definition_fault (before ++ d ∷ []) first.good)) is ∙ first.none;
          fault_is = ap (λ xs. fault_of_definition_name xs first.bad) (sym (append_assoc before (d ∷ []) first.good)) ∙ first.fault_is;
        }

pub faulty_definition_gives_first_fault : (before good : List PlacedDefinition) (bad : PlacedDefinition) (more : List PlacedDefinition) (fault : ReadFault)
    → first_definition_fault before good ≡ None → fault_of_definition_name (before ++ good) bad ≡ Some fault → first_definition_fault before (good ++ bad ∷ more) ≡ Some fault
faulty_definition_gives_first_fault before good bad more fault none is =
    first_fault_of_append_is_of_first_or_rest before good (bad ∷ more)
    ∙ ap (λ o. first_of_two_faults o (first_definition_fault (before ++ good) (bad ∷ more))) none
    ∙ ap (λ o. first_of_two_faults o (first_definition_fault ((before ++ good) ++ bad ∷ []) more)) is

-- ---- the fault of a name

-- the fault is one of a definition
abbrev pub IsFaultOfDefinitionName : ReadFault → Type 0
IsFaultOfDefinitionName (Reserved k name) = Unit {0}
IsFaultOfDefinitionName (Duplicate k name) = Unit {0}
IsFaultOfDefinitionName (TooMany k) = Unit {0}
IsFaultOfDefinitionName (NotLoaded row name) = ⊥
IsFaultOfDefinitionName (Twice row name) = ⊥
IsFaultOfDefinitionName (TooDeep row) = ⊥
IsFaultOfDefinitionName (Text fault) = ⊥
IsFaultOfDefinitionName (Syntax row col why) = ⊥
IsFaultOfDefinitionName NoMemory = ⊥

abbrev first_fault_of_three_tests : Bool → Bool → Bool → ReadFault → ReadFault → ReadFault → Option ReadFault
first_fault_of_three_tests a b c x y z = if a then Some x else (if b then Some y else (if c then Some z else None))

first_of_three_name_faults_is_name_fault : (a b c : Bool) (x y z : ReadFault) → IsFaultOfDefinitionName x → IsFaultOfDefinitionName y → IsFaultOfDefinitionName z → IfSome (first_fault_of_three_tests a b c x y z) IsFaultOfDefinitionName
first_of_three_name_faults_is_name_fault true b c x y z p q r = p
first_of_three_name_faults_is_name_fault false true c x y z p q r = q
first_of_three_name_faults_is_name_fault false false true x y z p q r = r
first_of_three_name_faults_is_name_fault false false false x y z p q r = tt

no_fault_of_three_implies_tests_false : (a b c : Bool) (x y z : ReadFault) → first_fault_of_three_tests a b c x y z ≡ None → (a ≡ false) × (b ≡ false) × (c ≡ false)
no_fault_of_three_implies_tests_false true b c x y z e = absurd cc
no_fault_of_three_implies_tests_false false true c x y z e = absurd cc
no_fault_of_three_implies_tests_false false false true x y z e = absurd cc
no_fault_of_three_implies_tests_false false false false x y z e = (refl, refl, refl)

false_tests_imply_no_fault_of_three : (a b c : Bool) (x y z : ReadFault) → a ≡ false → b ≡ false → c ≡ false → first_fault_of_three_tests a b c x y z ≡ None
false_tests_imply_no_fault_of_three a b c x y z e f g =
    ap (λ t. first_fault_of_three_tests t b c x y z) e ∙ ap (λ t. first_fault_of_three_tests false t c x y z) f ∙ ap (λ t. first_fault_of_three_tests false false t x y z) g

definition_that_is_not_some_is_none : (o : Option PlacedDefinition) → is_some o ≡ false → o ≡ None
definition_that_is_not_some_is_none None e = refl
definition_that_is_not_some_is_none (Some d) e = absurd cc

-- Its name is defined before.
abbrev is_name_defined_before : List PlacedDefinition → PlacedDefinition → Bool
is_name_defined_before before d = is_some (first_definition_of d.kind d.def.name before)

-- As many of its kind as may be are defined before.
abbrev is_alias_limit_reached_before : List PlacedDefinition → PlacedDefinition → Bool
is_alias_limit_reached_before before d = nat_le alias_limit_of_each_kind (definition_count_of_kind d.kind before)

pub fault_of_definition_is_name_fault : (before : List PlacedDefinition) (d : PlacedDefinition) (fault : ReadFault) → fault_of_definition_name before d ≡ Some fault → IsFaultOfDefinitionName fault
unfolding fault_of_definition_name
fault_of_definition_is_name_fault before d fault e =
    subst (λ o. IfSome o IsFaultOfDefinitionName) e
    (first_of_three_name_faults_is_name_fault (is_reserved d.def.name) (is_name_defined_before before d) (is_alias_limit_reached_before before d) (Reserved d.kind d.def.name) (Duplicate d.kind d.def.name)
    (TooMany d.kind) tt tt tt)

-- A definition can stand after others exactly if it defines no reserved word, its name is new, and it is not one too many.
pub faultless_definition_is_new_and_within_limit : (before : List PlacedDefinition) (d : PlacedDefinition) → fault_of_definition_name before d ≡ None
    → HasUnreservedName d × (first_definition_of d.kind d.def.name before ≡ None) × (definition_count_of_kind d.kind before < alias_limit_of_each_kind)
unfolding fault_of_definition_name
faultless_definition_is_new_and_within_limit before d e =
    let three =
    no_fault_of_three_implies_tests_false (is_reserved d.def.name) (is_name_defined_before before d) (is_alias_limit_reached_before before d) (Reserved d.kind d.def.name) (Duplicate d.kind d.def.name)
    (TooMany d.kind) e in
    let test : nat_le alias_limit_of_each_kind (definition_count_of_kind d.kind before) ≡ false = three.2 in
    (three.0, definition_that_is_not_some_is_none (first_definition_of d.kind d.def.name before) three.1, grind (arith, nat_tests))

pub new_definition_within_limit_is_faultless : (before : List PlacedDefinition) (d : PlacedDefinition) → HasUnreservedName d → first_definition_of d.kind d.def.name before ≡ None
    → definition_count_of_kind d.kind before < alias_limit_of_each_kind → fault_of_definition_name before d ≡ None
unfolding fault_of_definition_name
new_definition_within_limit_is_faultless before d free new few =
    let test : nat_le alias_limit_of_each_kind (definition_count_of_kind d.kind before) ≡ false = grind (arith, nat_tests) in
    false_tests_imply_no_fault_of_three (is_reserved d.def.name) (is_name_defined_before before d) (is_alias_limit_reached_before before d) (Reserved d.kind d.def.name) (Duplicate d.kind d.def.name)
    (TooMany d.kind) free (ap is_some new) test

-- ---- what a policy's definitions are

definition_count_adds_over_append : (k : Kind) (ds es : List PlacedDefinition) → definition_count_of_kind k (ds ++ es) ≡ definition_count_of_kind k ds + definition_count_of_kind k es
definition_count_adds_over_append k ds es =
    let parts : length (entries_of_definitions k (ds ++ es)) ≡ length (entries_of_definitions k ds) + length (entries_of_definitions k es) =
    ap length (entries_of_appended_definitions_are_appended k ds es) ∙ length-append (entries_of_definitions k ds) (entries_of_definitions k es) in
    omega (arith, count_of_entries_is_count_of_definitions k (ds ++ es), count_of_entries_is_count_of_definitions k ds, count_of_entries_is_count_of_definitions k es, parts)

pub equal_kinds_are_same : (k j : Kind) → is_equal_kind k j ≡ true → k ≡ j
equal_kinds_are_same User User e = refl
equal_kinds_are_same Runas Runas e = refl
equal_kinds_are_same Host Host e = refl
equal_kinds_are_same Cmnd Cmnd e = refl
equal_kinds_are_same k j e = absurd cc

-- one more of a kind of which there are fewer than may be
next_definition_keeps_count_within_limit : (k : Kind) (before : List PlacedDefinition) (d : PlacedDefinition) → definition_count_of_kind d.kind before < alias_limit_of_each_kind → definition_count_of_kind k before ≤ alias_limit_of_each_kind
    → definition_count_of_kind k (before ++ d ∷ []) ≤ alias_limit_of_each_kind
next_definition_keeps_count_within_limit k before d less few = by (is_equal_kind k d.kind) refl
  where
    one : (t : Bool) → is_equal_kind k d.kind ≡ t → definition_count_of_kind k (d ∷ []) ≡ (if t then 1 else 0)
    one t e = ap (λ t. if t then 1 + 0 else 0) e

    by : (t : Bool) → is_equal_kind k d.kind ≡ t → definition_count_of_kind k (before ++ d ∷ []) ≤ alias_limit_of_each_kind
    by true e = omega (arith, definition_count_adds_over_append k before (d ∷ []), one true e, less, ap (λ j. definition_count_of_kind j before) (equal_kinds_are_same k d.kind e))
    by false e = omega (arith, definition_count_adds_over_append k before (d ∷ []), one false e, few)

faultless_definitions_keep_count_in_limit : (k : Kind) (before ds : List PlacedDefinition) → first_definition_fault before ds ≡ None → definition_count_of_kind k before ≤ alias_limit_of_each_kind
    → definition_count_of_kind k (before ++ ds) ≤ alias_limit_of_each_kind
faultless_definitions_keep_count_in_limit k before [] e few = subst (λ ds. definition_count_of_kind k ds ≤ alias_limit_of_each_kind) (sym (append-nil before)) few
faultless_definitions_keep_count_in_limit k before (d ∷ ds) e few =
    let both = no_first_fault_implies_neither_fault (fault_of_definition_name before d) (first_definition_fault (before ++ d ∷ []) ds) e in
    subst (λ xs. definition_count_of_kind k xs ≤ alias_limit_of_each_kind) (append_assoc before (d ∷ []) ds)
    (faultless_definitions_keep_count_in_limit k (before ++ d ∷ []) ds both.1 (next_definition_keeps_count_within_limit k before d (faultless_definition_is_new_and_within_limit before d both.0).2 few))

faultless_definitions_after_are_unreserved : (before ds : List PlacedDefinition) → first_definition_fault before ds ≡ None → AllByRecursion HasUnreservedName ds
faultless_definitions_after_are_unreserved before [] e = tt
faultless_definitions_after_are_unreserved before (d ∷ ds) e =
    let both = no_first_fault_implies_neither_fault (fault_of_definition_name before d) (first_definition_fault (before ++ d ∷ []) ds) e in
    ((faultless_definition_is_new_and_within_limit before d both.0).0, faultless_definitions_after_are_unreserved (before ++ d ∷ []) ds both.1)

-- If no definition has a fault, none defines a reserved word, no name is defined twice in a kind, and there are not too many of a kind.
pub faultless_definitions_are_unreserved : (ds : List PlacedDefinition) → first_definition_fault [] ds ≡ None → AllByRecursion HasUnreservedName ds
faultless_definitions_are_unreserved ds e = faultless_definitions_after_are_unreserved [] ds e

pub faultless_definitions_have_distinct_names : (ds : List PlacedDefinition) → first_definition_fault [] ds ≡ None → HaveDistinctNames ds
faultless_definitions_have_distinct_names ds e before after d is = (faultless_definition_is_new_and_within_limit before d (definitions_without_fault_are_sound ds e before after d is)).1

pub faultless_definitions_are_within_limit : (ds : List PlacedDefinition) → first_definition_fault [] ds ≡ None → (k : Kind) → definition_count_of_kind k ds ≤ alias_limit_of_each_kind
faultless_definitions_are_within_limit ds e k = faultless_definitions_keep_count_in_limit k [] ds e (omega arith)

middle_definition_is_unreserved : (before : List PlacedDefinition) (d : PlacedDefinition) (after : List PlacedDefinition) → AllByRecursion HasUnreservedName (before ++ d ∷ after) → HasUnreservedName d
middle_definition_is_unreserved [] d after free = free.0
middle_definition_is_unreserved (first ∷ before) d after free = middle_definition_is_unreserved before d after free.1

-- Such definitions are sound.
pub valid_definitions_are_sound : (ds : List PlacedDefinition) → AllByRecursion HasUnreservedName ds → HaveDistinctNames ds → ((k : Kind) → definition_count_of_kind k ds ≤ alias_limit_of_each_kind)
    → AreSoundDefinitions ds
valid_definitions_are_sound ds free once few before after d is =
    let rest = definition_count_of_kind d.kind after in
    let one : definition_count_of_kind d.kind (d ∷ after) ≡ 1 + rest = ap (λ t. if t then 1 + rest else rest) (kind_equals_itself d.kind) in
    new_definition_within_limit_is_faultless before d (middle_definition_is_unreserved before d after (subst (AllByRecursion HasUnreservedName) is free)) (once before after d is)
    (omega (arith, few d.kind, ap (definition_count_of_kind d.kind) is, definition_count_adds_over_append d.kind before (d ∷ after), one))
