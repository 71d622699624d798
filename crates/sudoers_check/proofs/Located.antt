-- The numbers of definitions, by their places.
use Rattle.sudoers_check.proofs.Common.{AliasLineFirstNumber, AreValidWalkLines, Cmnd, Def, Host, Kind, Line, List, ListHasElement, Node, None, Option, PlacedDefinition, Runas, Some, User, [], alias_line_if_any}
use Rattle.sudoers_check.proofs.Common.{alias_lines_of_lines_numbered_from, ap, ap₂, arith, cases_eq, cases_lt, definition_count_in_node, definition_count_of_kind, definition_place_of_name, definitions_from_line_number}
use Rattle.sudoers_check.proofs.Common.{definitions_from_place, definitions_in_line, definitions_of_lines, false, first_definition_of, get_or, get_or_from_slice_get, if◌then◌else◌, inl, inr, is_definition_of_name}
use Rattle.sudoers_check.proofs.Common.{is_equal_kind, length, length-append, number_of_definition, option_map, refl, slice_get, slice_get-get_or, slice_get_within, subst, suc, sym, true, zero, ℕ, ◌++◌, ◌+◌, ◌<◌}
use Rattle.sudoers_check.proofs.Common.{◌∙◌, ◌∷◌, ◌≡◌, ◌≢◌, ◌≤◌}
use Rattle.sudoers_grammar.specs.Node as node
use Rattle.sudoers_tree.specs.declared.place.Place.{Place}
use Rattle.sudoers_check.proofs.Lists.{place_of as Has_place}
use Rattle.sudoers_check.proofs.Named.{element_of_back_is_in_appended}

-- HOW MANY

pub placed_definition_count_is_definition_count : (k : Kind) (line n : ℕ) (ds : List Def) → length (definitions_from_place k line n ds) ≡ length ds
placed_definition_count_is_definition_count k line n [] = refl
placed_definition_count_is_definition_count k line n (d ∷ ds) = ap suc (placed_definition_count_is_definition_count k line (n + 1) ds)

pub definitions_in_line_are_counted_by_node : (line : ℕ) (n : Node) → length (definitions_in_line line n) ≡ definition_count_in_node n
definitions_in_line_are_counted_by_node line (node.Alias k defs) = placed_definition_count_is_definition_count k line 0 defs
definitions_in_line_are_counted_by_node line node.Blank = refl
definitions_in_line_are_counted_by_node line node.Comment = refl
definitions_in_line_are_counted_by_node line (node.Include dir path) = refl
definitions_in_line_are_counted_by_node line (node.Defaults scope params) = refl
definitions_in_line_are_counted_by_node line (node.Spec users groups) = refl

-- how many definitions lines have
abbrev pub definition_count_in_lines : List Line → ℕ
definition_count_in_lines [] = 0
definition_count_in_lines (line ∷ lines) = definition_count_in_node line.node + definition_count_in_lines lines

pub definitions_from_lines_have_total_count : (n : ℕ) (lines : List Line) → length (definitions_from_line_number n lines) ≡ definition_count_in_lines lines
definitions_from_lines_have_total_count n [] = refl
definitions_from_lines_have_total_count n (line ∷ lines) =
    let e = length-append (definitions_in_line n line.node) (definitions_from_line_number (n + 1) lines) in
    e ∙ ap₂ (λ x y. x + y) (definitions_in_line_are_counted_by_node n line.node) (definitions_from_lines_have_total_count (n + 1) lines)

definition_of_kind_raises_sum_of_counts : (k : Kind) (n u r h c : ℕ) → n ≡ u + r + h + c
    → suc n ≡ (if is_equal_kind User k then 1 + u else u) + (if is_equal_kind Runas k then 1 + r else r) + (if is_equal_kind Host k then 1 + h else h) + (if is_equal_kind Cmnd k then 1 + c else c)
definition_of_kind_raises_sum_of_counts User n u r h c e = omega (arith, e)
definition_of_kind_raises_sum_of_counts Runas n u r h c e = omega (arith, e)
definition_of_kind_raises_sum_of_counts Host n u r h c e = omega (arith, e)
definition_of_kind_raises_sum_of_counts Cmnd n u r h c e = omega (arith, e)

-- each is of one kind
definition_count_is_sum_over_kinds : (ds : List PlacedDefinition) → length ds ≡ definition_count_of_kind User ds + definition_count_of_kind Runas ds + definition_count_of_kind Host ds + definition_count_of_kind Cmnd ds
definition_count_is_sum_over_kinds [] = refl
definition_count_is_sum_over_kinds (d ∷ ds) = definition_of_kind_raises_sum_of_counts d.kind (length ds) (definition_count_of_kind User ds) (definition_count_of_kind Runas ds) (definition_count_of_kind Host ds) (definition_count_of_kind Cmnd ds) (definition_count_is_sum_over_kinds ds)

pub definitions_of_valid_lines_are_limited : (lines : List Line) → AreValidWalkLines lines → length (definitions_of_lines lines) ≤ 16384
definitions_of_valid_lines_are_limited lines walk =
    omega (arith, definition_count_is_sum_over_kinds (definitions_of_lines lines), walk.few User, walk.few Runas, walk.few Host, walk.few Cmnd)

pub definition_count_in_valid_lines_is_limited : (lines : List Line) → AreValidWalkLines lines → definition_count_in_lines lines ≤ 16384
definition_count_in_valid_lines_is_limited lines walk = omega (arith, definitions_of_valid_lines_are_limited lines walk, definitions_from_lines_have_total_count 0 lines)

-- WHICH

-- The definition at this place is the one with this number, where so many stand before these lines, the first of which has number n.
pub record IsPlaceOfNumberedDefinition (s n : ℕ) (lines : List Line) (p : Place) (i : ℕ) : Type 0 where
  pub number : ℕ
  pub first : ListHasElement (alias_lines_of_lines_numbered_from n s lines) (record { line = p.line; number = number })
  pub sum : number + p.def ≡ s + i
  pub small : i < definition_count_in_lines lines

line_with_definitions_leads_alias_lines : (n s many : ℕ) (rest : List AliasLineFirstNumber) → 0 < many → ListHasElement (alias_line_if_any n s many ++ rest) (record { line = n; number = s })
line_with_definitions_leads_alias_lines n s zero rest h = absurd (omega arith)
line_with_definitions_leads_alias_lines n s (suc many) rest h = inl refl

-- the definition that is found among those of a line
record IsDefinitionOfLineAtIndex (line m : ℕ) (defs : List Def) (d : PlacedDefinition) (i : ℕ) : Type 0 where
  on : d.place.line ≡ line
  at : d.place.def ≡ m + i
  within : i < length defs

-- What is found, and its number.
abbrev AreFoundAndNumberRelated : (PlacedDefinition → ℕ → Type 0) → Option PlacedDefinition → Option ℕ → Type 0
AreFoundAndNumberRelated At None None = Unit {0}
AreFoundAndNumberRelated At None (Some i) = ⊥
AreFoundAndNumberRelated At (Some d) None = ⊥
AreFoundAndNumberRelated At (Some d) (Some i) = At d i

found_relation_maps_number : (P Q : PlacedDefinition → ℕ → Type 0) (f : ℕ → ℕ) (o : Option PlacedDefinition) (number : Option ℕ) → ((d : PlacedDefinition) (i : ℕ) → P d i → Q d (f i)) → AreFoundAndNumberRelated P o number → AreFoundAndNumberRelated Q o (option_map f number)
found_relation_maps_number P Q f None None h found = tt
found_relation_maps_number P Q f None (Some i) h found = found
found_relation_maps_number P Q f (Some d) None h found = found
found_relation_maps_number P Q f (Some d) (Some i) h found = h d i found

found_relation_is_weakened : (P Q : PlacedDefinition → ℕ → Type 0) (o : Option PlacedDefinition) (number : Option ℕ) → ((d : PlacedDefinition) (i : ℕ) → P d i → Q d i) → AreFoundAndNumberRelated P o number → AreFoundAndNumberRelated Q o number
found_relation_is_weakened P Q None None h found = tt
found_relation_is_weakened P Q None (Some i) h found = found
found_relation_is_weakened P Q (Some d) None h found = found
found_relation_is_weakened P Q (Some d) (Some i) h found = h d i found

definition_found_in_line_has_its_number : (k : Kind) (name : List ℕ) (j : Kind) (line m : ℕ) (defs : List Def)
    → AreFoundAndNumberRelated (IsDefinitionOfLineAtIndex line m defs) (first_definition_of k name (definitions_from_place j line m defs)) (number_of_definition k name (definitions_from_place j line m defs))
definition_found_in_line_has_its_number k name j line m [] = tt
definition_found_in_line_has_its_number k name j line m (d ∷ ds) =
    elim (is_definition_of_name k name (record { kind = j; place = record { line = line; def = m }; def = d })) as (λ b.
    AreFoundAndNumberRelated (IsDefinitionOfLineAtIndex line m (d ∷ ds)) (if b then Some (record { kind = j; place = record { line = line; def = m }; def = d }) else first_definition_of k name (definitions_from_place j line (m + 1) ds))
    (if b then Some 0 else option_map suc (number_of_definition k name (definitions_from_place j line (m + 1) ds)))) [
      | true ↦ record { on = refl; at = omega arith; within = omega arith }
      | false ↦ found_relation_maps_number (IsDefinitionOfLineAtIndex line (m + 1) ds) (IsDefinitionOfLineAtIndex line m (d ∷ ds)) suc (first_definition_of k name (definitions_from_place j line (m + 1) ds)) (number_of_definition k name (definitions_from_place j line (m + 1) ds))
          (λ x i is. record { on = is.on; at = omega (arith, is.at); within = omega (arith, is.within) }) (definition_found_in_line_has_its_number k name j line (m + 1) ds)
    ]

-- among definitions one after another
abbrev first_some_of_two : {A : Type 0} → Option A → Option A → Option A
first_some_of_two (Some x) other = Some x
first_some_of_two None other = other

first_definition_of_appended_is_first_some : (k : Kind) (name : List ℕ) (xs ys : List PlacedDefinition) → first_definition_of k name (xs ++ ys) ≡ first_some_of_two (first_definition_of k name xs) (first_definition_of k name ys)
first_definition_of_appended_is_first_some k name [] ys = refl
first_definition_of_appended_is_first_some k name (x ∷ xs) ys = elim (is_definition_of_name k name x) as (λ b. (if b then Some x else first_definition_of k name (xs ++ ys)) ≡ first_some_of_two (if b then Some x else first_definition_of k name xs) (first_definition_of k name ys)) [
  | true ↦ refl
  | false ↦ first_definition_of_appended_is_first_some k name xs ys
]

abbrev pub number_or_shifted_number : ℕ → Option ℕ → Option ℕ → Option ℕ
number_or_shifted_number n (Some i) other = Some i
number_or_shifted_number n None other = option_map (λ i. n + i) other

successor_maps_number_or_shifted : (n : ℕ) (o other : Option ℕ) → option_map suc (number_or_shifted_number n o other) ≡ number_or_shifted_number (suc n) (option_map suc o) other
successor_maps_number_or_shifted n (Some i) other = refl
successor_maps_number_or_shifted n None None = refl
successor_maps_number_or_shifted n None (Some i) = ap (λ x. Some x) (omega arith)

pub number_in_appended_definitions_is_shifted : (k : Kind) (name : List ℕ) (xs ys : List PlacedDefinition) → number_of_definition k name (xs ++ ys) ≡ number_or_shifted_number (length xs) (number_of_definition k name xs) (number_of_definition k name ys)
number_in_appended_definitions_is_shifted k name [] ys = same (number_of_definition k name ys)
  where
    same : (o : Option ℕ) → o ≡ option_map (λ i. 0 + i) o
    same None = refl
    same (Some i) = ap (λ n. Some n) (omega arith)
number_in_appended_definitions_is_shifted k name (x ∷ xs) ys = elim (is_definition_of_name k name x) as (λ b. (if b then Some 0 else option_map suc (number_of_definition k name (xs ++ ys))) ≡ number_or_shifted_number (suc (length xs)) (if b then Some 0 else option_map suc (number_of_definition k name xs)) (number_of_definition k name ys)) [
  | true ↦ refl
  | false ↦ ap (option_map suc) (number_in_appended_definitions_is_shifted k name xs ys) ∙ successor_maps_number_or_shifted (length xs) (number_of_definition k name xs) (number_of_definition k name ys)
]

found_relation_holds_over_appended : (P Q R : PlacedDefinition → ℕ → Type 0) (n : ℕ) (x y : Option PlacedDefinition) (a b : Option ℕ) → AreFoundAndNumberRelated P x a → AreFoundAndNumberRelated Q y b → ((d : PlacedDefinition) (i : ℕ) → P d i → R d i)
    → ((d : PlacedDefinition) (i : ℕ) → Q d i → R d (n + i)) → AreFoundAndNumberRelated R (first_some_of_two x y) (number_or_shifted_number n a b)
found_relation_holds_over_appended P Q R n (Some d) y (Some i) b p q h g = h d i p
found_relation_holds_over_appended P Q R n (Some d) y None b p q h g = absurd p
found_relation_holds_over_appended P Q R n None y (Some i) b p q h g = absurd p
found_relation_holds_over_appended P Q R n None y None b p q h g = found_relation_maps_number Q R (λ i. n + i) y b g q

definition_found_in_node_has_its_place : (k : Kind) (name : List ℕ) (s n : ℕ) (line : Line) (lines : List Line) → AreFoundAndNumberRelated (λ d i. IsPlaceOfNumberedDefinition s n (line ∷ lines) d.place i) (first_definition_of k name (definitions_in_line n line.node)) (number_of_definition k name (definitions_in_line n line.node))
definition_found_in_node_has_its_place k name s n line lines = by_node line.node refl
  where
    by_node : (x : Node) → line.node ≡ x → AreFoundAndNumberRelated (λ d i. IsPlaceOfNumberedDefinition s n (line ∷ lines) d.place i) (first_definition_of k name (definitions_in_line n x)) (number_of_definition k name (definitions_in_line n x))
    by_node (node.Alias j defs) e =
        found_relation_is_weakened (IsDefinitionOfLineAtIndex n 0 defs) (λ d i. IsPlaceOfNumberedDefinition s n (line ∷ lines) d.place i) (first_definition_of k name (definitions_from_place j n 0 defs)) (number_of_definition k name (definitions_from_place j n 0 defs))
        (λ d i is. let few : definition_count_in_node line.node ≡ length defs = ap definition_count_in_node e in record {
          number = s;
          first = subst (λ l. ListHasElement (alias_lines_of_lines_numbered_from n s (line ∷ lines)) (record { line = l; number = s })) (sym is.on)
              (line_with_definitions_leads_alias_lines n s (definition_count_in_node line.node) (alias_lines_of_lines_numbered_from (n + 1) (s + definition_count_in_node line.node) lines) (omega (arith, is.within, few)));
          sum = omega (arith, is.at);
          small = omega (arith, is.within, few);
        }) (definition_found_in_line_has_its_number k name j n 0 defs)
    by_node node.Blank e = tt
    by_node node.Comment e = tt
    by_node (node.Include dir path) e = tt
    by_node (node.Defaults scope params) e = tt
    by_node (node.Spec users groups) e = tt

pub definition_found_in_lines_has_its_place : (k : Kind) (name : List ℕ) (s n : ℕ) (lines : List Line) → AreFoundAndNumberRelated (λ d i. IsPlaceOfNumberedDefinition s n lines d.place i) (first_definition_of k name (definitions_from_line_number n lines)) (number_of_definition k name (definitions_from_line_number n lines))
definition_found_in_lines_has_its_place k name s n [] = tt
definition_found_in_lines_has_its_place k name s n (line ∷ lines) =
    let count : length (definitions_in_line n line.node) ≡ definition_count_in_node line.node = definitions_in_line_are_counted_by_node n line.node in
    let both = found_relation_holds_over_appended (λ d i. IsPlaceOfNumberedDefinition s n (line ∷ lines) d.place i) (λ d i. IsPlaceOfNumberedDefinition (s + definition_count_in_node line.node) (n + 1) lines d.place i) (λ d i. IsPlaceOfNumberedDefinition s n (line ∷ lines) d.place i)
    (length (definitions_in_line n line.node)) (first_definition_of k name (definitions_in_line n line.node)) (first_definition_of k name (definitions_from_line_number (n + 1) lines))
    (number_of_definition k name (definitions_in_line n line.node)) (number_of_definition k name (definitions_from_line_number (n + 1) lines))
    (definition_found_in_node_has_its_place k name s n line lines) (definition_found_in_lines_has_its_place k name (s + definition_count_in_node line.node) (n + 1) lines) (λ d i is. is)
    (λ d i is. record {
      number = is.number;
      first = element_of_back_is_in_appended (alias_line_if_any n s (definition_count_in_node line.node)) (alias_lines_of_lines_numbered_from (n + 1) (s + definition_count_in_node line.node) lines) (record { line = d.place.line; number = is.number }) is.first;
      sum = omega (arith, is.sum, count);
      small = omega (arith, is.small, count);
    }) in
    subst (λ o. AreFoundAndNumberRelated (λ d i. IsPlaceOfNumberedDefinition s n (line ∷ lines) d.place i) o (number_of_definition k name (definitions_from_line_number n (line ∷ lines)))) (sym (first_definition_of_appended_is_first_some k name (definitions_in_line n line.node) (definitions_from_line_number (n + 1) lines)))
    (subst (λ o. AreFoundAndNumberRelated (λ d i. IsPlaceOfNumberedDefinition s n (line ∷ lines) d.place i) (first_some_of_two (first_definition_of k name (definitions_in_line n line.node)) (first_definition_of k name (definitions_from_line_number (n + 1) lines))) o)
    (sym (number_in_appended_definitions_is_shifted k name (definitions_in_line n line.node) (definitions_from_line_number (n + 1) lines))) both)

-- A name that is defined nowhere has no number.
pub undefined_name_has_no_number : (k : Kind) (name : List ℕ) (lines : List Line) → definition_place_of_name k name lines ≡ None → number_of_definition k name (definitions_of_lines lines) ≡ None
undefined_name_has_no_number k name lines e = by (first_definition_of k name (definitions_of_lines lines)) (number_of_definition k name (definitions_of_lines lines)) (definition_found_in_lines_has_its_place k name 0 0 lines) e
  where
    by : (o : Option PlacedDefinition) (number : Option ℕ) → AreFoundAndNumberRelated (λ d i. IsPlaceOfNumberedDefinition 0 0 lines d.place i) o number → option_map (λ (d : PlacedDefinition). d.place) o ≡ None → number ≡ None
    by None None found e = refl
    by None (Some i) found e = absurd found
    by (Some d) number found e = absurd cc

-- A name that is defined at this place has a number, which its place tells.
pub defined_name_has_number_of_its_place : (k : Kind) (name : List ℕ) (lines : List Line) (p : Place) → definition_place_of_name k name lines ≡ Some p
    → (i : ℕ) × (number_of_definition k name (definitions_of_lines lines) ≡ Some i) × IsPlaceOfNumberedDefinition 0 0 lines p i
defined_name_has_number_of_its_place k name lines p e = by (first_definition_of k name (definitions_of_lines lines)) (number_of_definition k name (definitions_of_lines lines)) (definition_found_in_lines_has_its_place k name 0 0 lines) e
  where
    some_same : (x y : Place) → Some x ≡ Some y → x ≡ y
    some_same x y e = ap (λ o. from o) e
      where
        from : Option Place → Place
        from None = x
        from (Some z) = z

    by : (o : Option PlacedDefinition) (number : Option ℕ) → AreFoundAndNumberRelated (λ d i. IsPlaceOfNumberedDefinition 0 0 lines d.place i) o number → option_map (λ (d : PlacedDefinition). d.place) o ≡ Some p
        → (i : ℕ) × (number ≡ Some i) × IsPlaceOfNumberedDefinition 0 0 lines p i
    by None number found e = absurd cc
    by (Some d) None found e = absurd found
    by (Some d) (Some i) found e = (i, refl, subst (λ x. IsPlaceOfNumberedDefinition 0 0 lines x i) (some_same d.place p e) found)

-- ---- lines in rising order

-- the lines stand in rising order, each once, behind those before
alias_lines_from_number_are_not_before : (n s : ℕ) (lines : List Line) (k : ℕ) (x : AliasLineFirstNumber) → slice_get (alias_lines_of_lines_numbered_from n s lines) k ≡ Some x → n ≤ x.line
alias_lines_from_number_are_not_before n s [] k x at = absurd cc
alias_lines_from_number_are_not_before n s (line ∷ lines) k x at = by (definition_count_in_node line.node) (alias_lines_from_number_are_not_before (n + 1) (s + definition_count_in_node line.node) lines) k at
  where
    by : (many : ℕ) → ((j : ℕ) (y : AliasLineFirstNumber) → slice_get (alias_lines_of_lines_numbered_from (n + 1) (s + definition_count_in_node line.node) lines) j ≡ Some y → n + 1 ≤ y.line)
        → (j : ℕ) → slice_get (alias_line_if_any n s many ++ alias_lines_of_lines_numbered_from (n + 1) (s + definition_count_in_node line.node) lines) j ≡ Some x → n ≤ x.line
    by zero rest j e = omega (arith, rest j x e)
    by (suc many) rest zero e = let same : record { line = n; number = s } ≡ x = cc in omega (arith, ap (λ (y : AliasLineFirstNumber). y.line) same)
    by (suc many) rest (suc j) e = omega (arith, rest j x e)

pub alias_lines_are_strictly_ascending : (n s : ℕ) (lines : List Line) (i j : ℕ) (x y : AliasLineFirstNumber) → slice_get (alias_lines_of_lines_numbered_from n s lines) i ≡ Some x → slice_get (alias_lines_of_lines_numbered_from n s lines) j ≡ Some y → i < j → x.line < y.line
alias_lines_are_strictly_ascending n s [] i j x y at to h = absurd cc
alias_lines_are_strictly_ascending n s (line ∷ lines) i j x y at to h =
    by (definition_count_in_node line.node) (alias_lines_are_strictly_ascending (n + 1) (s + definition_count_in_node line.node) lines) (alias_lines_from_number_are_not_before (n + 1) (s + definition_count_in_node line.node) lines) i j at to h
  where
    by : (many : ℕ)
        → ((i j : ℕ) (x y : AliasLineFirstNumber) → slice_get (alias_lines_of_lines_numbered_from (n + 1) (s + definition_count_in_node line.node) lines) i ≡ Some x → slice_get (alias_lines_of_lines_numbered_from (n + 1) (s + definition_count_in_node line.node) lines) j ≡ Some y → i < j → x.line < y.line)
        → ((j : ℕ) (y : AliasLineFirstNumber) → slice_get (alias_lines_of_lines_numbered_from (n + 1) (s + definition_count_in_node line.node) lines) j ≡ Some y → n + 1 ≤ y.line)
        → (i j : ℕ) → slice_get (alias_line_if_any n s many ++ alias_lines_of_lines_numbered_from (n + 1) (s + definition_count_in_node line.node) lines) i ≡ Some x
        → slice_get (alias_line_if_any n s many ++ alias_lines_of_lines_numbered_from (n + 1) (s + definition_count_in_node line.node) lines) j ≡ Some y → i < j → x.line < y.line
    by zero rest number_or_shifted_number i j e f h = rest i j x y e f h
    by (suc many) rest number_or_shifted_number i zero e f h = absurd (omega arith)
    by (suc many) rest number_or_shifted_number zero (suc j) e f h = let same : record { line = n; number = s } ≡ x = cc in omega (arith, ap (λ (z : AliasLineFirstNumber). z.line) same, number_or_shifted_number j y f)
    by (suc many) rest number_or_shifted_number (suc i) (suc j) e f h = rest i j x y e f (omega arith)

pub alias_line_numbers_ascend_with_index : (lines : List Line) (firsts : List AliasLineFirstNumber) → firsts ≡ alias_lines_of_lines_numbered_from 0 0 lines → (i j : ℕ) (d : AliasLineFirstNumber) → i ≤ j → j < length firsts
    → (get_or firsts i d).line ≤ (get_or firsts j d).line
alias_line_numbers_ascend_with_index lines firsts are i j d le h = elim (cases_lt i j) [
  | inl l ↦
      let x = slice_get-get_or firsts i d (omega (arith, l, h)) in
      let y = slice_get-get_or firsts j d h in
      omega (arith, alias_lines_are_strictly_ascending 0 0 lines i j (get_or firsts i d) (get_or firsts j d) (ap (λ xs. slice_get xs i) (sym are) ∙ x) (ap (λ xs. slice_get xs j) (sym are) ∙ y) l)
  | inr l ↦ let same : i ≡ j = omega (arith, l) in omega (arith, ap (λ k. (get_or firsts k d).line) same)
]

-- a place among them is that of its line
first_number_at_line_is_unique : (lines : List Line) (firsts : List AliasLineFirstNumber) → firsts ≡ alias_lines_of_lines_numbered_from 0 0 lines → (at : ℕ) (d x : AliasLineFirstNumber) → at < length firsts → (get_or firsts at d).line ≡ x.line
    → ListHasElement (alias_lines_of_lines_numbered_from 0 0 lines) x → (get_or firsts at d).number ≡ x.number
first_number_at_line_is_unique lines firsts are at d x h e stands =
    let place = Has_place (alias_lines_of_lines_numbered_from 0 0 lines) x stands in
    let here : slice_get (alias_lines_of_lines_numbered_from 0 0 lines) at ≡ Some (get_or firsts at d) = ap (λ xs. slice_get xs at) (sym are) ∙ slice_get-get_or firsts at d h in
    let same : place.0 ≡ at = elim (cases_eq place.0 at) [
      | inl q ↦ q
      | inr q ↦ elim (cases_lt place.0 at) [
        | inl l ↦ let less = alias_lines_are_strictly_ascending 0 0 lines place.0 at x (get_or firsts at d) place.1 here l in absurd (omega (arith, less, e))
        | inr l ↦ let less = alias_lines_are_strictly_ascending 0 0 lines at place.0 (get_or firsts at d) x here place.1 (omega (arith, l, q)) in absurd (omega (arith, less, e))
      ]
    ] in
    let two : Some (get_or firsts at d) ≡ Some x = sym here ∙ ap (slice_get (alias_lines_of_lines_numbered_from 0 0 lines)) (sym same) ∙ place.1 in
    let is : get_or firsts at d ≡ x = cc in
    ap (λ (y : AliasLineFirstNumber). y.number) is

-- A line that has a definition is among them.
pub line_of_definition_is_among_alias_lines : (k : Kind) (name : List ℕ) (lines : List Line) (p : Place) (firsts : List AliasLineFirstNumber) → firsts ≡ alias_lines_of_lines_numbered_from 0 0 lines → definition_place_of_name k name lines ≡ Some p
    → ((i : ℕ) (d : AliasLineFirstNumber) → i < length firsts → (get_or firsts i d).line ≢ p.line) → ⊥
line_of_definition_is_among_alias_lines k name lines p firsts are e none =
    let n = defined_name_has_number_of_its_place k name lines p e in
    let x : AliasLineFirstNumber = record { line = p.line; number = n.2.number } in
    let place = Has_place (alias_lines_of_lines_numbered_from 0 0 lines) x n.2.first in
    let at : slice_get firsts place.0 ≡ Some x = ap (λ xs. slice_get xs place.0) are ∙ place.1 in
    none place.0 x (slice_get_within firsts place.0 x at) (ap (λ (y : AliasLineFirstNumber). y.line) (get_or_from_slice_get firsts place.0 x x at))

-- What is told of a name that is defined at this place.
pub definition_number_is_told_by_line : (k : Kind) (name : List ℕ) (lines : List Line) (p : Place) (firsts : List AliasLineFirstNumber) (at : ℕ) (first : AliasLineFirstNumber) → firsts ≡ alias_lines_of_lines_numbered_from 0 0 lines → definition_place_of_name k name lines ≡ Some p
    → at < length firsts → ((d : AliasLineFirstNumber) → (get_or firsts at d).line ≡ p.line) → first ≡ get_or firsts at first
    → (number_of_definition k name (definitions_of_lines lines) ≡ Some (first.number + p.def)) × (first.number + p.def < definition_count_in_lines lines)
definition_number_is_told_by_line k name lines p firsts at first are e within line is =
    let n = defined_name_has_number_of_its_place k name lines p e in
    let same : (get_or firsts at first).number ≡ n.2.number = first_number_at_line_is_unique lines firsts are at first (record { line = p.line; number = n.2.number }) within (line first) n.2.first in
    let sum : first.number + p.def ≡ n.0 = omega (arith, same, n.2.sum, ap (λ (y : AliasLineFirstNumber). y.number) is) in
    (n.1 ∙ ap (λ i. Some i) (sym sum), omega (arith, sum, n.2.small))
