-- Definitions of which some are left out: those that are left can stand.
use Rattle.sudoers_edit.proofs.Common.{AllByRecursion, Bool, Def, HasUnreservedName, HaveDistinctNames, Kind, List, Node, None, PlacedDefinition, Some, [], ap, ap₂, arith, bytes_eq, definition_count_of_kind}
use Rattle.sudoers_edit.proofs.Common.{definitions_from_place, definitions_in_line, false, first_definition_of, if◌then◌else◌, inl, inr, is_definition_of_name, is_equal_kind, is_reserved, refl, subst, sym, true, ℕ}
use Rattle.sudoers_edit.proofs.Common.{◌&&◌, ◌++◌, ◌+◌, ◌∙◌, ◌∷◌, ◌≡◌, ◌≤◌, ◌⊎◌}
use Rattle.std.specs.Prelude.{Option}
use Rattle.sudoers_grammar.specs.Node as node

-- The second are definitions of the first, in their order: each has the kind and the name of its own.
abbrev pub IsPartOfDefinitions : List PlacedDefinition → List PlacedDefinition → Type 0
IsPartOfDefinitions [] [] = Unit {0}
IsPartOfDefinitions [] (e ∷ es) = ⊥
IsPartOfDefinitions (d ∷ ds) [] = Unit {0}
IsPartOfDefinitions (d ∷ ds) (e ∷ es) = IsPartOfDefinitions ds (e ∷ es) ⊎ ((d.kind ≡ e.kind) × (d.def.name ≡ e.def.name) × IsPartOfDefinitions ds es)

-- ---- parts of lists

pub empty_list_is_part : (ds : List PlacedDefinition) → IsPartOfDefinitions ds []
empty_list_is_part [] = tt
empty_list_is_part (d ∷ ds) = tt

pub part_is_part_with_definition_before : (d : PlacedDefinition) (ds es : List PlacedDefinition) → IsPartOfDefinitions ds es → IsPartOfDefinitions (d ∷ ds) es
part_is_part_with_definition_before d ds [] p = tt
part_is_part_with_definition_before d ds (e ∷ es) p = inl p

pub joined_parts_are_part_of_joined : (ds es xs ys : List PlacedDefinition) → IsPartOfDefinitions ds es → IsPartOfDefinitions xs ys → IsPartOfDefinitions (ds ++ xs) (es ++ ys)
joined_parts_are_part_of_joined [] [] xs ys p q = q
joined_parts_are_part_of_joined [] (e ∷ es) xs ys p q = absurd p
joined_parts_are_part_of_joined (d ∷ ds) [] xs ys p q = part_is_part_with_definition_before d (ds ++ xs) ys (joined_parts_are_part_of_joined ds [] xs ys (empty_list_is_part ds) q)
joined_parts_are_part_of_joined (d ∷ ds) (e ∷ es) xs ys (inl p) q = inl (joined_parts_are_part_of_joined ds (e ∷ es) xs ys p q)
joined_parts_are_part_of_joined (d ∷ ds) (e ∷ es) xs ys (inr p) q = inr (p.0, p.1, joined_parts_are_part_of_joined ds es xs ys p.2 q)

-- the same definitions at other places
pub same_definitions_elsewhere_are_part : (k : Kind) (l m n o : ℕ) (ds : List Def) → IsPartOfDefinitions (definitions_from_place k l n ds) (definitions_from_place k m o ds)
same_definitions_elsewhere_are_part k l m n o [] = tt
same_definitions_elsewhere_are_part k l m n o (d ∷ ds) = inr (refl, refl, same_definitions_elsewhere_are_part k l m (n + 1) (o + 1) ds)

pub definitions_of_same_line_elsewhere_are_part : (l m : ℕ) (says : Node) → IsPartOfDefinitions (definitions_in_line l says) (definitions_in_line m says)
definitions_of_same_line_elsewhere_are_part l m (node.Alias k defs) = same_definitions_elsewhere_are_part k l m 0 0 defs
definitions_of_same_line_elsewhere_are_part l m node.Blank = tt
definitions_of_same_line_elsewhere_are_part l m node.Comment = tt
definitions_of_same_line_elsewhere_are_part l m (node.Include dir path) = tt
definitions_of_same_line_elsewhere_are_part l m (node.Defaults scope params) = tt
definitions_of_same_line_elsewhere_are_part l m (node.Spec users groups) = tt

-- ---- what is true of a part

pub part_keeps_unreserved_names : (ds es : List PlacedDefinition) → IsPartOfDefinitions ds es → AllByRecursion HasUnreservedName ds → AllByRecursion HasUnreservedName es
part_keeps_unreserved_names [] [] p f = tt
part_keeps_unreserved_names [] (e ∷ es) p f = absurd p
part_keeps_unreserved_names (d ∷ ds) [] p f = tt
part_keeps_unreserved_names (d ∷ ds) (e ∷ es) (inl p) f = part_keeps_unreserved_names ds (e ∷ es) p f.1
part_keeps_unreserved_names (d ∷ ds) (e ∷ es) (inr p) f = (subst (λ (n : List ℕ). is_reserved n ≡ false) p.1 f.0, part_keeps_unreserved_names ds es p.2 f.1)

counted_item_keeps_order_of_counts : (b : Bool) (m n : ℕ) → m ≤ n → (if b then 1 + m else m) ≤ (if b then 1 + n else n)
counted_item_keeps_order_of_counts true m n less = omega (arith, less)
counted_item_keeps_order_of_counts false m n less = less

uncounted_item_keeps_order_of_counts : (b : Bool) (m n : ℕ) → m ≤ n → m ≤ (if b then 1 + n else n)
uncounted_item_keeps_order_of_counts true m n less = omega (arith, less)
uncounted_item_keeps_order_of_counts false m n less = less

pub part_has_no_more_definitions_of_kind : (k : Kind) (ds es : List PlacedDefinition) → IsPartOfDefinitions ds es → definition_count_of_kind k es ≤ definition_count_of_kind k ds
part_has_no_more_definitions_of_kind k [] [] p = omega arith
part_has_no_more_definitions_of_kind k [] (e ∷ es) p = absurd p
part_has_no_more_definitions_of_kind k (d ∷ ds) [] p = omega arith
part_has_no_more_definitions_of_kind k (d ∷ ds) (e ∷ es) (inl p) = uncounted_item_keeps_order_of_counts (is_equal_kind k d.kind) (definition_count_of_kind k (e ∷ es)) (definition_count_of_kind k ds) (part_has_no_more_definitions_of_kind k ds (e ∷ es) p)
part_has_no_more_definitions_of_kind k (d ∷ ds) (e ∷ es) (inr p) =
    subst (λ (j : Kind). (if is_equal_kind k j then 1 + definition_count_of_kind k es else definition_count_of_kind k es) ≤ definition_count_of_kind k (d ∷ ds)) p.0
    (counted_item_keeps_order_of_counts (is_equal_kind k d.kind) (definition_count_of_kind k es) (definition_count_of_kind k ds) (part_has_no_more_definitions_of_kind k ds es p.2))

-- the definition of which one of a part is made, and those before it
record HasOriginInDefinitions (ds before : List PlacedDefinition) (e : PlacedDefinition) : Type 0 where
  front : List PlacedDefinition
  one : PlacedDefinition
  rest : List PlacedDefinition
  is : ds ≡ front ++ one ∷ rest
  kind : one.kind ≡ e.kind
  name : one.def.name ≡ e.def.name
  part : IsPartOfDefinitions front before

origin_of_part_is_found_behind_definition : (d : PlacedDefinition) (ds before longer : List PlacedDefinition) (e : PlacedDefinition) → (f : HasOriginInDefinitions ds before e) → IsPartOfDefinitions (d ∷ f.front) longer
    → HasOriginInDefinitions (d ∷ ds) longer e
origin_of_part_is_found_behind_definition d ds before longer e f part = record {
  front = d ∷ f.front;
  one = f.one;
  rest = f.rest;
  is = ap (λ xs. d ∷ xs) f.is;
  kind = f.kind;
  name = f.name;
  part = part;
}

definition_of_part_has_origin : (ds before : List PlacedDefinition) (e : PlacedDefinition) (after : List PlacedDefinition) → IsPartOfDefinitions ds (before ++ e ∷ after) → HasOriginInDefinitions ds before e
definition_of_part_has_origin [] [] e after p = absurd p
definition_of_part_has_origin [] (b ∷ before) e after p = absurd p
definition_of_part_has_origin (d ∷ ds) [] e after (inl p) = origin_of_part_is_found_behind_definition d ds [] [] e (definition_of_part_has_origin ds [] e after p) tt
definition_of_part_has_origin (d ∷ ds) [] e after (inr p) = record { front = []; one = d; rest = ds; is = refl; kind = p.0; name = p.1; part = tt }
definition_of_part_has_origin (d ∷ ds) (b ∷ before) e after (inl p) =
    let f = definition_of_part_has_origin ds (b ∷ before) e after p in
    origin_of_part_is_found_behind_definition d ds (b ∷ before) (b ∷ before) e f (inl f.part)
definition_of_part_has_origin (d ∷ ds) (b ∷ before) e after (inr p) =
    let f = definition_of_part_has_origin ds before e after p.2 in
    origin_of_part_is_found_behind_definition d ds before (b ∷ before) e f (inr (p.0, p.1, f.part))

missing_choice_implies_both_missing : (b : Bool) (d : PlacedDefinition) (o : Option PlacedDefinition) → (if b then Some d else o) ≡ None → (b ≡ false) × (o ≡ None)
missing_choice_implies_both_missing true d o h = absurd (cc)
missing_choice_implies_both_missing false d o h = (refl, h)

both_missing_imply_missing_choice : (b : Bool) (d : PlacedDefinition) (o : Option PlacedDefinition) → b ≡ false → o ≡ None → (if b then Some d else o) ≡ None
both_missing_imply_missing_choice true d o h g = absurd (cc)
both_missing_imply_missing_choice false d o h g = g

undefined_name_is_undefined_in_part : (k : Kind) (name : List ℕ) (ds es : List PlacedDefinition) → IsPartOfDefinitions ds es → first_definition_of k name ds ≡ None → first_definition_of k name es ≡ None
undefined_name_is_undefined_in_part k name [] [] p none = refl
undefined_name_is_undefined_in_part k name [] (e ∷ es) p none = absurd p
undefined_name_is_undefined_in_part k name (d ∷ ds) [] p none = refl
undefined_name_is_undefined_in_part k name (d ∷ ds) (e ∷ es) (inl p) none = undefined_name_is_undefined_in_part k name ds (e ∷ es) p (missing_choice_implies_both_missing (is_definition_of_name k name d) d (first_definition_of k name ds) none).1
undefined_name_is_undefined_in_part k name (d ∷ ds) (e ∷ es) (inr p) none =
    let both = missing_choice_implies_both_missing (is_definition_of_name k name d) d (first_definition_of k name ds) none in
    both_missing_imply_missing_choice (is_definition_of_name k name e) e (first_definition_of k name es)
    (ap₂ (λ (j : Kind) (n : List ℕ). is_equal_kind k j && bytes_eq name n) (sym p.0) (sym p.1) ∙ both.0)
    (undefined_name_is_undefined_in_part k name ds es p.2 both.1)

pub part_keeps_distinct_names : (ds es : List PlacedDefinition) → IsPartOfDefinitions ds es → HaveDistinctNames ds → HaveDistinctNames es
part_keeps_distinct_names ds es p once before after e is =
    let f = definition_of_part_has_origin ds before e after (subst (IsPartOfDefinitions ds) is p) in
    undefined_name_is_undefined_in_part e.kind e.def.name f.front before f.part
    (ap₂ (λ (k : Kind) (n : List ℕ). first_definition_of k n f.front) (sym f.kind) (sym f.name) ∙ once f.front f.rest f.one f.is)
