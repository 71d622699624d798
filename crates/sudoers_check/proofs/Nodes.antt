-- The graph of the definitions.
use Rattle.sudoers_check.proofs.Common.{AllByRecursion, AreNodesOfGraph, Atom, Bool, Def, HasAllEdgeTargetsInGraph, Kind, Line, List, Member, Mention, None, Option, PlacedDefinition, Some, [], alias_member_of_atom}
use Rattle.sudoers_check.proofs.Common.{alias_names_among_members, alias_names_of_atom, aliases_among_listed, ap, arith, cons_option, definitions_from_place, false, graph_nodes_of_definitions, if◌then◌else◌}
use Rattle.sudoers_check.proofs.Common.{is_definition_of_name, is_spec_or_defaults_line_node, length, map, map-append, members_listed_as_kind, mention_graph_of_definitions, mentions_in_node, number_of_definition}
use Rattle.sudoers_check.proofs.Common.{numbers_of_defined_aliases, numbers_of_defined_mentions, numbers_of_defined_names, option_map, refl, root_numbers_in_lines_numbered_from, suc, true, ℕ, ◌++◌, ◌+◌, ◌<◌, ◌∷◌, ◌≡◌}
use Rattle.sudoers_grammar.specs.declared.node.Atom.TheVariants as atom

-- ---- those of a line

pub graph_nodes_from_place_are_mentioned_numbers : (ds : List PlacedDefinition) (k : Kind) (line n : ℕ) (defs : List Def)
    → graph_nodes_of_definitions ds (definitions_from_place k line n defs) ≡ map (λ (d : Def). numbers_of_defined_names k (alias_names_among_members d.members) ds) defs
graph_nodes_from_place_are_mentioned_numbers ds k line n [] = refl
graph_nodes_from_place_are_mentioned_numbers ds k line n (d ∷ defs) = ap (λ rest. numbers_of_defined_names k (alias_names_among_members d.members) ds ∷ rest) (graph_nodes_from_place_are_mentioned_numbers ds k line (n + 1) defs)

pub graph_nodes_of_appended_are_appended : (ds xs ys : List PlacedDefinition) → graph_nodes_of_definitions ds (xs ++ ys) ≡ graph_nodes_of_definitions ds xs ++ graph_nodes_of_definitions ds ys
graph_nodes_of_appended_are_appended ds xs ys = map-append (λ (d : PlacedDefinition). numbers_of_defined_names d.kind (alias_names_among_members d.def.members) ds) xs ys

-- the numbers of the aliases of a list
pub numbers_of_listed_aliases_are_of_names : (ds : List PlacedDefinition) (k : Kind) (members : List Member)
    → numbers_of_defined_aliases ds (aliases_among_listed (members_listed_as_kind k members)) ≡ numbers_of_defined_names k (alias_names_among_members members) ds
numbers_of_listed_aliases_are_of_names ds k [] = refl
numbers_of_listed_aliases_are_of_names ds k (m ∷ members) = by m.atom (numbers_of_listed_aliases_are_of_names ds k members)
  where
    by : (a : Atom) → numbers_of_defined_aliases ds (aliases_among_listed (members_listed_as_kind k members)) ≡ numbers_of_defined_names k (alias_names_among_members members) ds
        → numbers_of_defined_aliases ds (alias_member_of_atom k m a ++ aliases_among_listed (members_listed_as_kind k members)) ≡ numbers_of_defined_names k (alias_names_of_atom a ++ alias_names_among_members members) ds
    by (atom.Alias name) rest = ap (cons_option (number_of_definition k name ds)) rest
    by other rest = rest

-- ---- numbers are those of nodes

pub equal_some_numbers_are_equal : (x y : ℕ) → Some x ≡ Some y → x ≡ y
equal_some_numbers_are_equal x y e = ap (λ (o : Option ℕ). from o) e
  where
    from : Option ℕ → ℕ
    from None = x
    from (Some z) = z

pub number_of_definition_is_below_count : (k : Kind) (name : List ℕ) (ds : List PlacedDefinition) (i : ℕ) → number_of_definition k name ds ≡ Some i → i < length ds
number_of_definition_is_below_count k name [] i e = absurd cc
number_of_definition_is_below_count k name (d ∷ ds) i e = by (is_definition_of_name k name d) (number_of_definition k name ds) (number_of_definition_is_below_count k name ds) i e
  where
    by : (b : Bool) (o : Option ℕ) → ((j : ℕ) → o ≡ Some j → j < length ds) → (j : ℕ) → (if b then Some 0 else option_map suc o) ≡ Some j → j < suc (length ds)
    by true o h j e = omega (arith, equal_some_numbers_are_equal 0 j e)
    by false None h j e = absurd cc
    by false (Some x) h j e = omega (arith, equal_some_numbers_are_equal (suc x) j e, h x refl)

pub numbers_of_names_are_below_count : (k : Kind) (names : List (List ℕ)) (ds : List PlacedDefinition) (n : ℕ) → n ≡ length ds → AllByRecursion (λ i. i < n) (numbers_of_defined_names k names ds)
numbers_of_names_are_below_count k [] ds n e = tt
numbers_of_names_are_below_count k (name ∷ names) ds n e = by (number_of_definition k name ds) refl (numbers_of_names_are_below_count k names ds n e)
  where
    by : (o : Option ℕ) → number_of_definition k name ds ≡ o → AllByRecursion (λ i. i < n) (numbers_of_defined_names k names ds) → AllByRecursion (λ i. i < n) (cons_option o (numbers_of_defined_names k names ds))
    by None is rest = rest
    by (Some i) is rest = (omega (arith, number_of_definition_is_below_count k name ds i is, e), rest)

graph_edges_are_below_count : (ds others : List PlacedDefinition) (n : ℕ) → n ≡ length ds → AllByRecursion (AllByRecursion (λ i. i < n)) (graph_nodes_of_definitions ds others)
graph_edges_are_below_count ds [] n e = tt
graph_edges_are_below_count ds (d ∷ others) n e = (numbers_of_names_are_below_count d.kind (alias_names_among_members d.def.members) ds n e, graph_edges_are_below_count ds others n e)

mapped_list_keeps_length : {X Y : Type 0} (f : X → Y) (xs : List X) → length (map f xs) ≡ length xs
mapped_list_keeps_length f [] = refl
mapped_list_keeps_length f (x ∷ xs) = ap suc (mapped_list_keeps_length f xs)

pub mention_graph_has_node_per_definition : (ds : List PlacedDefinition) → length (mention_graph_of_definitions ds) ≡ length ds
mention_graph_has_node_per_definition ds = mapped_list_keeps_length (λ (d : PlacedDefinition). numbers_of_defined_names d.kind (alias_names_among_members d.def.members) ds) ds

pub mention_graph_is_graph : (ds : List PlacedDefinition) → HasAllEdgeTargetsInGraph (mention_graph_of_definitions ds)
mention_graph_is_graph ds = graph_edges_are_below_count ds ds (length (mention_graph_of_definitions ds)) (mention_graph_has_node_per_definition ds)

numbers_of_mentions_are_below_count : (ds : List PlacedDefinition) (ms : List Mention) (n : ℕ) → n ≡ length ds → AllByRecursion (λ i. i < n) (numbers_of_defined_mentions ds ms)
numbers_of_mentions_are_below_count ds [] n e = tt
numbers_of_mentions_are_below_count ds (m ∷ ms) n e = by (number_of_definition m.kind m.name ds) refl (numbers_of_mentions_are_below_count ds ms n e)
  where
    by : (o : Option ℕ) → number_of_definition m.kind m.name ds ≡ o → AllByRecursion (λ i. i < n) (numbers_of_defined_mentions ds ms) → AllByRecursion (λ i. i < n) (cons_option o (numbers_of_defined_mentions ds ms))
    by None is rest = rest
    by (Some i) is rest = (omega (arith, number_of_definition_is_below_count m.kind m.name ds i is, e), rest)

appended_lists_keep_property_of_all : (P : ℕ → Type 0) (xs ys : List ℕ) → AllByRecursion P xs → AllByRecursion P ys → AllByRecursion P (xs ++ ys)
appended_lists_keep_property_of_all P [] ys p q = q
appended_lists_keep_property_of_all P (x ∷ xs) ys p q = (p.0, appended_lists_keep_property_of_all P xs ys p.1 q)

root_numbers_are_below_count : (ds : List PlacedDefinition) (n : ℕ) (lines : List Line) (m : ℕ) → m ≡ length ds → AllByRecursion (λ i. i < m) (root_numbers_in_lines_numbered_from ds n lines)
root_numbers_are_below_count ds n [] m e = tt
root_numbers_are_below_count ds n (line ∷ lines) m e =
    appended_lists_keep_property_of_all (λ i. i < m) (if is_spec_or_defaults_line_node line.node then numbers_of_defined_mentions ds (mentions_in_node n line.node) else []) (root_numbers_in_lines_numbered_from ds (n + 1) lines)
    (by (is_spec_or_defaults_line_node line.node)) (root_numbers_are_below_count ds (n + 1) lines m e)
  where
    by : (b : Bool) → AllByRecursion (λ i. i < m) (if b then numbers_of_defined_mentions ds (mentions_in_node n line.node) else [])
    by true = numbers_of_mentions_are_below_count ds (mentions_in_node n line.node) m e
    by false = tt

pub root_numbers_are_nodes_of_mention_graph : (ds : List PlacedDefinition) (lines : List Line) → AreNodesOfGraph (mention_graph_of_definitions ds) (root_numbers_in_lines_numbered_from ds 0 lines)
root_numbers_are_nodes_of_mention_graph ds lines = root_numbers_are_below_count ds 0 lines (length (mention_graph_of_definitions ds)) (mention_graph_has_node_per_definition ds)
