-- Chains of mentions are those of the graph.
use Rattle.sudoers_check.proofs.Common.{AreValidWalkLines, Bool, DefinitionMentionsName, HasEdge, HaveDistinctNames, IsOnCycle, IsReachedByChainOfSteps, IsReachedFromNodes, Kind, Line, List, ListHasElement}
use Rattle.sudoers_check.proofs.Common.{MarksDecidePredicate, Member, Mention, Node, None, Option, PlacedDefinition, Some, [], alias_names_among_members, alias_names_of_atom, ap, arith, cons_option}
use Rattle.sudoers_check.proofs.Common.{definitions_of_lines, definitions_with_mark, edge_targets_of_node, false, filter, first_definition_of, flat_map, graph_nodes_of_definitions, here, if◌then◌else◌, inl, inr}
use Rattle.sudoers_check.proofs.Common.{is_cyclic, is_definition_of_name, is_equal_kind, is_spec_or_defaults_line_node, is_unused, is_used, length, map, mention_graph_of_definitions, mentions_in_node, not}
use Rattle.sudoers_check.proofs.Common.{number_of_definition, numbers_of_defined_mentions, numbers_of_defined_names, onward, option_map, refl, root_alias_names, root_names_in_node, root_numbers_in_lines_numbered_from}
use Rattle.sudoers_check.proofs.Common.{slice_get, subst, suc, sym, true, zero, ℕ, ◌++◌, ◌+◌, ◌∙◌, ◌∷◌, ◌≡◌, ◌⊎◌}
use Rattle.sudoers_grammar.specs.Node as node
use Rattle.sudoers_check.proofs.Named.{element_of_appended_is_in_either, element_of_front_is_in_appended, element_of_back_is_in_appended, element_of_part_is_in_flat_map, flat_map_element_is_of_some_part, kinds_tested_equal_are_equal, kind_is_equal_to_itself, definition_of_name_has_kind_and_name, definition_is_of_its_own_name}
use Rattle.sudoers_check.proofs.Mentions.{items_picked_from_node_are_of_members, name_if_mention_of_kind, mention_name_is_picked_from_member}
use Rattle.sudoers_check.proofs.Nodes.{equal_some_numbers_are_equal, mention_graph_has_node_per_definition}
use Rattle.sudoers_check.proofs.Led.{unused_definition_is_not_reachable, used_definition_is_reachable, definition_found_cyclic_is_cyclic, definition_found_acyclic_is_not_cyclic}

-- ---- elements by their numbers

abbrev value_or_default : {Y : Type 0} → Y → Option Y → Y
value_or_default a None = a
value_or_default a (Some z) = z

equal_options_have_equal_elements : {Y : Type 0} (a b : Y) → Some a ≡ Some b → a ≡ b
equal_options_have_equal_elements a b e = ap (value_or_default a) e

list_has_element_at_its_index : {X : Type 0} (xs : List X) (i : ℕ) (x : X) → slice_get xs i ≡ Some x → ListHasElement xs x
list_has_element_at_its_index [] i x e = absurd cc
list_has_element_at_its_index (y ∷ ys) zero x e = inl (equal_options_have_equal_elements y x e)
list_has_element_at_its_index (y ∷ ys) (suc n) x e = inr (list_has_element_at_its_index ys n x e)

-- the definition with the number of a name is one of that name
pub definition_with_number_has_its_name : (k : Kind) (name : List ℕ) (ds : List PlacedDefinition) (i : ℕ) (d : PlacedDefinition) → number_of_definition k name ds ≡ Some i → slice_get ds i ≡ Some d → is_definition_of_name k name d ≡ true
definition_with_number_has_its_name k name [] i d e at = absurd cc
definition_with_number_has_its_name k name (x ∷ ds) i d e at = by (is_definition_of_name k name x) refl (number_of_definition k name ds) refl (definition_with_number_has_its_name k name ds) i e at
  where
    by : (b : Bool) → is_definition_of_name k name x ≡ b → (o : Option ℕ) → number_of_definition k name ds ≡ o
        → ((j : ℕ) (y : PlacedDefinition) → number_of_definition k name ds ≡ Some j → slice_get ds j ≡ Some y → is_definition_of_name k name y ≡ true)
        → (j : ℕ) → (if b then Some 0 else option_map suc o) ≡ Some j → slice_get (x ∷ ds) j ≡ Some d → is_definition_of_name k name d ≡ true
    by true t o os rest zero e at = ap (is_definition_of_name k name) (sym (equal_options_have_equal_elements x d at)) ∙ t
    by true t o os rest (suc j) e at = absurd cc
    by false t None os rest j e at = absurd cc
    by false t (Some n) os rest zero e at = absurd cc
    by false t (Some n) os rest (suc j) e at = rest j d (os ∙ ap (λ m. Some m) (omega (arith, equal_some_numbers_are_equal (suc n) (suc j) e))) at

-- ---- names are once

undefined_name_has_no_definition_number : (k : Kind) (name : List ℕ) (before : List PlacedDefinition) → first_definition_of k name before ≡ None → number_of_definition k name before ≡ None
undefined_name_has_no_definition_number k name [] e = refl
undefined_name_has_no_definition_number k name (x ∷ before) e = by (is_definition_of_name k name x) (undefined_name_has_no_definition_number k name before) e
  where
    by : (b : Bool) → (first_definition_of k name before ≡ None → number_of_definition k name before ≡ None) → (if b then Some x else first_definition_of k name before) ≡ None → (if b then Some 0 else option_map suc (number_of_definition k name before)) ≡ None
    by true rest e = absurd cc
    by false rest e = ap (option_map suc) (rest e)

-- the number behind definitions that are none of the name
number_after_other_names_is_their_count : (k : Kind) (name : List ℕ) (before : List PlacedDefinition) (d : PlacedDefinition) (after : List PlacedDefinition) → number_of_definition k name before ≡ None → is_definition_of_name k name d ≡ true
    → number_of_definition k name (before ++ d ∷ after) ≡ Some (length before)
number_after_other_names_is_their_count k name [] d after none t = ap (λ b. if b then Some 0 else option_map suc (number_of_definition k name after)) t
number_after_other_names_is_their_count k name (x ∷ before) d after none t = by (is_definition_of_name k name x) none (λ e. number_after_other_names_is_their_count k name before d after e t)
  where
    no_suc : (o : Option ℕ) → option_map suc o ≡ None → o ≡ None
    no_suc None e = refl
    no_suc (Some n) e = absurd cc

    by : (b : Bool) → (if b then Some 0 else option_map suc (number_of_definition k name before)) ≡ None
        → (number_of_definition k name before ≡ None → number_of_definition k name (before ++ d ∷ after) ≡ Some (length before))
        → (if b then Some 0 else option_map suc (number_of_definition k name (before ++ d ∷ after))) ≡ Some (suc (length before))
    by true e rest = absurd cc
    by false e rest = ap (option_map suc) (rest (no_suc (number_of_definition k name before) e))

list_is_split_at_index : {X : Type 0} (xs : List X) (i : ℕ) (x : X) → slice_get xs i ≡ Some x → (before : List X) × (after : List X) × (xs ≡ before ++ x ∷ after) × (length before ≡ i)
list_is_split_at_index [] i x e = absurd cc
list_is_split_at_index (y ∷ ys) zero x e = ([], ys, ap (λ z. z ∷ ys) (equal_options_have_equal_elements y x e), refl)
list_is_split_at_index (y ∷ ys) (suc n) x e = let r = list_is_split_at_index ys n x e in (y ∷ r.0, r.1, ap (λ zs. y ∷ zs) r.2, ap suc r.3)

pub definition_has_its_own_number : (ds : List PlacedDefinition) → HaveDistinctNames ds → (i : ℕ) (d : PlacedDefinition) → slice_get ds i ≡ Some d → number_of_definition d.kind d.def.name ds ≡ Some i
definition_has_its_own_number ds once i d at =
    let parts = list_is_split_at_index ds i d at in
    ap (number_of_definition d.kind d.def.name) parts.2
    ∙ number_after_other_names_is_their_count d.kind d.def.name parts.0 d parts.1 (undefined_name_has_no_definition_number d.kind d.def.name parts.0 (once parts.0 parts.1 d parts.2)) (definition_is_of_its_own_name d)
    ∙ ap (λ n. Some n) parts.3

-- ---- edges are mentions

cons_option_element_is_head_or_listed : {X : Type 0} (o : Option X) (xs : List X) (x : X) → ListHasElement (cons_option o xs) x → (o ≡ Some x) ⊎ ListHasElement xs x
cons_option_element_is_head_or_listed None xs x h = inr h
cons_option_element_is_head_or_listed (Some y) xs x (inl e) = inl (ap (λ z. Some z) e)
cons_option_element_is_head_or_listed (Some y) xs x (inr h) = inr h

cons_option_keeps_element_of_list : {X : Type 0} (o : Option X) (xs : List X) (x : X) → ListHasElement xs x → ListHasElement (cons_option o xs) x
cons_option_keeps_element_of_list None xs x h = h
cons_option_keeps_element_of_list (Some y) xs x h = inr h

cons_option_has_its_head : {X : Type 0} (o : Option X) (xs : List X) (x : X) → o ≡ Some x → ListHasElement (cons_option o xs) x
cons_option_has_its_head None xs x e = absurd cc
cons_option_has_its_head (Some y) xs x e = inl (equal_options_have_equal_elements y x e)

number_of_names_is_of_a_name : (k : Kind) (names : List (List ℕ)) (ds : List PlacedDefinition) (i : ℕ) → ListHasElement (numbers_of_defined_names k names ds) i → (name : List ℕ) × ListHasElement names name × (number_of_definition k name ds ≡ Some i)
number_of_names_is_of_a_name k [] ds i h = absurd h
number_of_names_is_of_a_name k (n ∷ names) ds i h = elim (cons_option_element_is_head_or_listed (number_of_definition k n ds) (numbers_of_defined_names k names ds) i h) as (λ _. (name : List ℕ) × ListHasElement (n ∷ names) name × (number_of_definition k name ds ≡ Some i)) [
  | inl e ↦ (n, inl refl, e)
  | inr rest ↦ let r = number_of_names_is_of_a_name k names ds i rest in (r.0, inr r.1, r.2)
]

defined_name_has_number_among_numbers : (k : Kind) (names : List (List ℕ)) (ds : List PlacedDefinition) (i : ℕ) (name : List ℕ) → ListHasElement names name → number_of_definition k name ds ≡ Some i → ListHasElement (numbers_of_defined_names k names ds) i
defined_name_has_number_among_numbers k [] ds i name h e = absurd h
defined_name_has_number_among_numbers k (n ∷ names) ds i name (inl same) e = cons_option_has_its_head (number_of_definition k n ds) (numbers_of_defined_names k names ds) i (ap (λ m. number_of_definition k m ds) same ∙ e)
defined_name_has_number_among_numbers k (n ∷ names) ds i name (inr h) e = cons_option_keeps_element_of_list (number_of_definition k n ds) (numbers_of_defined_names k names ds) i (defined_name_has_number_among_numbers k names ds i name h e)

graph_node_has_numbers_of_mentioned_names : (ds others : List PlacedDefinition) (i : ℕ) (d : PlacedDefinition) → slice_get others i ≡ Some d → edge_targets_of_node (graph_nodes_of_definitions ds others) i ≡ numbers_of_defined_names d.kind (alias_names_among_members d.def.members) ds
graph_node_has_numbers_of_mentioned_names ds [] i d e = absurd cc
graph_node_has_numbers_of_mentioned_names ds (x ∷ others) zero d e = ap (λ (y : PlacedDefinition). numbers_of_defined_names y.kind (alias_names_among_members y.def.members) ds) (equal_options_have_equal_elements x d e)
graph_node_has_numbers_of_mentioned_names ds (x ∷ others) (suc n) d e = graph_node_has_numbers_of_mentioned_names ds others n d e

-- only nodes have edges
node_with_edge_is_a_definition : (ds others : List PlacedDefinition) (i j : ℕ) → ListHasElement (edge_targets_of_node (graph_nodes_of_definitions ds others) i) j → (d : PlacedDefinition) × (slice_get others i ≡ Some d)
node_with_edge_is_a_definition ds [] i j h = absurd h
node_with_edge_is_a_definition ds (x ∷ others) zero j h = (x, refl)
node_with_edge_is_a_definition ds (x ∷ others) (suc n) j h = node_with_edge_is_a_definition ds others n j h

list_element_has_index : {X : Type 0} (xs : List X) (x : X) → ListHasElement xs x → (i : ℕ) × (slice_get xs i ≡ Some x)
list_element_has_index [] x h = absurd h
list_element_has_index (y ∷ ys) x (inl e) = (0, ap (λ z. Some z) e)
list_element_has_index (y ∷ ys) x (inr h) = let r = list_element_has_index ys x h in (suc r.0, r.1)

-- each definition has its own number
pub definition_in_valid_lines_has_number : (lines : List Line) → AreValidWalkLines lines → (d : PlacedDefinition) → ListHasElement (definitions_of_lines lines) d
    → (n : ℕ) × (number_of_definition d.kind d.def.name (definitions_of_lines lines) ≡ Some n) × (slice_get (definitions_of_lines lines) n ≡ Some d)
definition_in_valid_lines_has_number lines walk d h =
    let at = list_element_has_index (definitions_of_lines lines) d h in
    (at.0, definition_has_its_own_number (definitions_of_lines lines) walk.once at.0 d at.1, at.1)

-- ---- chains

-- chains of the graph are those of mentions
graph_chain_is_mention_chain : (ds : List PlacedDefinition) (From : ℕ → Type 0) (Begun : Kind → List ℕ → Type 0)
    → ((i : ℕ) (d : PlacedDefinition) → From i → slice_get ds i ≡ Some d → Begun d.kind d.def.name)
    → (i : ℕ) → IsReachedByChainOfSteps (HasEdge (mention_graph_of_definitions ds)) From i → (d : PlacedDefinition) → slice_get ds i ≡ Some d → IsReachedByChainOfSteps (DefinitionMentionsName d.kind ds) (Begun d.kind) d.def.name
graph_chain_is_mention_chain ds From Begun begun i (here x from) d at = here d.def.name (begun x d from at)
graph_chain_is_mention_chain ds From Begun begun i (onward x y chain leads) d at =
    let by = node_with_edge_is_a_definition ds ds x y leads in
    let source : PlacedDefinition = by.0 in
    let said = number_of_names_is_of_a_name source.kind (alias_names_among_members source.def.members) ds y (subst (λ edges. ListHasElement edges y) (graph_node_has_numbers_of_mentioned_names ds ds x source by.1) leads) in
    let is = definition_of_name_has_kind_and_name source.kind said.0 d (definition_with_number_has_its_name source.kind said.0 ds y d said.2 at) in
    let before = graph_chain_is_mention_chain ds From Begun begun x chain source by.1 in
    let whole : IsReachedByChainOfSteps (DefinitionMentionsName source.kind ds) (Begun source.kind) said.0 =
    onward source.def.name said.0 before (record { by = source; stands = list_has_element_at_its_index ds x source by.1; of_kind = refl; of_name = refl; mentions = said.1 }) in
    subst (λ k. IsReachedByChainOfSteps (DefinitionMentionsName k ds) (Begun k) d.def.name) (sym is.0) (subst (λ n. IsReachedByChainOfSteps (DefinitionMentionsName source.kind ds) (Begun source.kind) n) (sym is.1) whole)

-- chains of mentions are those of the graph
mention_chain_is_graph_chain : (ds : List PlacedDefinition) → HaveDistinctNames ds → (From : ℕ → Type 0) (k : Kind) (Begun : List ℕ → Type 0)
    → ((name : List ℕ) (i : ℕ) → Begun name → number_of_definition k name ds ≡ Some i → From i)
    → (name : List ℕ) → IsReachedByChainOfSteps (DefinitionMentionsName k ds) Begun name → (i : ℕ) (d : PlacedDefinition) → slice_get ds i ≡ Some d → d.kind ≡ k → d.def.name ≡ name
    → IsReachedByChainOfSteps (HasEdge (mention_graph_of_definitions ds)) From i
mention_chain_is_graph_chain ds once From k Begun begun name (here x is) i d at kind called =
    let own : number_of_definition k x ds ≡ Some i = ap (λ j. number_of_definition j x ds) (sym kind) ∙ ap (λ n. number_of_definition d.kind n ds) (sym called) ∙ definition_has_its_own_number ds once i d at in
    here i (begun x i is own)
mention_chain_is_graph_chain ds once From k Begun begun name (onward x y chain joins) i d at kind called =
    let source = list_element_has_index ds joins.by joins.stands in
    let before = mention_chain_is_graph_chain ds once From k Begun begun x chain source.0 joins.by source.1 joins.of_kind joins.of_name in
    let own : number_of_definition joins.by.kind y ds ≡ Some i =
    ap (λ j. number_of_definition j y ds) (joins.of_kind ∙ sym kind) ∙ ap (λ n. number_of_definition d.kind n ds) (sym called) ∙ definition_has_its_own_number ds once i d at in
    let edge = defined_name_has_number_among_numbers joins.by.kind (alias_names_among_members joins.by.def.members) ds i y joins.mentions own in
    onward source.0 i before (subst (λ edges. ListHasElement edges i) (sym (graph_node_has_numbers_of_mentioned_names ds ds source.0 joins.by source.1)) edge)

-- ---- what user specifications and Defaults lines mention

number_of_mentions_is_of_a_mention : (ds : List PlacedDefinition) (ms : List Mention) (i : ℕ) → ListHasElement (numbers_of_defined_mentions ds ms) i → (m : Mention) × ListHasElement ms m × (number_of_definition m.kind m.name ds ≡ Some i)
number_of_mentions_is_of_a_mention ds [] i h = absurd h
number_of_mentions_is_of_a_mention ds (n ∷ ms) i h = elim (cons_option_element_is_head_or_listed (number_of_definition n.kind n.name ds) (numbers_of_defined_mentions ds ms) i h) as (λ _. (m : Mention) × ListHasElement (n ∷ ms) m × (number_of_definition m.kind m.name ds ≡ Some i)) [
  | inl e ↦ (n, inl refl, e)
  | inr rest ↦ let r = number_of_mentions_is_of_a_mention ds ms i rest in (r.0, inr r.1, r.2)
]

defined_mention_has_number_among_numbers : (ds : List PlacedDefinition) (ms : List Mention) (i : ℕ) (m : Mention) → ListHasElement ms m → number_of_definition m.kind m.name ds ≡ Some i → ListHasElement (numbers_of_defined_mentions ds ms) i
defined_mention_has_number_among_numbers ds [] i m h e = absurd h
defined_mention_has_number_among_numbers ds (n ∷ ms) i m (inl same) e = cons_option_has_its_head (number_of_definition n.kind n.name ds) (numbers_of_defined_mentions ds ms) i (ap (λ (x : Mention). number_of_definition x.kind x.name ds) same ∙ e)
defined_mention_has_number_among_numbers ds (n ∷ ms) i m (inr h) e = cons_option_keeps_element_of_list (number_of_definition n.kind n.name ds) (numbers_of_defined_mentions ds ms) i (defined_mention_has_number_among_numbers ds ms i m h e)

names_of_rooting_mentions_are_root_names : (k : Kind) (line : ℕ) (n : Node) → is_spec_or_defaults_line_node n ≡ true → flat_map (name_if_mention_of_kind k) (mentions_in_node line n) ≡ root_names_in_node k n
names_of_rooting_mentions_are_root_names k line (node.Spec users groups) e = items_picked_from_node_are_of_members k line (name_if_mention_of_kind k) (λ (m : Member). alias_names_of_atom m.atom) (mention_name_is_picked_from_member k line) (node.Spec users groups)
names_of_rooting_mentions_are_root_names k line (node.Defaults scope params) e = items_picked_from_node_are_of_members k line (name_if_mention_of_kind k) (λ (m : Member). alias_names_of_atom m.atom) (mention_name_is_picked_from_member k line) (node.Defaults scope params)
names_of_rooting_mentions_are_root_names k line (node.Alias j defs) e = absurd cc
names_of_rooting_mentions_are_root_names k line node.Blank e = absurd cc
names_of_rooting_mentions_are_root_names k line node.Comment e = absurd cc
names_of_rooting_mentions_are_root_names k line (node.Include dir path) e = absurd cc

node_of_other_sort_has_no_roots : (k : Kind) (n : Node) → is_spec_or_defaults_line_node n ≡ false → root_names_in_node k n ≡ []
node_of_other_sort_has_no_roots k (node.Spec users groups) e = absurd cc
node_of_other_sort_has_no_roots k (node.Defaults scope params) e = absurd cc
node_of_other_sort_has_no_roots k (node.Alias j defs) e = refl
node_of_other_sort_has_no_roots k node.Blank e = refl
node_of_other_sort_has_no_roots k node.Comment e = refl
node_of_other_sort_has_no_roots k (node.Include dir path) e = refl

mention_has_name_of_its_kind : (m : Mention) → ListHasElement (name_if_mention_of_kind m.kind m) m.name
mention_has_name_of_its_kind m = subst (λ (b : Bool). ListHasElement (if b then m.name ∷ [] else []) m.name) (sym (kind_is_equal_to_itself m.kind)) (inl refl)

-- a mention that is picked by its kind
name_of_kind_is_that_of_mention : (k : Kind) (m : Mention) (name : List ℕ) → ListHasElement (name_if_mention_of_kind k m) name → (k ≡ m.kind) × (m.name ≡ name)
name_of_kind_is_that_of_mention k m name h = by (is_equal_kind k m.kind) refl h
  where
    by : (b : Bool) → is_equal_kind k m.kind ≡ b → ListHasElement (if b then m.name ∷ [] else []) name → (k ≡ m.kind) × (m.name ≡ name)
    by true t (inl e) = (kinds_tested_equal_are_equal k m.kind t, e)
    by true t (inr g) = absurd g
    by false t g = absurd g

root_number_is_of_a_root_name : (ds : List PlacedDefinition) (n : ℕ) (lines : List Line) (i : ℕ) → ListHasElement (root_numbers_in_lines_numbered_from ds n lines) i
    → (k : Kind) × (name : List ℕ) × ListHasElement (root_alias_names k lines) name × (number_of_definition k name ds ≡ Some i)
root_number_is_of_a_root_name ds n [] i h = absurd h
root_number_is_of_a_root_name ds n (line ∷ lines) i h =
    elim (element_of_appended_is_in_either (if is_spec_or_defaults_line_node line.node then numbers_of_defined_mentions ds (mentions_in_node n line.node) else []) (root_numbers_in_lines_numbered_from ds (n + 1) lines) i h)
    as (λ _. (k : Kind) × (name : List ℕ) × ListHasElement (root_alias_names k (line ∷ lines)) name × (number_of_definition k name ds ≡ Some i)) [
      | inl first ↦ by (is_spec_or_defaults_line_node line.node) refl first
      | inr later ↦ let r = root_number_is_of_a_root_name ds (n + 1) lines i later in (r.0, r.1, element_of_back_is_in_appended (root_names_in_node r.0 line.node) (root_alias_names r.0 lines) r.1 r.2, r.3)
    ]
  where
    by : (b : Bool) → is_spec_or_defaults_line_node line.node ≡ b → ListHasElement (if b then numbers_of_defined_mentions ds (mentions_in_node n line.node) else []) i
        → (k : Kind) × (name : List ℕ) × ListHasElement (root_alias_names k (line ∷ lines)) name × (number_of_definition k name ds ≡ Some i)
    by true t g =
        let m = number_of_mentions_is_of_a_mention ds (mentions_in_node n line.node) i g in
        let x : Mention = m.0 in
        let among = element_of_part_is_in_flat_map (name_if_mention_of_kind x.kind) (mentions_in_node n line.node) x x.name m.1 (mention_has_name_of_its_kind x) in
        (x.kind, x.name, element_of_front_is_in_appended (root_names_in_node x.kind line.node) (root_alias_names x.kind lines) x.name (subst (λ names. ListHasElement names x.name) (names_of_rooting_mentions_are_root_names x.kind n line.node t) among), m.2)
    by false t g = absurd g

defined_root_name_has_root_number : (ds : List PlacedDefinition) (n : ℕ) (lines : List Line) (k : Kind) (name : List ℕ) (i : ℕ) → ListHasElement (root_alias_names k lines) name → number_of_definition k name ds ≡ Some i
    → ListHasElement (root_numbers_in_lines_numbered_from ds n lines) i
defined_root_name_has_root_number ds n [] k name i h e = absurd h
defined_root_name_has_root_number ds n (line ∷ lines) k name i h e =
    elim (element_of_appended_is_in_either (root_names_in_node k line.node) (root_alias_names k lines) name h) as (λ _. ListHasElement (root_numbers_in_lines_numbered_from ds n (line ∷ lines)) i) [
      | inl first ↦ element_of_front_is_in_appended (if is_spec_or_defaults_line_node line.node then numbers_of_defined_mentions ds (mentions_in_node n line.node) else []) (root_numbers_in_lines_numbered_from ds (n + 1) lines) i (by (is_spec_or_defaults_line_node line.node) refl first)
      | inr later ↦ element_of_back_is_in_appended (if is_spec_or_defaults_line_node line.node then numbers_of_defined_mentions ds (mentions_in_node n line.node) else []) (root_numbers_in_lines_numbered_from ds (n + 1) lines) i (defined_root_name_has_root_number ds (n + 1) lines k name i later e)
    ]
  where
    by : (b : Bool) → is_spec_or_defaults_line_node line.node ≡ b → ListHasElement (root_names_in_node k line.node) name → ListHasElement (if b then numbers_of_defined_mentions ds (mentions_in_node n line.node) else []) i
    by true t g =
        let m = flat_map_element_is_of_some_part (name_if_mention_of_kind k) (mentions_in_node n line.node) name (subst (λ names. ListHasElement names name) (sym (names_of_rooting_mentions_are_root_names k n line.node t)) g) in
        let x : Mention = m.0 in
        let is = name_of_kind_is_that_of_mention k x name m.2 in
        defined_mention_has_number_among_numbers ds (mentions_in_node n line.node) i x m.1 (ap (λ j. number_of_definition j x.name ds) (sym is.0) ∙ ap (λ nm. number_of_definition k nm ds) is.1 ∙ e)
    by false t g = subst (λ names. ListHasElement names name) (node_of_other_sort_has_no_roots k line.node t) g

-- what is mentioned there is a root of its kind
definition_of_root_number_has_root_name : (lines : List Line) (i : ℕ) (d : PlacedDefinition) → ListHasElement (root_numbers_in_lines_numbered_from (definitions_of_lines lines) 0 lines) i → slice_get (definitions_of_lines lines) i ≡ Some d → ListHasElement (root_alias_names d.kind lines) d.def.name
definition_of_root_number_has_root_name lines i d h at =
    let said = root_number_is_of_a_root_name (definitions_of_lines lines) 0 lines i h in
    let is = definition_of_name_has_kind_and_name said.0 said.1 d (definition_with_number_has_its_name said.0 said.1 (definitions_of_lines lines) i d said.3 at) in
    subst (λ name. ListHasElement (root_alias_names d.kind lines) name) (sym is.1) (subst (λ k. ListHasElement (root_alias_names k lines) said.1) (sym is.0) said.2)

-- an edge leads to a definition whose name is mentioned
edge_target_has_mentioned_name : (ds : List PlacedDefinition) (i : ℕ) (d : PlacedDefinition) → slice_get ds i ≡ Some d → (j : ℕ) (e : PlacedDefinition) → HasEdge (mention_graph_of_definitions ds) i j → slice_get ds j ≡ Some e
    → ListHasElement (alias_names_among_members d.def.members) e.def.name
edge_target_has_mentioned_name ds i d at j e leads at_e =
    let said = number_of_names_is_of_a_name d.kind (alias_names_among_members d.def.members) ds j (subst (λ edges. ListHasElement edges j) (graph_node_has_numbers_of_mentioned_names ds ds i d at) leads) in
    let is = definition_of_name_has_kind_and_name d.kind said.0 e (definition_with_number_has_its_name d.kind said.0 ds j e said.2 at_e) in
    subst (λ name. ListHasElement (alias_names_among_members d.def.members) name) (sym is.1) said.1

-- ---- marks

-- marks are what they say at each place
marks_of_predicate_are_its_values : (p : PlacedDefinition → Bool) (marks : List Bool) (ds : List PlacedDefinition) → length marks ≡ length ds
    → ((i : ℕ) (d : PlacedDefinition) (b : Bool) → slice_get ds i ≡ Some d → slice_get marks i ≡ Some b → p d ≡ b) → marks ≡ map p ds
marks_of_predicate_are_its_values p [] [] l each = refl
marks_of_predicate_are_its_values p [] (d ∷ ds) l each = absurd (omega (arith, l))
marks_of_predicate_are_its_values p (b ∷ marks) [] l each = absurd (omega (arith, l))
marks_of_predicate_are_its_values p (b ∷ marks) (d ∷ ds) l each =
    ap (λ c. c ∷ marks) (sym (each 0 d b refl refl))
    ∙ ap (λ rest. p d ∷ rest) (marks_of_predicate_are_its_values p marks ds (omega (arith, l)) (λ i x c at mark. each (suc i) x c at mark))

pub definitions_marked_true_are_filtered : (p : PlacedDefinition → Bool) (ds : List PlacedDefinition) → definitions_with_mark true (map p ds) ds ≡ filter p ds
definitions_marked_true_are_filtered p [] = refl
definitions_marked_true_are_filtered p (d ∷ ds) = by (p d) (definitions_marked_true_are_filtered p ds)
  where
    by : (t : Bool) → definitions_with_mark true (map p ds) ds ≡ filter p ds → definitions_with_mark true (t ∷ map p ds) (d ∷ ds) ≡ Rattle.std.proofs.Common.cond t (d ∷ filter p ds) (filter p ds)
    by true rest = ap (λ xs. d ∷ xs) rest
    by false rest = rest

pub definitions_marked_false_are_filtered : (p : PlacedDefinition → Bool) (ds : List PlacedDefinition) → definitions_with_mark false (map (λ d. not (p d)) ds) ds ≡ filter p ds
definitions_marked_false_are_filtered p [] = refl
definitions_marked_false_are_filtered p (d ∷ ds) = by (p d) (definitions_marked_false_are_filtered p ds)
  where
    by : (t : Bool) → definitions_with_mark false (map (λ x. not (p x)) ds) ds ≡ filter p ds
        → definitions_with_mark false (not t ∷ map (λ x. not (p x)) ds) (d ∷ ds) ≡ Rattle.std.proofs.Common.cond t (d ∷ filter p ds) (filter p ds)
    by true rest = ap (λ xs. d ∷ xs) rest
    by false rest = rest

truth_value_not_false_is_true : (b : Bool) → (b ≡ false → ⊥) → b ≡ true
truth_value_not_false_is_true true h = refl
truth_value_not_false_is_true false h = absurd (h refl)

truth_value_not_true_is_false : (b : Bool) → (b ≡ true → ⊥) → b ≡ false
truth_value_not_true_is_false true h = absurd (h refl)
truth_value_not_true_is_false false h = refl

pub reached_node_marks_are_used_definitions : (lines : List Line) (marks : List Bool) → HaveDistinctNames (definitions_of_lines lines)
    → MarksDecidePredicate (IsReachedFromNodes (mention_graph_of_definitions (definitions_of_lines lines)) (root_numbers_in_lines_numbered_from (definitions_of_lines lines) 0 lines)) (length (mention_graph_of_definitions (definitions_of_lines lines))) marks
    → marks ≡ map (is_used lines) (definitions_of_lines lines)
reached_node_marks_are_used_definitions lines marks once are =
    marks_of_predicate_are_its_values (is_used lines) marks (definitions_of_lines lines) (are.size ∙ mention_graph_has_node_per_definition (definitions_of_lines lines)) each
  where
    each : (i : ℕ) (d : PlacedDefinition) (b : Bool) → slice_get (definitions_of_lines lines) i ≡ Some d → slice_get marks i ≡ Some b → is_used lines d ≡ b
    each i d true at mark =
        ap not (truth_value_not_true_is_false (is_unused lines d) (λ e. unused_definition_is_not_reachable lines d (list_has_element_at_its_index (definitions_of_lines lines) i d at) e
        (graph_chain_is_mention_chain (definitions_of_lines lines) (ListHasElement (root_numbers_in_lines_numbered_from (definitions_of_lines lines) 0 lines)) (λ k. ListHasElement (root_alias_names k lines)) (definition_of_root_number_has_root_name lines) i (are.holds i mark) d at)))
    each i d false at mark =
        ap not (truth_value_not_false_is_true (is_unused lines d) (λ e. are.fails i mark
        (mention_chain_is_graph_chain (definitions_of_lines lines) once (ListHasElement (root_numbers_in_lines_numbered_from (definitions_of_lines lines) 0 lines)) d.kind (ListHasElement (root_alias_names d.kind lines))
        (λ name j h number. defined_root_name_has_root_number (definitions_of_lines lines) 0 lines d.kind name j h number) d.def.name
        (used_definition_is_reachable lines d (list_has_element_at_its_index (definitions_of_lines lines) i d at) e) i d at refl refl)))

pub cycle_node_marks_are_cyclic_definitions : (lines : List Line) (marks : List Bool) → AreValidWalkLines lines → MarksDecidePredicate (IsOnCycle (mention_graph_of_definitions (definitions_of_lines lines))) (length (mention_graph_of_definitions (definitions_of_lines lines))) marks
    → marks ≡ map (is_cyclic lines) (definitions_of_lines lines)
cycle_node_marks_are_cyclic_definitions lines marks walk are =
    marks_of_predicate_are_its_values (is_cyclic lines) marks (definitions_of_lines lines) (are.size ∙ mention_graph_has_node_per_definition (definitions_of_lines lines)) each
  where
    edges_at : (i : ℕ) (d : PlacedDefinition) → slice_get (definitions_of_lines lines) i ≡ Some d → edge_targets_of_node (mention_graph_of_definitions (definitions_of_lines lines)) i ≡ numbers_of_defined_names d.kind (alias_names_among_members d.def.members) (definitions_of_lines lines)
    edges_at i d at = graph_node_has_numbers_of_mentioned_names (definitions_of_lines lines) (definitions_of_lines lines) i d at

    each : (i : ℕ) (d : PlacedDefinition) (b : Bool) → slice_get (definitions_of_lines lines) i ≡ Some d → slice_get marks i ≡ Some b → is_cyclic lines d ≡ b
    each i d true at mark =
        truth_value_not_false_is_true (is_cyclic lines d) (λ e. definition_found_acyclic_is_not_cyclic lines d (list_has_element_at_its_index (definitions_of_lines lines) i d at) e
        (graph_chain_is_mention_chain (definitions_of_lines lines) (HasEdge (mention_graph_of_definitions (definitions_of_lines lines)) i) (λ k. ListHasElement (alias_names_among_members d.def.members)) (edge_target_has_mentioned_name (definitions_of_lines lines) i d at) i (are.holds i mark) d at))
    each i d false at mark =
        truth_value_not_true_is_false (is_cyclic lines d) (λ e. are.fails i mark
        (mention_chain_is_graph_chain (definitions_of_lines lines) walk.once (HasEdge (mention_graph_of_definitions (definitions_of_lines lines)) i) d.kind (ListHasElement (alias_names_among_members d.def.members))
        (λ name j h number. subst (λ edges. ListHasElement edges j) (sym (edges_at i d at)) (defined_name_has_number_among_numbers d.kind (alias_names_among_members d.def.members) (definitions_of_lines lines) j name h number)) d.def.name
        (definition_found_cyclic_is_cyclic lines d (list_has_element_at_its_index (definitions_of_lines lines) i d at) e) i d at refl refl))
