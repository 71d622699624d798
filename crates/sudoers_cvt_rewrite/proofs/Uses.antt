-- Used definitions, and cyclic ones among them.
use Rattle.sudoers_cvt_rewrite.proofs.Common.{Bool, Def, HasCyclicAliasReachedFromSpecOrDefaults, IsCyclic, IsReachedFromSpecOrDefaults, IsTrue, Kind, Line, List, ListHasElement, Node, PlacedDefinition, [], alias_node_of_definition, ap}
use Rattle.sudoers_cvt_rewrite.proofs.Common.{definitions_from_line_number, definitions_from_place, definitions_in_line, definitions_of_lines, false, filter, has_reachable_alias_cycle, if◌then◌else◌, is_cyclic}
use Rattle.sudoers_cvt_rewrite.proofs.Common.{is_unused, is_used, length, length-map, map, map-append, not, refl, sym, true, used_definitions, ℕ, ◌&&◌, ◌++◌, ◌+◌, ◌↔◌, ◌∙◌, ◌∷◌, ◌≡◌}
use Rattle.std.specs.List.{flat_map}
use Rattle.sudoers_grammar.specs.Node as node
use Rattle.sudoers_check.proofs.Named.{passing_list_has_passing_element, true_conjunction_has_true_parts, passing_element_makes_list_pass}
use Rattle.sudoers_cvt_rules.specs.Rules.{one_definition_nodes_of_line_node, marked_items, alias_node_of_one_definition, rules_of_policy_lines}

definitions_from_place_give_definition_nodes : (k : Kind) (line n : ℕ) (ds : List Def) → map alias_node_of_definition (definitions_from_place k line n ds) ≡ map (alias_node_of_one_definition k) ds
definitions_from_place_give_definition_nodes k line n [] = refl
definitions_from_place_give_definition_nodes k line n (d ∷ ds) = ap (λ ns. alias_node_of_one_definition k d ∷ ns) (definitions_from_place_give_definition_nodes k line (n + 1) ds)

definitions_in_line_give_definition_nodes : (n : ℕ) (says : Node) → map alias_node_of_definition (definitions_in_line n says) ≡ one_definition_nodes_of_line_node says
definitions_in_line_give_definition_nodes n (node.Alias k defs) = definitions_from_place_give_definition_nodes k n 0 defs
definitions_in_line_give_definition_nodes n node.Blank = refl
definitions_in_line_give_definition_nodes n node.Comment = refl
definitions_in_line_give_definition_nodes n (node.Include dir path) = refl
definitions_in_line_give_definition_nodes n (node.Defaults scope params) = refl
definitions_in_line_give_definition_nodes n (node.Spec users groups) = refl

definitions_from_line_give_definition_nodes : (n : ℕ) (lines : List Line) → map alias_node_of_definition (definitions_from_line_number n lines) ≡ flat_map (λ (line : Line). one_definition_nodes_of_line_node line.node) lines
definitions_from_line_give_definition_nodes n [] = refl
definitions_from_line_give_definition_nodes n (line ∷ lines) =
    map-append alias_node_of_definition (definitions_in_line n line.node) (definitions_from_line_number (n + 1) lines)
    ∙ ap (λ ns. ns ++ map alias_node_of_definition (definitions_from_line_number (n + 1) lines)) (definitions_in_line_give_definition_nodes n line.node)
    ∙ ap (λ ns. one_definition_nodes_of_line_node line.node ++ ns) (definitions_from_line_give_definition_nodes (n + 1) lines)

marked_definition_nodes_are_of_filtered : (p : PlacedDefinition → Bool) (ds : List PlacedDefinition) → marked_items (map p ds) (map alias_node_of_definition ds) ≡ map alias_node_of_definition (filter p ds)
marked_definition_nodes_are_of_filtered p [] = refl
marked_definition_nodes_are_of_filtered p (d ∷ ds) = by (p d) (marked_definition_nodes_are_of_filtered p ds)
  where
    by : (b : Bool) → marked_items (map p ds) (map alias_node_of_definition ds) ≡ map alias_node_of_definition (filter p ds)
        → (if b then alias_node_of_definition d ∷ marked_items (map p ds) (map alias_node_of_definition ds) else marked_items (map p ds) (map alias_node_of_definition ds)) ≡ map alias_node_of_definition (if b then d ∷ filter p ds else filter p ds)
    by true rest = ap (λ ns. alias_node_of_definition d ∷ ns) rest
    by false rest = rest

pub nodes_marked_used_are_used_definitions : (lines : List Line) → marked_items (map (is_used lines) (definitions_of_lines lines)) (flat_map (λ (line : Line). one_definition_nodes_of_line_node line.node) lines) ≡ map alias_node_of_definition (used_definitions lines)
nodes_marked_used_are_used_definitions lines = ap (marked_items (map (is_used lines) (definitions_of_lines lines))) (sym (definitions_from_line_give_definition_nodes 0 lines)) ∙ marked_definition_nodes_are_of_filtered (is_used lines) (definitions_of_lines lines)

pub used_marks_are_counted_by_definition_nodes : (lines : List Line) → length (map (is_used lines) (definitions_of_lines lines)) ≡ length (rules_of_policy_lines lines).defs
used_marks_are_counted_by_definition_nodes lines = length-map (definitions_of_lines lines) (is_used lines) ∙ sym (length-map (definitions_of_lines lines) alias_node_of_definition) ∙ ap length (definitions_from_line_give_definition_nodes 0 lines)

-- ---- cyclic ones

truth_value_not_false_is_true : (b : Bool) → (b ≡ false → ⊥) → b ≡ true
truth_value_not_false_is_true true h = refl
truth_value_not_false_is_true false h = absurd (h refl)

module _ (lines : List Line)
    (unused : (d : PlacedDefinition) → ListHasElement (definitions_of_lines lines) d → is_unused lines d ≡ true → IsReachedFromSpecOrDefaults d.kind lines d.def.name → ⊥)
    (used : (d : PlacedDefinition) → ListHasElement (definitions_of_lines lines) d → is_unused lines d ≡ false → IsReachedFromSpecOrDefaults d.kind lines d.def.name)
    (cyclic : (d : PlacedDefinition) → ListHasElement (definitions_of_lines lines) d → is_cyclic lines d ≡ true → IsCyclic lines d)
    (straight : (d : PlacedDefinition) → ListHasElement (definitions_of_lines lines) d → is_cyclic lines d ≡ false → IsCyclic lines d → ⊥) where
  abbrev is_round : PlacedDefinition → Bool
  is_round d = is_used lines d && is_cyclic lines d

  used_is : (d : PlacedDefinition) → ListHasElement (definitions_of_lines lines) d → IsReachedFromSpecOrDefaults d.kind lines d.def.name → is_used lines d ≡ true
  used_is d h r = ap not (by (is_unused lines d) refl)
    where
      by : (b : Bool) → is_unused lines d ≡ b → is_unused lines d ≡ false
      by true e = absurd (unused d h e r)
      by false e = e

  has : HasCyclicAliasReachedFromSpecOrDefaults lines → has_reachable_alias_cycle lines ≡ true
  has r =
      passing_element_makes_list_pass is_round (definitions_of_lines lines) r.alias r.stands
      (ap (λ (b : Bool). b && is_cyclic lines r.alias) (used_is r.alias r.stands r.reached) ∙ truth_value_not_false_is_true (is_cyclic lines r.alias) (λ e. straight r.alias r.stands e r.cyclic))

  not_true : (b : Bool) → not b ≡ true → b ≡ false
  not_true true e = absurd cc
  not_true false e = refl

  of : has_reachable_alias_cycle lines ≡ true → HasCyclicAliasReachedFromSpecOrDefaults lines
  of e =
      let found = passing_list_has_passing_element is_round (definitions_of_lines lines) e in
      let two = true_conjunction_has_true_parts (is_used lines found.0) (is_cyclic lines found.0) found.2 in
      record {
        alias = found.0;
        stands = found.1;
        reached = used found.0 found.1 (not_true (is_unused lines found.0) two.0);
        cyclic = cyclic found.0 found.1 two.1;
      }

  same : (a b : Bool) → (a ≡ true → b ≡ true) → (b ≡ true → a ≡ true) → a ≡ b
  same true b f g = sym (f refl)
  same false true f g = g refl
  same false false f g = refl

  pub round_is : (found : Bool) → IsTrue found ↔ HasCyclicAliasReachedFromSpecOrDefaults lines → found ≡ has_reachable_alias_cycle lines
  round_is found true_conjunction_has_true_parts = same found (has_reachable_alias_cycle lines) (λ e. has (true_conjunction_has_true_parts.0 e)) (λ e. true_conjunction_has_true_parts.1 (of e))

  pub a_round : HasCyclicAliasReachedFromSpecOrDefaults lines → has_reachable_alias_cycle lines ≡ true
  a_round r = sym (round_is true (λ t. r, λ h. refl))

  pub no_round : (HasCyclicAliasReachedFromSpecOrDefaults lines → ⊥) → has_reachable_alias_cycle lines ≡ false
  no_round none = sym (round_is false (λ t. absurd cc, λ r. absurd (none r)))
