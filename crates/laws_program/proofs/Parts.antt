-- What is made of the rules of lines, rule by rule.
use Rattle.laws_program.proofs.Common.{◌≡◌, List, [], ◌∷◌, ◌++◌, map, refl, ap, ap₂, ◌∙◌, append-nil, flat_map, flat_map-append, Kind, Def, Node, Line, AreItemsPairwiseRelated}
use Rattle.laws_program.proofs.Common.{NodeIsReadBackAs, IsPointwiseRelated, appended_related_lists_are_related, effective_spec_nodes_of_line_node, alias_node_of_one_definition, one_definition_nodes_of_line_node, rules_of_policy_lines, rule_nodes_in_print_order, nodes_of_lines}
use Rattle.sudoers_grammar.specs.Node as node
use Rattle.sudoers_cvt_rules.specs.Rules.{defaults_nodes_of_line_node}
use Rattle.sudoers_cvt_rules.specs.Effective.{effective_host_group}

-- ---- rules

module _ {Y : Type 0} (made_in : Node → List Y) where
  pub made_each : (from : Node → List Node) (made : Node → List Y) → ((n : Node) → flat_map made_in (from n) ≡ made n) → (lines : List Line)
      → flat_map made_in (flat_map (λ (line : Line). from line.node) lines) ≡ flat_map made (nodes_of_lines lines)
  made_each from made each [] = refl
  made_each from made each (line ∷ lines) =
      flat_map-append made_in (from line.node) (flat_map (λ (l : Line). from l.node) lines)
      ∙ ap₂ (λ (x y : List Y). x ++ y) (each line.node) (made_each from made each lines)

  pub nothing : (from : Node → List Node) → ((n : Node) → flat_map made_in (from n) ≡ []) → (lines : List Line) → flat_map made_in (flat_map (λ (line : Line). from line.node) lines) ≡ []
  nothing from each [] = refl
  nothing from each (line ∷ lines) =
      flat_map-append made_in (from line.node) (flat_map (λ (l : Line). from l.node) lines)
      ∙ ap₂ (λ (x y : List Y). x ++ y) (each line.node) (nothing from each lines)

  -- nothing is made of definitions, if nothing is of one
  each_def : ((k : Kind) (d : Def) → made_in (alias_node_of_one_definition k d) ≡ []) → (k : Kind) (ds : List Def) → flat_map made_in (map (alias_node_of_one_definition k) ds) ≡ []
  each_def none k [] = refl
  each_def none k (d ∷ ds) = ap₂ (λ (x y : List Y). x ++ y) (none k d) (each_def none k ds)

  pub no_defs : ((k : Kind) (d : Def) → made_in (alias_node_of_one_definition k d) ≡ []) → (n : Node) → flat_map made_in (one_definition_nodes_of_line_node n) ≡ []
  no_defs none (node.Alias k ds) = each_def none k ds
  no_defs none n = refl

  -- nor of Defaults lines and user specifications
  pub no_defaults : ((scope : _) (params : _) → made_in (node.Defaults scope params) ≡ []) → (n : Node) → flat_map made_in (defaults_nodes_of_line_node n) ≡ []
  no_defaults none (node.Defaults scope params) = ap (λ (ys : List Y). ys ++ []) (none scope params)
  no_defaults none n = refl

  pub no_specs : ((users : _) (groups : _) → made_in (node.Spec users groups) ≡ []) → (n : Node) → flat_map made_in (effective_spec_nodes_of_line_node n) ≡ []
  no_specs none (node.Spec users groups) = ap (λ (ys : List Y). ys ++ []) (none users (map effective_host_group groups))
  no_specs none n = refl

  pub three : (lines : List Line) → flat_map made_in (rule_nodes_in_print_order (rules_of_policy_lines lines))
      ≡ (flat_map made_in (rules_of_policy_lines lines).defaults ++ flat_map made_in (rules_of_policy_lines lines).defs) ++ flat_map made_in (rules_of_policy_lines lines).specs
  three lines =
      let r = rules_of_policy_lines lines in
      flat_map-append made_in (r.defaults ++ r.defs) r.specs ∙ ap (λ (x : List Y). x ++ flat_map made_in r.specs) (flat_map-append made_in r.defaults r.defs)

  -- what is made of one sort of rules alone
  pub made_of_defaults : (made : Node → List Y) → ((n : Node) → flat_map made_in (defaults_nodes_of_line_node n) ≡ made n) → ((n : Node) → flat_map made_in (one_definition_nodes_of_line_node n) ≡ []) → ((n : Node) → flat_map made_in (effective_spec_nodes_of_line_node n) ≡ [])
      → (lines : List Line) → flat_map made_in (rule_nodes_in_print_order (rules_of_policy_lines lines)) ≡ flat_map made (nodes_of_lines lines)
  made_of_defaults made d a s lines =
      let r = rules_of_policy_lines lines in
      three lines
      ∙ ap₂ (λ (x y : List Y). (flat_map made_in r.defaults ++ x) ++ y) (nothing one_definition_nodes_of_line_node a lines) (nothing effective_spec_nodes_of_line_node s lines)
      ∙ append-nil (flat_map made_in r.defaults ++ []) ∙ append-nil (flat_map made_in r.defaults) ∙ made_each defaults_nodes_of_line_node made d lines

  pub made_of_defs : (made : Node → List Y) → ((n : Node) → flat_map made_in (defaults_nodes_of_line_node n) ≡ []) → ((n : Node) → flat_map made_in (one_definition_nodes_of_line_node n) ≡ made n) → ((n : Node) → flat_map made_in (effective_spec_nodes_of_line_node n) ≡ [])
      → (lines : List Line) → flat_map made_in (rule_nodes_in_print_order (rules_of_policy_lines lines)) ≡ flat_map made (nodes_of_lines lines)
  made_of_defs made d a s lines =
      let r = rules_of_policy_lines lines in
      three lines
      ∙ ap₂ (λ (x y : List Y). (x ++ flat_map made_in r.defs) ++ y) (nothing defaults_nodes_of_line_node d lines) (nothing effective_spec_nodes_of_line_node s lines)
      ∙ append-nil (flat_map made_in r.defs) ∙ made_each one_definition_nodes_of_line_node made a lines

  pub made_of_specs : (made : Node → List Y) → ((n : Node) → flat_map made_in (defaults_nodes_of_line_node n) ≡ []) → ((n : Node) → flat_map made_in (one_definition_nodes_of_line_node n) ≡ []) → ((n : Node) → flat_map made_in (effective_spec_nodes_of_line_node n) ≡ made n)
      → (lines : List Line) → flat_map made_in (rule_nodes_in_print_order (rules_of_policy_lines lines)) ≡ flat_map made (nodes_of_lines lines)
  made_of_specs made d a s lines =
      let r = rules_of_policy_lines lines in
      three lines
      ∙ ap₂ (λ (x y : List Y). (x ++ y) ++ flat_map made_in r.specs) (nothing defaults_nodes_of_line_node d lines) (nothing one_definition_nodes_of_line_node a lines)
      ∙ made_each effective_spec_nodes_of_line_node made s lines

-- ---- lists that are alike

pub pairwise_related_items_are_pointwise_related : {X : Type 0} (R S : X → X → Type 0) → ((x y : X) → R x y → S x y) → (xs ys : List X) → AreItemsPairwiseRelated R xs ys → IsPointwiseRelated S xs ys
pairwise_related_items_are_pointwise_related R S each [] [] all = tt
pairwise_related_items_are_pointwise_related R S each (x ∷ xs) (y ∷ ys) all = (each x y all.0, pairwise_related_items_are_pointwise_related R S each xs ys all.1)
pairwise_related_items_are_pointwise_related R S each xs ys all = absurd all

-- where the first are made of others
pub pointwise_relation_of_mapped_is_of_sources : {W X Y : Type 0} (f : W → X) (R : X → Y → Type 0) (ws : List W) (ys : List Y) → IsPointwiseRelated R (map f ws) ys → IsPointwiseRelated (λ w y. R (f w) y) ws ys
pointwise_relation_of_mapped_is_of_sources f R [] [] all = tt
pointwise_relation_of_mapped_is_of_sources f R (w ∷ ws) (y ∷ ys) all = (all.0, pointwise_relation_of_mapped_is_of_sources f R ws ys all.1)
pointwise_relation_of_mapped_is_of_sources f R ws ys all = absurd all

-- What is made of lines that say the same is alike.
pub same_nodes_make_related_items : {Y : Type 0} (R : Y → Y → Type 0) (made_in : Node → List Y) → ((n m : Node) → NodeIsReadBackAs n m → IsPointwiseRelated R (made_in n) (made_in m)) → (ns ms : List Node) → AreItemsPairwiseRelated NodeIsReadBackAs ns ms
    → IsPointwiseRelated R (flat_map made_in ns) (flat_map made_in ms)
same_nodes_make_related_items R made_in each [] [] all = tt
same_nodes_make_related_items R made_in each (n ∷ ns) (m ∷ ms) all =
    appended_related_lists_are_related R (made_in n) (made_in m) (flat_map made_in ns) (flat_map made_in ms) (each n m all.0) (same_nodes_make_related_items R made_in each ns ms all.1)
same_nodes_make_related_items R made_in each ns ms all = absurd all
