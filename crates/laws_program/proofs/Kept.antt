-- The rules of lines of which only used definitions are kept, as lines of their own.
use Rattle.laws_program.proofs.Common.{◌≡◌, List, [], ◌∷◌, ◌++◌, map, refl, sym, ap, ap₂, ◌∙◌, append-nil, flat_map, flat_map-append, Kind, Def, Node, Line}
use Rattle.laws_program.proofs.Common.{PlacedDefinition, definitions_of_lines, settings_of, runas_defaults_of_lines, user_specs_of_lines, Rules, effective_spec_nodes_of_line_node, alias_node_of_one_definition, one_definition_nodes_of_line_node, rules_of_policy_lines, nodes_of_lines}
use Rattle.laws_program.proofs.Common.{alias_node_of_definition, used_definitions, rules_with_used_definitions}
use Rattle.sudoers_grammar.specs.Node as node
use Rattle.sudoers_cvt_rules.specs.Rules.{defaults_nodes_of_line_node}
use Rattle.laws_program.proofs.Aliases.{KindAndDefinition, kinds_and_definitions_of_placed, kinds_and_definitions_in_node, definitions_from_line_are_those_of_nodes}
use Rattle.laws_program.proofs.Parts.{made_each, no_defaults, nothing}
use Rattle.laws_program.proofs.Second.{defaults_nodes_of_defaults_are_same}
use Rattle.laws_program.proofs.PrintedSpecs.{user_spec_list_of_node, user_specs_of_lines_are_of_nodes}
use Rattle.laws_program.proofs.SettingsAlike.{runas_defaults_of_lines_are_of_nodes, defaults_nodes_keep_settings}

-- the user specification that a line is, as it is written
abbrev pub user_spec_nodes_in : Node → List Node
user_spec_nodes_in (node.Spec users groups) = node.Spec users groups ∷ []
user_spec_nodes_in n = []

abbrev pub line_without_text_of_node : Node → Line
line_without_text_of_node n = record { text = []; node = n }

abbrev pub nodes_of_used_rules : List Line → List Node
nodes_of_used_rules lines = ((rules_of_policy_lines lines).defaults ++ map alias_node_of_definition (used_definitions lines)) ++ flat_map (λ (line : Line). user_spec_nodes_in line.node) lines

-- Defaults lines, used definitions and user specifications, each of them a line
abbrev pub lines_of_used_rules : List Line → List Line
lines_of_used_rules lines = map line_without_text_of_node (nodes_of_used_rules lines)

nodes_of_lines_without_text_are_nodes : (ns : List Node) → nodes_of_lines (map line_without_text_of_node ns) ≡ ns
nodes_of_lines_without_text_are_nodes [] = refl
nodes_of_lines_without_text_are_nodes (n ∷ ns) = ap (λ ms. n ∷ ms) (nodes_of_lines_without_text_are_nodes ns)

pub flat_map_over_lines_is_over_nodes : {Y : Type 0} (f : Node → List Y) (lines : List Line) → flat_map (λ (line : Line). f line.node) lines ≡ flat_map f (nodes_of_lines lines)
flat_map_over_lines_is_over_nodes f [] = refl
flat_map_over_lines_is_over_nodes f (line ∷ lines) = ap (λ rest. f line.node ++ rest) (flat_map_over_lines_is_over_nodes f lines)

-- ---- what is made of them

module _ {Y : Type 0} (f : Node → List Y) (lines : List Line) where
  pub all_kept : flat_map f (nodes_of_lines (lines_of_used_rules lines))
      ≡ (flat_map f (rules_of_policy_lines lines).defaults ++ flat_map f (map alias_node_of_definition (used_definitions lines))) ++ flat_map f (flat_map (λ (line : Line). user_spec_nodes_in line.node) lines)
  all_kept =
      let r = (rules_of_policy_lines lines).defaults in
      let ds = map alias_node_of_definition (used_definitions lines) in
      let ss = flat_map (λ (line : Line). user_spec_nodes_in line.node) lines in
      ap (flat_map f) (nodes_of_lines_without_text_are_nodes (nodes_of_used_rules lines)) ∙ flat_map-append f (r ++ ds) ss ∙ ap (λ xs. xs ++ flat_map f ss) (flat_map-append f r ds)

  pub none_of_defs : ((k : Kind) (d : Def) → f (alias_node_of_one_definition k d) ≡ []) → (ds : List PlacedDefinition) → flat_map f (map alias_node_of_definition ds) ≡ []
  none_of_defs none [] = refl
  none_of_defs none (d ∷ ds) = ap₂ (λ (xs ys : List Y). xs ++ ys) (none d.kind d.def) (none_of_defs none ds)

  abbrev NoDefaults : Type 0
  NoDefaults = (n : Node) → flat_map f (defaults_nodes_of_line_node n) ≡ []

  abbrev NoSpecs : Type 0
  NoSpecs = (n : Node) → flat_map f (user_spec_nodes_in n) ≡ []

  pub of_defaults : (g : Node → List Y) → ((n : Node) → flat_map f (defaults_nodes_of_line_node n) ≡ g n) → ((k : Kind) (d : Def) → f (alias_node_of_one_definition k d) ≡ []) → NoSpecs
      → flat_map f (nodes_of_lines (lines_of_used_rules lines)) ≡ flat_map g (nodes_of_lines lines)
  of_defaults g each no_defs no_specs =
      all_kept
      ∙ ap₂ (λ (xs ys : List Y). (flat_map f (rules_of_policy_lines lines).defaults ++ xs) ++ ys) (none_of_defs no_defs (used_definitions lines)) (nothing f user_spec_nodes_in no_specs lines)
      ∙ append-nil (flat_map f (rules_of_policy_lines lines).defaults ++ []) ∙ append-nil (flat_map f (rules_of_policy_lines lines).defaults)
      ∙ made_each f defaults_nodes_of_line_node g each lines

  pub of_defs : NoDefaults → NoSpecs → flat_map f (nodes_of_lines (lines_of_used_rules lines)) ≡ flat_map f (map alias_node_of_definition (used_definitions lines))
  of_defs no_defaults no_specs =
      all_kept
      ∙ ap₂ (λ (xs ys : List Y). (xs ++ flat_map f (map alias_node_of_definition (used_definitions lines))) ++ ys) (nothing f defaults_nodes_of_line_node no_defaults lines) (nothing f user_spec_nodes_in no_specs lines)
      ∙ append-nil (flat_map f (map alias_node_of_definition (used_definitions lines)))

  pub of_specs : (g : Node → List Y) → NoDefaults → ((k : Kind) (d : Def) → f (alias_node_of_one_definition k d) ≡ []) → ((n : Node) → flat_map f (user_spec_nodes_in n) ≡ g n)
      → flat_map f (nodes_of_lines (lines_of_used_rules lines)) ≡ flat_map g (nodes_of_lines lines)
  of_specs g no_defaults no_defs each =
      all_kept
      ∙ ap₂ (λ (xs ys : List Y). (xs ++ ys) ++ flat_map f (flat_map (λ (line : Line). user_spec_nodes_in line.node) lines))
      (nothing f defaults_nodes_of_line_node no_defaults lines) (none_of_defs no_defs (used_definitions lines))
      ∙ made_each f user_spec_nodes_in g each lines

-- ---- what is made of one line

module _ {Y : Type 0} (f : Node → List Y) where
  no_specs : ((users : _) (groups : _) → f (node.Spec users groups) ≡ []) → (n : Node) → flat_map f (user_spec_nodes_in n) ≡ []
  no_specs none (node.Spec users groups) = ap (λ (ys : List Y). ys ++ []) (none users groups)
  no_specs none n = refl

effective_specs_in_spec_nodes_are_same : (n : Node) → flat_map effective_spec_nodes_of_line_node (user_spec_nodes_in n) ≡ effective_spec_nodes_of_line_node n
effective_specs_in_spec_nodes_are_same (node.Spec users groups) = refl
effective_specs_in_spec_nodes_are_same n = refl

user_specs_in_spec_nodes_are_same : (n : Node) → flat_map user_spec_list_of_node (user_spec_nodes_in n) ≡ user_spec_list_of_node n
user_specs_in_spec_nodes_are_same (node.Spec users groups) = refl
user_specs_in_spec_nodes_are_same n = refl

definition_nodes_are_one_definition_nodes : (ds : List PlacedDefinition) → flat_map one_definition_nodes_of_line_node (map alias_node_of_definition ds) ≡ map alias_node_of_definition ds
definition_nodes_are_one_definition_nodes [] = refl
definition_nodes_are_one_definition_nodes (d ∷ ds) = ap (λ ns. alias_node_of_definition d ∷ ns) (definition_nodes_are_one_definition_nodes ds)

definition_nodes_hold_their_definitions : (ds : List PlacedDefinition) → flat_map kinds_and_definitions_in_node (map alias_node_of_definition ds) ≡ kinds_and_definitions_of_placed ds
definition_nodes_hold_their_definitions [] = refl
definition_nodes_hold_their_definitions (d ∷ ds) = ap (λ (ss : List KindAndDefinition). (d.kind, d.def) ∷ ss) (definition_nodes_hold_their_definitions ds)

-- ---- the kept lines

abbrev rules_of_three_node_lists : List Node → List Node → List Node → Rules
rules_of_three_node_lists ds es ss = record { defaults = ds; defs = es; specs = ss }

-- Their rules are the used ones.
pub rules_of_used_lines_are_used_rules : (lines : List Line) → rules_of_policy_lines (lines_of_used_rules lines) ≡ rules_with_used_definitions lines
rules_of_used_lines_are_used_rules lines =
    let defaults : (rules_of_policy_lines (lines_of_used_rules lines)).defaults ≡ (rules_of_policy_lines lines).defaults =
    flat_map_over_lines_is_over_nodes defaults_nodes_of_line_node (lines_of_used_rules lines)
    ∙ of_defaults defaults_nodes_of_line_node lines defaults_nodes_of_line_node defaults_nodes_of_defaults_are_same (λ k d. refl) (no_specs defaults_nodes_of_line_node (λ users groups. refl))
    ∙ sym (flat_map_over_lines_is_over_nodes defaults_nodes_of_line_node lines) in
    let defs : (rules_of_policy_lines (lines_of_used_rules lines)).defs ≡ map alias_node_of_definition (used_definitions lines) =
    flat_map_over_lines_is_over_nodes one_definition_nodes_of_line_node (lines_of_used_rules lines)
    ∙ of_defs one_definition_nodes_of_line_node lines (no_defaults one_definition_nodes_of_line_node (λ scope params. refl)) (no_specs one_definition_nodes_of_line_node (λ users groups. refl))
    ∙ definition_nodes_are_one_definition_nodes (used_definitions lines) in
    let specs : (rules_of_policy_lines (lines_of_used_rules lines)).specs ≡ (rules_of_policy_lines lines).specs =
    flat_map_over_lines_is_over_nodes effective_spec_nodes_of_line_node (lines_of_used_rules lines)
    ∙ of_specs effective_spec_nodes_of_line_node lines effective_spec_nodes_of_line_node (no_defaults effective_spec_nodes_of_line_node (λ scope params. refl)) (λ k d. refl) effective_specs_in_spec_nodes_are_same
    ∙ sym (flat_map_over_lines_is_over_nodes effective_spec_nodes_of_line_node lines) in
    rules_by (rules_of_policy_lines (lines_of_used_rules lines)) (rules_of_policy_lines lines).defaults (map alias_node_of_definition (used_definitions lines)) (rules_of_policy_lines lines).specs defaults defs specs
  where
    rules_by : (r : Rules) (ds es ss : List Node) → r.defaults ≡ ds → r.defs ≡ es → r.specs ≡ ss → r ≡ record { defaults = ds; defs = es; specs = ss }
    rules_by r ds es ss a b c =
        ap (λ (x : List Node). rules_of_three_node_lists x r.defs r.specs) a ∙ ap (λ (x : List Node). rules_of_three_node_lists ds x r.specs) b ∙ ap (λ (x : List Node). rules_of_three_node_lists ds es x) c

-- They have the same user specifications,
pub used_lines_keep_user_specs : (lines : List Line) → user_specs_of_lines (lines_of_used_rules lines) ≡ user_specs_of_lines lines
used_lines_keep_user_specs lines =
    user_specs_of_lines_are_of_nodes (lines_of_used_rules lines)
    ∙ of_specs user_spec_list_of_node lines user_spec_list_of_node (no_defaults user_spec_list_of_node (λ scope params. refl)) (λ k d. refl) user_specs_in_spec_nodes_are_same
    ∙ sym (user_specs_of_lines_are_of_nodes lines)

-- the same settings,
pub used_lines_keep_runas_defaults : (lines : List Line) → runas_defaults_of_lines (lines_of_used_rules lines) ≡ runas_defaults_of_lines lines
used_lines_keep_runas_defaults lines =
    runas_defaults_of_lines_are_of_nodes (lines_of_used_rules lines)
    ∙ of_defaults settings_of lines settings_of defaults_nodes_keep_settings (λ k d. refl) (no_specs settings_of (λ users groups. refl))
    ∙ sym (runas_defaults_of_lines_are_of_nodes lines)

-- and the used definitions.
pub used_lines_have_used_definitions : (lines : List Line) → kinds_and_definitions_of_placed (definitions_of_lines (lines_of_used_rules lines)) ≡ kinds_and_definitions_of_placed (used_definitions lines)
used_lines_have_used_definitions lines =
    definitions_from_line_are_those_of_nodes 0 (lines_of_used_rules lines)
    ∙ of_defs kinds_and_definitions_in_node lines (no_defaults kinds_and_definitions_in_node (λ scope params. refl)) (no_specs kinds_and_definitions_in_node (λ users groups. refl))
    ∙ definition_nodes_hold_their_definitions (used_definitions lines)
