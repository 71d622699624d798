-- The rules of what is read of printed rules are printed as these.
use Rattle.laws_program.proofs.Common.{◌≡◌, ℕ, ◌&&◌, nat_le, true, List, [], ◌∷◌, ◌++◌, length, map, Ok, refl, sym, ap, ap₂, subst, ◌∙◌}
use Rattle.laws_program.proofs.Common.{flat_map, list_all, map-append, text_limit, line_limit, join, Kind, Def, Node, Line, AreWalkLinesWithoutNul, policy_lines_of_text}
use Rattle.laws_program.proofs.Common.{printed_line, AreItemsPairwiseRelated, NodeIsReadBackAs, effective_spec_nodes_of_line_node, alias_node_of_one_definition, one_definition_nodes_of_line_node, rules_of_policy_lines, rule_nodes_in_print_order, printed_rules, is_printed_within_limits, nodes_of_lines, IsTextReadAsSameNodes}
use Rattle.sudoers_grammar.specs.Node as node
use Rattle.sudoers_cvt_rules.specs.Rules.{defaults_nodes_of_line_node}
use Rattle.laws_program.proofs.Prints.{same_nodes_print_defaults_alike, same_nodes_print_definitions_alike, same_nodes_print_user_specs_alike, printed_lines_are_join_of_each, nodes_of_same_nodes_are_printed_alike}
use Rattle.laws_program.proofs.Parts.{no_defaults, no_defs, no_specs, made_of_defaults, made_of_defs, made_of_specs}
use Rattle.laws_program.proofs.Twice.{effective_host_groups_are_stable}

nodes_made_of_lines_are_of_nodes : (f : Node → List Node) (lines : List Line) → flat_map (λ (line : Line). f line.node) lines ≡ flat_map f (nodes_of_lines lines)
nodes_made_of_lines_are_of_nodes f [] = refl
nodes_made_of_lines_are_of_nodes f (line ∷ lines) = ap (λ (t : List Node). f line.node ++ t) (nodes_made_of_lines_are_of_nodes f lines)

-- ---- what some rules give again

pub defaults_nodes_of_defaults_are_same : (n : Node) → flat_map defaults_nodes_of_line_node (defaults_nodes_of_line_node n) ≡ defaults_nodes_of_line_node n
defaults_nodes_of_defaults_are_same (node.Defaults scope params) = refl
defaults_nodes_of_defaults_are_same n = refl

definition_nodes_split_again_are_same : (k : Kind) (ds : List Def) → flat_map one_definition_nodes_of_line_node (map (alias_node_of_one_definition k) ds) ≡ map (alias_node_of_one_definition k) ds
definition_nodes_split_again_are_same k [] = refl
definition_nodes_split_again_are_same k (d ∷ ds) = ap (λ (t : List Node). alias_node_of_one_definition k d ∷ t) (definition_nodes_split_again_are_same k ds)

one_definition_nodes_split_again_are_same : (n : Node) → flat_map one_definition_nodes_of_line_node (one_definition_nodes_of_line_node n) ≡ one_definition_nodes_of_line_node n
one_definition_nodes_split_again_are_same (node.Alias k ds) = definition_nodes_split_again_are_same k ds
one_definition_nodes_split_again_are_same n = refl

effective_spec_nodes_again_are_same : (n : Node) → flat_map effective_spec_nodes_of_line_node (effective_spec_nodes_of_line_node n) ≡ effective_spec_nodes_of_line_node n
effective_spec_nodes_again_are_same (node.Spec users groups) = ap (λ gs. node.Spec users gs ∷ []) (effective_host_groups_are_stable groups)
effective_spec_nodes_again_are_same n = refl

-- the lines that are printed of rules of a sort, where these give themselves
rules_of_sort_are_printed_same_again : (f : Node → List Node) → ((n m : Node) → NodeIsReadBackAs n m → map printed_line (f n) ≡ map printed_line (f m)) → (lines read : List Line) → AreItemsPairwiseRelated NodeIsReadBackAs (rule_nodes_in_print_order (rules_of_policy_lines lines)) (nodes_of_lines read)
    → flat_map f (rule_nodes_in_print_order (rules_of_policy_lines lines)) ≡ flat_map f (nodes_of_lines lines)
    → map printed_line (flat_map (λ (line : Line). f line.node) read) ≡ map printed_line (flat_map (λ (line : Line). f line.node) lines)
rules_of_sort_are_printed_same_again f each lines read same made =
    ap (map printed_line) (nodes_made_of_lines_are_of_nodes f read) ∙ sym (nodes_of_same_nodes_are_printed_alike f each (rule_nodes_in_print_order (rules_of_policy_lines lines)) (nodes_of_lines read) same)
    ∙ ap (map printed_line) (made ∙ sym (nodes_made_of_lines_are_of_nodes f lines))

-- the lines that are printed of rules, one by one
rule_lines_are_printed_same_again : (lines read : List Line) → AreItemsPairwiseRelated NodeIsReadBackAs (rule_nodes_in_print_order (rules_of_policy_lines lines)) (nodes_of_lines read)
    → map printed_line (rule_nodes_in_print_order (rules_of_policy_lines read)) ≡ map printed_line (rule_nodes_in_print_order (rules_of_policy_lines lines))
rule_lines_are_printed_same_again lines read same =
    let r = rules_of_policy_lines lines in
    let o = rules_of_policy_lines read in
    let d = rules_of_sort_are_printed_same_again defaults_nodes_of_line_node same_nodes_print_defaults_alike lines read same
    (made_of_defaults defaults_nodes_of_line_node defaults_nodes_of_line_node defaults_nodes_of_defaults_are_same (no_defs defaults_nodes_of_line_node (λ k d. refl)) (no_specs defaults_nodes_of_line_node (λ users groups. refl)) lines) in
    let a = rules_of_sort_are_printed_same_again one_definition_nodes_of_line_node same_nodes_print_definitions_alike lines read same
    (made_of_defs one_definition_nodes_of_line_node one_definition_nodes_of_line_node (no_defaults one_definition_nodes_of_line_node (λ scope params. refl)) one_definition_nodes_split_again_are_same (no_specs one_definition_nodes_of_line_node (λ users groups. refl)) lines) in
    let s = rules_of_sort_are_printed_same_again effective_spec_nodes_of_line_node same_nodes_print_user_specs_alike lines read same
    (made_of_specs effective_spec_nodes_of_line_node effective_spec_nodes_of_line_node (no_defaults effective_spec_nodes_of_line_node (λ scope params. refl)) (no_defs effective_spec_nodes_of_line_node (λ k d. refl)) effective_spec_nodes_again_are_same lines) in
    map-append printed_line (o.defaults ++ o.defs) o.specs
    ∙ ap₂ (λ (x y : List (List ℕ)). x ++ y)
    (map-append printed_line o.defaults o.defs ∙ ap₂ (λ (x y : List (List ℕ)). x ++ y) d a ∙ sym (map-append printed_line r.defaults r.defs)) s
    ∙ sym (map-append printed_line (r.defaults ++ r.defs) r.specs)

-- Rules that were printed are printed so again.
pub rules_read_of_print_are_printed_same : (lines read : List Line) → AreItemsPairwiseRelated NodeIsReadBackAs (rule_nodes_in_print_order (rules_of_policy_lines lines)) (nodes_of_lines read) → printed_rules (rules_of_policy_lines read) ≡ printed_rules (rules_of_policy_lines lines)
rules_read_of_print_are_printed_same lines read same = printed_lines_are_join_of_each (rule_nodes_in_print_order (rules_of_policy_lines read)) ∙ ap join (rule_lines_are_printed_same_again lines read same) ∙ sym (printed_lines_are_join_of_each (rule_nodes_in_print_order (rules_of_policy_lines lines)))

-- whether each line is within the limit
line_limit_test_is_over_printed_texts : (ns : List Node) → list_all (λ n. nat_le (length (printed_line n)) line_limit) ns ≡ list_all (λ text. nat_le (length text) line_limit) (map printed_line ns)
line_limit_test_is_over_printed_texts [] = refl
line_limit_test_is_over_printed_texts (n ∷ ns) = ap (λ t. nat_le (length (printed_line n)) line_limit && t) (line_limit_test_is_over_printed_texts ns)

pub second_print_fits_if_first_does : (lines read : List Line) → AreItemsPairwiseRelated NodeIsReadBackAs (rule_nodes_in_print_order (rules_of_policy_lines lines)) (nodes_of_lines read) → is_printed_within_limits (rules_of_policy_lines read) ≡ is_printed_within_limits (rules_of_policy_lines lines)
second_print_fits_if_first_does lines read same =
    ap₂ (λ text t. nat_le (length text) text_limit && t) (rules_read_of_print_are_printed_same lines read same)
    (line_limit_test_is_over_printed_texts (rule_nodes_in_print_order (rules_of_policy_lines read)) ∙ ap (list_all (λ text. nat_le (length text) line_limit)) (rule_lines_are_printed_same_again lines read same)
    ∙ sym (line_limit_test_is_over_printed_texts (rule_nodes_in_print_order (rules_of_policy_lines lines))))

-- what the law of printed rules says
abbrev pub PrintedRulesAreRead : Type 0
PrintedRulesAreRead = (lines : List Line) → AreWalkLinesWithoutNul lines → is_printed_within_limits (rules_of_policy_lines lines) ≡ true → IsTextReadAsSameNodes (printed_rules (rules_of_policy_lines lines)) (rule_nodes_in_print_order (rules_of_policy_lines lines))

-- what is read is what was printed
pub lines_read_of_print_are_rules : PrintedRulesAreRead → (lines read : List Line) → AreWalkLinesWithoutNul lines → is_printed_within_limits (rules_of_policy_lines lines) ≡ true → policy_lines_of_text (printed_rules (rules_of_policy_lines lines)) ≡ Ok read
    → AreItemsPairwiseRelated NodeIsReadBackAs (rule_nodes_in_print_order (rules_of_policy_lines lines)) (nodes_of_lines read)
lines_read_of_print_are_rules law lines read is size e =
    let there = law lines is size in
    let one : there.read ≡ read = let both = sym there.is ∙ e in cc in
    subst (λ (ls : List Line). AreItemsPairwiseRelated NodeIsReadBackAs (rule_nodes_in_print_order (rules_of_policy_lines lines)) (nodes_of_lines ls)) one there.same

-- A second printing gives the same text.
pub second_printing_of_rules_is_same : PrintedRulesAreRead → (lines read : List Line) → AreWalkLinesWithoutNul lines → is_printed_within_limits (rules_of_policy_lines lines) ≡ true → policy_lines_of_text (printed_rules (rules_of_policy_lines lines)) ≡ Ok read
    → printed_rules (rules_of_policy_lines read) ≡ printed_rules (rules_of_policy_lines lines)
second_printing_of_rules_is_same law lines read is size e = rules_read_of_print_are_printed_same lines read (lines_read_of_print_are_rules law lines read is size e)

-- It is within the limits.
pub second_printing_of_rules_fits : PrintedRulesAreRead → (lines read : List Line) → AreWalkLinesWithoutNul lines → is_printed_within_limits (rules_of_policy_lines lines) ≡ true → policy_lines_of_text (printed_rules (rules_of_policy_lines lines)) ≡ Ok read
    → is_printed_within_limits (rules_of_policy_lines read) ≡ true
second_printing_of_rules_fits law lines read is size e = second_print_fits_if_first_does lines read (lines_read_of_print_are_rules law lines read is size e) ∙ size
