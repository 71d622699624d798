-- Each line of the rules of a policy can be written.
use Rattle.laws_print.proofs.Kept.{nonempty_list_has_property_of_all}
use Rattle.laws_program.proofs.Common.{◌≡◌, ℕ, false, List, [], ◌∷◌, ◌++◌, map, AllByRecursion, flat_map, Kind, Def, Node, has_byte, Line}
use Rattle.laws_program.proofs.Common.{texts_of_lines, IsCorrectlyParsed, AreWalkLinesWithoutNul, IsWritableDefinition, IsWritableNode, IsReadableNode, effective_spec_nodes_of_line_node, alias_node_of_one_definition, one_definition_nodes_of_line_node, rules_of_policy_lines, rule_nodes_in_print_order}
use Rattle.sudoers_grammar.specs.Node as node
use Rattle.sudoers_grammar.specs.Line.{LineReadsAsNode}
use Rattle.sudoers_cvt_rules.specs.Rules.{defaults_nodes_of_line_node}
use Rattle.laws_program.proofs.Clean.{texts_of_clean_join_have_no_nul}
use Rattle.laws_program.proofs.PrintedHeads.{appended_lists_keep_property_of_all, effective_host_groups_are_writable}

-- what the law of what is read says
abbrev pub ReadNodeIsReadable : Type 0
ReadNodeIsReadable = (line : List ℕ) (n : Node) → has_byte 0 line ≡ false → LineReadsAsNode line n → IsReadableNode n

-- ---- what one line gives

writable_definitions_make_writable_nodes : (k : Kind) (ds : List Def) → AllByRecursion (IsWritableDefinition k) ds → AllByRecursion IsWritableNode (map (alias_node_of_one_definition k) ds)
writable_definitions_make_writable_nodes k [] all = tt
writable_definitions_make_writable_nodes k (d ∷ ds) all = (all.0, writable_definitions_make_writable_nodes k ds all.1)

defaults_of_readable_node_are_writable : (n : Node) → IsReadableNode n → AllByRecursion IsWritableNode (defaults_nodes_of_line_node n)
defaults_of_readable_node_are_writable (node.Defaults scope params) is = (is, tt)
defaults_of_readable_node_are_writable n is = tt

definitions_of_readable_node_are_writable : (n : Node) → IsReadableNode n → AllByRecursion IsWritableNode (one_definition_nodes_of_line_node n)
definitions_of_readable_node_are_writable (node.Alias k ds) is = writable_definitions_make_writable_nodes k ds (nonempty_list_has_property_of_all (IsWritableDefinition k) ds is)
definitions_of_readable_node_are_writable n is = tt

effective_specs_of_readable_are_writable : (n : Node) → IsReadableNode n → AllByRecursion IsWritableNode (effective_spec_nodes_of_line_node n)
effective_specs_of_readable_are_writable (node.Spec users groups) is = ((is.0, effective_host_groups_are_writable groups is.1), tt)
effective_specs_of_readable_are_writable n is = tt

-- ---- what all lines give

parsed_lines_without_nul_are_readable : ReadNodeIsReadable → (lines : List Line) → AllByRecursion (λ (text : List ℕ). has_byte 0 text ≡ false) (texts_of_lines lines) → AllByRecursion IsCorrectlyParsed lines → AllByRecursion (λ (line : Line). IsReadableNode line.node) lines
parsed_lines_without_nul_are_readable law [] clean says = tt
parsed_lines_without_nul_are_readable law (line ∷ lines) clean says = (law line.text line.node clean.0 says.0, parsed_lines_without_nul_are_readable law lines clean.1 says.1)

nodes_made_of_readable_lines_are_writable : (from : Node → List Node) → ((n : Node) → IsReadableNode n → AllByRecursion IsWritableNode (from n)) → (lines : List Line) → AllByRecursion (λ (line : Line). IsReadableNode line.node) lines → AllByRecursion IsWritableNode (flat_map (λ (line : Line). from line.node) lines)
nodes_made_of_readable_lines_are_writable from each [] all = tt
nodes_made_of_readable_lines_are_writable from each (line ∷ lines) all = appended_lists_keep_property_of_all IsWritableNode (from line.node) (flat_map (λ (l : Line). from l.node) lines) (each line.node all.0) (nodes_made_of_readable_lines_are_writable from each lines all.1)

-- What the lines of a policy say was read.
pub walk_lines_are_readable : ReadNodeIsReadable → (lines : List Line) → AreWalkLinesWithoutNul lines → AllByRecursion (λ (line : Line). IsReadableNode line.node) lines
walk_lines_are_readable law lines is = parsed_lines_without_nul_are_readable law lines (texts_of_clean_join_have_no_nul (texts_of_lines lines) is.clean) is.walk.says

-- Each line of the rules of such lines can be written.
pub rules_of_readable_lines_are_writable : (lines : List Line) → AllByRecursion (λ (line : Line). IsReadableNode line.node) lines → AllByRecursion IsWritableNode (rule_nodes_in_print_order (rules_of_policy_lines lines))
rules_of_readable_lines_are_writable lines all =
    let r = rules_of_policy_lines lines in
    appended_lists_keep_property_of_all IsWritableNode (r.defaults ++ r.defs) r.specs
    (appended_lists_keep_property_of_all IsWritableNode r.defaults r.defs (nodes_made_of_readable_lines_are_writable defaults_nodes_of_line_node defaults_of_readable_node_are_writable lines all) (nodes_made_of_readable_lines_are_writable one_definition_nodes_of_line_node definitions_of_readable_node_are_writable lines all))
    (nodes_made_of_readable_lines_are_writable effective_spec_nodes_of_line_node effective_specs_of_readable_are_writable lines all)

pub rules_of_walk_lines_are_writable : ReadNodeIsReadable → (lines : List Line) → AreWalkLinesWithoutNul lines → AllByRecursion IsWritableNode (rule_nodes_in_print_order (rules_of_policy_lines lines))
rules_of_walk_lines_are_writable law lines is = rules_of_readable_lines_are_writable lines (walk_lines_are_readable law lines is)
