-- The rules that are kept of lines can be written, and the text that is printed of them is read.
use Rattle.laws_program.proofs.Common.{◌≡◌, true, List, [], ◌∷◌, ◌++◌, map, sym, subst, AllByRecursion, flat_map, Node, Line, PlacedDefinition, definitions_of_lines, AreWalkLinesWithoutNul}
use Rattle.laws_program.proofs.Common.{is_used, all_append, IsWritableNode, IsReadableNode, Rules, rule_nodes_in_print_order, printed_rules, is_printed_within_limits, IsTextReadAsSameNodes, alias_node_of_definition, used_definitions}
use Rattle.laws_program.proofs.Common.{rules_with_used_definitions, lines_with_aliases_replaced}
use Rattle.sudoers_grammar.specs.Node as node
use Rattle.sudoers_cvt_rules.specs.Rules.{defaults_nodes_of_line_node}
use Rattle.laws_program.proofs.ReadLines.{PrintedLineReadsBack, PrintedLineIsLogicalLine, PrintedLinesAreCutEach, TextHasItsReadOutcome, ReadOutcomeIsUnique, CanDefinitionsFormPolicy, writable_rules_are_read_when_printed}
use Rattle.laws_program.proofs.RuleLines.{ReadNodeIsReadable, walk_lines_are_readable, rules_of_readable_lines_are_writable}
use Rattle.laws_program.proofs.Flattened.{lines_expanded_keep_definitions}
use Rattle.laws_program.proofs.Kept.{user_spec_nodes_in, line_without_text_of_node, nodes_of_used_rules, lines_of_used_rules, rules_of_used_lines_are_used_rules}
use Rattle.laws_program.proofs.Readable.{ChangedSignKeepsWritable, AreReadableLines, IsWritablePlacedDefinition, definitions_from_readable_lines_are_writable, expanded_readable}
use Rattle.laws_program.proofs.Used.{all_filtered, used_definitions_can_form_policy}

nodes_made_of_readable_lines_are_readable : (from : Node → List Node) → ((n : Node) → IsReadableNode n → AllByRecursion IsReadableNode (from n)) → (lines : List Line) → AreReadableLines lines
    → AllByRecursion IsReadableNode (flat_map (λ (line : Line). from line.node) lines)
nodes_made_of_readable_lines_are_readable from each [] all = tt
nodes_made_of_readable_lines_are_readable from each (line ∷ lines) all =
    all_append IsReadableNode (from line.node) (flat_map (λ (l : Line). from l.node) lines) (each line.node all.0) (nodes_made_of_readable_lines_are_readable from each lines all.1)

defaults_of_readable_node_are_readable : (n : Node) → IsReadableNode n → AllByRecursion IsReadableNode (defaults_nodes_of_line_node n)
defaults_of_readable_node_are_readable (node.Defaults scope params) is = (is, tt)
defaults_of_readable_node_are_readable n is = tt

spec_nodes_of_readable_are_readable : (n : Node) → IsReadableNode n → AllByRecursion IsReadableNode (user_spec_nodes_in n)
spec_nodes_of_readable_are_readable (node.Spec users groups) is = (is, tt)
spec_nodes_of_readable_are_readable n is = tt

writable_definitions_make_readable_nodes : (ds : List PlacedDefinition) → AllByRecursion IsWritablePlacedDefinition ds → AllByRecursion IsReadableNode (map alias_node_of_definition ds)
writable_definitions_make_readable_nodes [] all = tt
writable_definitions_make_readable_nodes (d ∷ ds) all = ((all.0, tt), writable_definitions_make_readable_nodes ds all.1)

readable_nodes_make_readable_lines : (ns : List Node) → AllByRecursion IsReadableNode ns → AreReadableLines (map line_without_text_of_node ns)
readable_nodes_make_readable_lines [] all = tt
readable_nodes_make_readable_lines (n ∷ ns) all = (all.0, readable_nodes_make_readable_lines ns all.1)

pub used_lines_of_readable_are_readable : (lines : List Line) → AreReadableLines lines → AreReadableLines (lines_of_used_rules lines)
used_lines_of_readable_are_readable lines all =
    let defaults = flat_map (λ (line : Line). defaults_nodes_of_line_node line.node) lines in
    let defs = map alias_node_of_definition (used_definitions lines) in
    let specs = flat_map (λ (line : Line). user_spec_nodes_in line.node) lines in
    readable_nodes_make_readable_lines (nodes_of_used_rules lines)
    (all_append IsReadableNode (defaults ++ defs) specs
    (all_append IsReadableNode defaults defs (nodes_made_of_readable_lines_are_readable defaults_nodes_of_line_node defaults_of_readable_node_are_readable lines all)
    (writable_definitions_make_readable_nodes (used_definitions lines) (all_filtered (is_used lines) IsWritablePlacedDefinition (definitions_of_lines lines) (definitions_from_readable_lines_are_writable 0 lines all))))
    (nodes_made_of_readable_lines_are_readable user_spec_nodes_in spec_nodes_of_readable_are_readable lines all))

-- Each rule of a policy with its aliases replaced can be written.
pub expanded_rules_are_writable : ReadNodeIsReadable → ChangedSignKeepsWritable → (lines : List Line) → AreWalkLinesWithoutNul lines → AllByRecursion IsWritableNode (rule_nodes_in_print_order (rules_with_used_definitions (lines_with_aliases_replaced lines)))
expanded_rules_are_writable given sign lines policy =
    subst (λ (r : Rules). AllByRecursion IsWritableNode (rule_nodes_in_print_order r)) (rules_of_used_lines_are_used_rules (lines_with_aliases_replaced lines))
    (rules_of_readable_lines_are_writable (lines_of_used_rules (lines_with_aliases_replaced lines)) (used_lines_of_readable_are_readable (lines_with_aliases_replaced lines) (expanded_readable sign lines policy (walk_lines_are_readable given lines policy))))

-- The printed text of these rules is read as lines that say the same.
pub printed_expanded_rules_are_read : PrintedLineReadsBack → PrintedLineIsLogicalLine → PrintedLinesAreCutEach → TextHasItsReadOutcome → ReadOutcomeIsUnique
    → ((lines : List Line) → AreWalkLinesWithoutNul lines → AllByRecursion IsWritableNode (rule_nodes_in_print_order (rules_with_used_definitions (lines_with_aliases_replaced lines))))
    → (lines : List Line) → AreWalkLinesWithoutNul lines → is_printed_within_limits (rules_with_used_definitions (lines_with_aliases_replaced lines)) ≡ true
    → IsTextReadAsSameNodes (printed_rules (rules_with_used_definitions (lines_with_aliases_replaced lines))) (rule_nodes_in_print_order (rules_with_used_definitions (lines_with_aliases_replaced lines)))
printed_expanded_rules_are_read print alone cut read one written lines policy =
    let may : CanDefinitionsFormPolicy (definitions_of_lines lines) = record { free = policy.walk.free; once = policy.walk.once; few = policy.walk.few } in
    let stand = used_definitions_can_form_policy (lines_with_aliases_replaced lines) (subst CanDefinitionsFormPolicy (sym (lines_expanded_keep_definitions lines)) may) in
    let rules = rules_of_used_lines_are_used_rules (lines_with_aliases_replaced lines) in
    subst (λ (r : Rules). is_printed_within_limits r ≡ true → IsTextReadAsSameNodes (printed_rules r) (rule_nodes_in_print_order r)) rules
    (writable_rules_are_read_when_printed print alone cut read one (lines_of_used_rules (lines_with_aliases_replaced lines)) stand
    (subst (λ (r : Rules). AllByRecursion IsWritableNode (rule_nodes_in_print_order r)) (sym rules) (written lines policy)))
