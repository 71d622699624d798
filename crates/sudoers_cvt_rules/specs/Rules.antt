-- The rules of a policy: what its lines say, its comments, blank lines and includes aside.
use Rattle.std.specs.Prelude.{ℕ, ◌&&◌, nat_le, Bool, List, [], ◌∷◌, ◌++◌, length, map, if◌then◌else◌}
use Rattle.std.specs.List.{flat_map, list_all}
use Rattle.sudoers_text.specs.Fault.{text_limit, line_limit}
use Rattle.sudoers_grammar.specs.declared.node.Kind.{Kind}
use Rattle.sudoers_grammar.specs.Node.{Def, Node}
use Rattle.sudoers_grammar.specs.Node as node
use Rattle.sudoers_tree.specs.Line.{Line}
use Rattle.sudoers_cvt_spell.specs.Lines.{printed_line, printed_lines}
use Rattle.sudoers_cvt_rules.specs.Effective.{node_with_effective_commands}

-- Defaults lines; alias lines of one definition each; user specifications whose commands say all that holds of them
pub record Rules : Type 0 where
  pub defaults : List Node
  pub defs : List Node
  pub specs : List Node

-- the Defaults line, the user specification or the definitions that a line is
abbrev pub defaults_nodes_of_line_node : Node → List Node
defaults_nodes_of_line_node (node.Defaults scope params) = node.Defaults scope params ∷ []
defaults_nodes_of_line_node (node.Alias k defs) = []
defaults_nodes_of_line_node (node.Spec users groups) = []
defaults_nodes_of_line_node node.Blank = []
defaults_nodes_of_line_node node.Comment = []
defaults_nodes_of_line_node (node.Include dir path) = []

abbrev pub effective_spec_nodes_of_line_node : Node → List Node
effective_spec_nodes_of_line_node (node.Spec users groups) = node_with_effective_commands (node.Spec users groups) ∷ []
effective_spec_nodes_of_line_node (node.Defaults scope params) = []
effective_spec_nodes_of_line_node (node.Alias k defs) = []
effective_spec_nodes_of_line_node node.Blank = []
effective_spec_nodes_of_line_node node.Comment = []
effective_spec_nodes_of_line_node (node.Include dir path) = []

abbrev pub alias_node_of_one_definition : Kind → Def → Node
alias_node_of_one_definition k d = node.Alias k (d ∷ [])

abbrev pub one_definition_nodes_of_line_node : Node → List Node
one_definition_nodes_of_line_node (node.Alias k defs) = map (alias_node_of_one_definition k) defs
one_definition_nodes_of_line_node (node.Defaults scope params) = []
one_definition_nodes_of_line_node (node.Spec users groups) = []
one_definition_nodes_of_line_node node.Blank = []
one_definition_nodes_of_line_node node.Comment = []
one_definition_nodes_of_line_node (node.Include dir path) = []

abbrev pub rules_of_policy_lines : List Line → Rules
rules_of_policy_lines lines = record {
  defaults = flat_map (λ (line : Line). defaults_nodes_of_line_node line.node) lines;
  defs = flat_map (λ (line : Line). one_definition_nodes_of_line_node line.node) lines;
  specs = flat_map (λ (line : Line). effective_spec_nodes_of_line_node line.node) lines;
}

-- those of a list that have a mark
abbrev pub marked_items : {X : Type 0} → List Bool → List X → List X
marked_items [] xs = []
marked_items (mark ∷ marks) [] = []
marked_items (mark ∷ marks) (x ∷ xs) = if mark then x ∷ marked_items marks xs else marked_items marks xs

-- the rules, of definitions only those with a mark
abbrev pub rules_with_marked_definitions : List Bool → Rules → Rules
rules_with_marked_definitions marks r = record { defaults = r.defaults; defs = marked_items marks r.defs; specs = r.specs }

-- all lines, in the order in which they are printed
abbrev pub rule_nodes_in_print_order : Rules → List Node
rule_nodes_in_print_order r = r.defaults ++ r.defs ++ r.specs

abbrev pub printed_rules : Rules → List ℕ
printed_rules r = printed_lines (rule_nodes_in_print_order r)

-- What is printed, and each of its lines, is within the limit of a policy.
abbrev pub is_printed_within_limits : Rules → Bool
is_printed_within_limits r = nat_le (length (printed_rules r)) text_limit && list_all (λ n. nat_le (length (printed_line n)) line_limit) (rule_nodes_in_print_order r)
