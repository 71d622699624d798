-- The numbers of the definitions of a policy, and the definitions as the numbered nodes of a graph.
use Rattle.std.specs.Prelude.{ℕ, zero, suc, ◌+◌, Bool, true, false, List, [], ◌∷◌, ◌++◌, length, map, Option, Some, None, if◌then◌else◌}
use Rattle.std.specs.List.{filter_map}
use Rattle.std.specs.Option.{option_map}
use Rattle.sudoers_grammar.specs.declared.node.Kind.{Kind}
use Rattle.sudoers_grammar.specs.Node.{Node}
use Rattle.sudoers_grammar.specs.Node as node
use Rattle.sudoers_grammar.specs.Listed.{AliasMember}
use Rattle.sudoers_tree.specs.Line.{Line}
use Rattle.sudoers_tree.specs.Definition.{PlacedDefinition, is_definition_of_name}
use Rattle.sudoers_check.specs.Mentioned.{Mention, mentions_in_node}
use Rattle.sudoers_check.specs.Chains.{alias_names_among_members}
use Rattle.sudoers_check.specs.declared.definition_numbers.AliasLineFirstNumber.{AliasLineFirstNumber}

-- how many definitions a line has that says this
abbrev pub definition_count_in_node : Node → ℕ
definition_count_in_node (node.Alias k defs) = length defs
definition_count_in_node node.Blank = 0
definition_count_in_node node.Comment = 0
definition_count_in_node (node.Include dir path) = 0
definition_count_in_node (node.Defaults scope params) = 0
definition_count_in_node (node.Spec users groups) = 0

-- a line with so many definitions, if it has any
abbrev pub alias_line_if_any : ℕ → ℕ → ℕ → List AliasLineFirstNumber
alias_line_if_any line number zero = []
alias_line_if_any line number (suc many) = record { line = line; number = number } ∷ []

-- the lines that have definitions, of lines that are numbered from n on, each with how many definitions stand before it, where so many
-- stand before all
abbrev pub alias_lines_of_lines_numbered_from : ℕ → ℕ → List Line → List AliasLineFirstNumber
alias_lines_of_lines_numbered_from n number [] = []
alias_lines_of_lines_numbered_from n number (line ∷ lines) = alias_line_if_any n number (definition_count_in_node line.node) ++ alias_lines_of_lines_numbered_from (n + 1) (number + definition_count_in_node line.node) lines

-- which of the definitions is the first of this name in this kind
abbrev pub number_of_definition : Kind → List ℕ → List PlacedDefinition → Option ℕ
number_of_definition k name [] = None
number_of_definition k name (d ∷ ds) = if is_definition_of_name k name d then Some 0 else option_map suc (number_of_definition k name ds)

-- the numbers of those of the names that are defined
abbrev pub numbers_of_defined_names : Kind → List (List ℕ) → List PlacedDefinition → List ℕ
numbers_of_defined_names k names ds = filter_map (λ name. number_of_definition k name ds) names

-- the numbers of those of the aliases that are defined
abbrev pub numbers_of_defined_aliases : List PlacedDefinition → List AliasMember → List ℕ
numbers_of_defined_aliases ds aliases = filter_map (λ (a : AliasMember). number_of_definition a.kind a.name ds) aliases

-- each of the others with the numbers of those that it mentions
abbrev pub graph_nodes_of_definitions : List PlacedDefinition → List PlacedDefinition → List (List ℕ)
graph_nodes_of_definitions ds others = map (λ (d : PlacedDefinition). numbers_of_defined_names d.kind (alias_names_among_members d.def.members) ds) others

-- the graph: each definition leads to those that it mentions
abbrev pub mention_graph_of_definitions : List PlacedDefinition → List (List ℕ)
mention_graph_of_definitions ds = graph_nodes_of_definitions ds ds

abbrev pub is_spec_or_defaults_line_node : Node → Bool
is_spec_or_defaults_line_node (node.Spec users groups) = true
is_spec_or_defaults_line_node (node.Defaults scope params) = true
is_spec_or_defaults_line_node (node.Alias k defs) = false
is_spec_or_defaults_line_node node.Blank = false
is_spec_or_defaults_line_node node.Comment = false
is_spec_or_defaults_line_node (node.Include dir path) = false

-- the numbers of what is mentioned there, where it is defined
abbrev pub numbers_of_defined_mentions : List PlacedDefinition → List Mention → List ℕ
numbers_of_defined_mentions ds ms = filter_map (λ (m : Mention). number_of_definition m.kind m.name ds) ms

-- the numbers of the definitions that user specifications and Defaults lines mention, of lines that are numbered from this on
abbrev pub root_numbers_in_lines_numbered_from : List PlacedDefinition → ℕ → List Line → List ℕ
root_numbers_in_lines_numbered_from ds n [] = []
root_numbers_in_lines_numbered_from ds n (line ∷ lines) =
    (if is_spec_or_defaults_line_node line.node then numbers_of_defined_mentions ds (mentions_in_node n line.node) else []) ++ root_numbers_in_lines_numbered_from ds (n + 1) lines

-- those of the definitions that have this mark
abbrev pub definitions_with_mark : Bool → List Bool → List PlacedDefinition → List PlacedDefinition
definitions_with_mark wanted [] ds = []
definitions_with_mark wanted (m ∷ ms) [] = []
definitions_with_mark true (true ∷ ms) (d ∷ ds) = d ∷ definitions_with_mark true ms ds
definitions_with_mark true (false ∷ ms) (d ∷ ds) = definitions_with_mark true ms ds
definitions_with_mark false (true ∷ ms) (d ∷ ds) = definitions_with_mark false ms ds
definitions_with_mark false (false ∷ ms) (d ∷ ds) = d ∷ definitions_with_mark false ms ds
