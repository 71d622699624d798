-- What the lines of a policy say beside the definitions of aliases.
use Rattle.std.specs.Prelude.{◌≡◌, ℕ, List, Option, Some, None}
use Rattle.std.specs.List.{filter_map}
use Rattle.sudoers_grammar.specs.declared.node.Kind.{Kind}
use Rattle.sudoers_grammar.specs.Node.{Node}
use Rattle.sudoers_grammar.specs.Node as node
use Rattle.sudoers_tree.specs.Line.{Line}
use Rattle.sudoers_tree.specs.Definition.{members_of_alias_definition}
use Rattle.sudoers_check.specs.Chains.{IsReachedFromSpecOrDefaults}
use Rattle.sudoers_match_list.specs.Alike.{AreBothUndefinedOrHaveSameMembers}

-- what a line says, if it defines no alias
abbrev pub node_unless_alias_line : Node → Option Node
node_unless_alias_line (node.Alias k defs) = None
node_unless_alias_line node.Blank = Some node.Blank
node_unless_alias_line node.Comment = Some node.Comment
node_unless_alias_line (node.Include dir path) = Some (node.Include dir path)
node_unless_alias_line (node.Defaults scope params) = Some (node.Defaults scope params)
node_unless_alias_line (node.Spec users groups) = Some (node.Spec users groups)

-- what the lines say that define no alias, in file order
abbrev pub nodes_without_alias_lines : List Line → List Node
nodes_without_alias_lines lines = filter_map (λ (line : Line). node_unless_alias_line line.node) lines

-- The second policy has the lines of the first, definitions aside. An alias has its members there, if a chain of mentions leads to it from
-- a user specification or a Defaults line.
pub record HasSameLinesAndReachableAliases (lines others : List Line) : Type 0 where
  pub beside : nodes_without_alias_lines others ≡ nodes_without_alias_lines lines
  pub members : (k : Kind) (name : List ℕ) → IsReachedFromSpecOrDefaults k lines name → AreBothUndefinedOrHaveSameMembers (members_of_alias_definition k name lines) (members_of_alias_definition k name others)
