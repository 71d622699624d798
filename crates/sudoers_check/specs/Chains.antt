-- Aliases by the chains of mentions that lead to them (sudoers(5), Aliases; visudo(8)).
use Rattle.std.specs.Prelude.{◌≡◌, ℕ, List, [], ◌∷◌}
use Rattle.std.specs.List.{flat_map}
use Rattle.sudoers_grammar.specs.declared.node.Kind.{Kind}
use Rattle.sudoers_grammar.specs.declared.node.Atom.{Atom}
use Rattle.sudoers_grammar.specs.declared.node.Atom.TheVariants as atom
use Rattle.sudoers_grammar.specs.Node.{Member, Node}
use Rattle.sudoers_grammar.specs.Node as node
use Rattle.sudoers_tree.specs.Line.{Line}
use Rattle.sudoers_tree.specs.Definition.{PlacedDefinition, definitions_of_lines}
use Rattle.sudoers_tree.specs.Mention.{members_of_kind_in_line}
use Rattle.sudoers_check.specs.Chain.{ListHasElement, IsReachedByChainOfSteps}

abbrev pub alias_names_of_atom : Atom → List (List ℕ)
alias_names_of_atom (atom.Alias name) = name ∷ []
alias_names_of_atom other = []

-- the names of aliases among members
abbrev pub alias_names_among_members : List Member → List (List ℕ)
alias_names_among_members members = flat_map (λ (m : Member). alias_names_of_atom m.atom) members

-- A definition is joined to each name that it mentions: one of this kind and name mentions the other.
pub record DefinitionMentionsName (k : Kind) (ds : List PlacedDefinition) (name other : List ℕ) : Type 0 where
  pub by : PlacedDefinition
  pub stands : ListHasElement ds by
  pub of_kind : by.kind ≡ k
  pub of_name : by.def.name ≡ name
  pub mentions : ListHasElement (alias_names_among_members by.def.members) other

-- the names of this kind that a line mentions that says this, if it is a user specification or a Defaults line
abbrev pub root_names_in_node : Kind → Node → List (List ℕ)
root_names_in_node k (node.Spec users groups) = alias_names_among_members (members_of_kind_in_line k (node.Spec users groups))
root_names_in_node k (node.Defaults scope params) = alias_names_among_members (members_of_kind_in_line k (node.Defaults scope params))
root_names_in_node k (node.Alias j defs) = []
root_names_in_node k node.Blank = []
root_names_in_node k node.Comment = []
root_names_in_node k (node.Include dir path) = []

-- what user specifications and Defaults lines mention
abbrev pub root_alias_names : Kind → List Line → List (List ℕ)
root_alias_names k lines = flat_map (λ (line : Line). root_names_in_node k line.node) lines

-- A chain of mentions leads to the name from a user specification or a Defaults line.
abbrev pub IsReachedFromSpecOrDefaults : Kind → List Line → List ℕ → Type 0
IsReachedFromSpecOrDefaults k lines = IsReachedByChainOfSteps (DefinitionMentionsName k (definitions_of_lines lines)) (ListHasElement (root_alias_names k lines))

-- The definition's alias is joined to itself by a chain of one or more mentions.
abbrev pub IsCyclic : List Line → PlacedDefinition → Type 0
IsCyclic lines d = IsReachedByChainOfSteps (DefinitionMentionsName d.kind (definitions_of_lines lines)) (ListHasElement (alias_names_among_members d.def.members)) d.def.name

-- Some alias is cyclic to which a chain of mentions leads from a user specification or a Defaults line.
pub record HasCyclicAliasReachedFromSpecOrDefaults (lines : List Line) : Type 0 where
  pub alias : PlacedDefinition
  pub stands : ListHasElement (definitions_of_lines lines) alias
  pub reached : IsReachedFromSpecOrDefaults alias.kind lines alias.def.name
  pub cyclic : IsCyclic lines alias
