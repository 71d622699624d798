-- Lists that lead to aliases which are joined to themselves.
use Rattle.std.specs.Prelude.{◌≡◌, List}
use Rattle.sudoers_grammar.specs.declared.node.Kind.{Kind}
use Rattle.sudoers_grammar.specs.Node.{Member}
use Rattle.sudoers_tree.specs.Line.{Line}
use Rattle.sudoers_tree.specs.Definition.{PlacedDefinition, definitions_of_lines}
use Rattle.sudoers_check.specs.Chain.{ListHasElement, IsReachedByChainOfSteps}
use Rattle.sudoers_check.specs.Chains.{alias_names_among_members, DefinitionMentionsName, IsCyclic}

-- A chain of mentions leads from the list of this kind to a cyclic alias.
pub record ListLeadsToCyclicAlias (k : Kind) (lines : List Line) (ms : List Member) : Type 0 where
  pub alias : PlacedDefinition
  pub stands : ListHasElement (definitions_of_lines lines) alias
  pub of_kind : alias.kind ≡ k
  pub reached : IsReachedByChainOfSteps (DefinitionMentionsName k (definitions_of_lines lines)) (ListHasElement (alias_names_among_members ms)) alias.def.name
  pub cyclic : IsCyclic lines alias
