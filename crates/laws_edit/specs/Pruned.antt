-- What a prune leaves of a policy.
use Rattle.std.specs.Prelude.{◌≡◌, ℕ, Bool, not, List}
use Rattle.std.specs.List.{filter}
use Rattle.sudoers_grammar.specs.declared.node.Kind.{Kind}
use Rattle.sudoers_tree.specs.Definition.{PlacedDefinition, definitions_of_lines, members_of_alias_definition}
use Rattle.sudoers_tree.specs.Fault.{is_some}
use Rattle.sudoers_tree.specs.Line.{Line}
use Rattle.sudoers_check.specs.Chain.{ListHasElement}
use Rattle.sudoers_check.specs.Chains.{IsReachedFromSpecOrDefaults}
use Rattle.sudoers_match_list.specs.Alike.{AreBothUndefinedOrHaveSameMembers}
use Rattle.sudoers_edit.specs.SpliceEdits.{definitions_of_alias_line}

abbrev pub has_no_alias_definition : Line → Bool
has_no_alias_definition line = not (is_some (definitions_of_alias_line line.node))

-- The second policy has each line of the first that defines no alias, byte for byte and in its order. It has each alias to which a chain
-- of mentions leads, with its members, and defines no other.
pub record KeepsReachableAliasesOnly (policy next : List Line) : Type 0 where
  pub others : filter has_no_alias_definition next ≡ filter has_no_alias_definition policy
  pub kept : (k : Kind) (name : List ℕ) → IsReachedFromSpecOrDefaults k policy name → AreBothUndefinedOrHaveSameMembers (members_of_alias_definition k name policy) (members_of_alias_definition k name next)
  pub reachable : (d : PlacedDefinition) → ListHasElement (definitions_of_lines next) d → IsReachedFromSpecOrDefaults d.kind policy d.def.name
