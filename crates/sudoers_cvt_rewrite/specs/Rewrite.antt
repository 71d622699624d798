-- The lines of a policy, filtered and with their aliases replaced, and the rules taken from them (cvtsudoers(1), -m, -p, -e).
use Rattle.std.specs.Prelude.{◌+◌, ◌&&◌, ℕ, Bool, true, false, List, [], map, Option, Some, None}
use Rattle.std.specs.List.{filter, list_any}
use Rattle.sudoers_grammar.specs.Node.{Node}
use Rattle.sudoers_tree.specs.Line.{Line}
use Rattle.sudoers_tree.specs.Definition.{PlacedDefinition, definitions_of_lines}
use Rattle.sudoers_check.specs.Led.{is_used, is_cyclic}
use Rattle.sudoers_cvt_rules.specs.Rules.{Rules, rules_of_policy_lines, alias_node_of_one_definition}
use Rattle.sudoers_cvt_rewrite.specs.Expand.{expanded_node}
use Rattle.sudoers_cvt_rewrite.specs.declared.filter.Filter.{Filter}
use Rattle.sudoers_cvt_rewrite.specs.Filter.{node_or_blank_left_by_filter}
use Rattle.sudoers_cvt_rewrite.specs.Count.{specs_and_defaults_member_count, alias_lines_member_count}

-- what is to be changed: the filter, if there is one; whether members that do not match it fall; whether aliases are replaced
pub record PolicyChanges : Type 0 where
  pub filter : Option Filter
  pub prune : Bool
  pub expand : Bool

abbrev pub node_filtered_if_any : List Line → Option Filter → Bool → Node → Node
node_filtered_if_any lines None prune n = n
node_filtered_if_any lines (Some f) prune n = node_or_blank_left_by_filter lines f prune n

abbrev pub node_expanded_if_wanted : Bool → List Line → Node → Node
node_expanded_if_wanted true lines n = expanded_node lines n
node_expanded_if_wanted false lines n = n

-- The filter comes first.
abbrev pub rewritten_node : List Line → PolicyChanges → Node → Node
rewritten_node lines c n = node_expanded_if_wanted c.expand lines (node_filtered_if_any lines c.filter c.prune n)

-- the lines of a policy, written anew; they have no text
abbrev pub rewritten_lines_of_policy : PolicyChanges → List Line → List Line
rewritten_lines_of_policy c lines = map (λ (line : Line). record { text = []; node = rewritten_node lines c line.node }) lines

-- Some alias is cyclic to which a chain of mentions leads from a user specification or a Defaults line.
abbrev pub has_reachable_alias_cycle : List Line → Bool
has_reachable_alias_cycle lines = list_any (λ d. is_used lines d && is_cyclic lines d) (definitions_of_lines lines)

-- the definitions to which a chain of mentions leads from a user specification or a Defaults line
abbrev pub used_definitions : List Line → List PlacedDefinition
used_definitions lines = filter (is_used lines) (definitions_of_lines lines)

abbrev pub alias_node_of_definition : PlacedDefinition → Node
alias_node_of_definition d = alias_node_of_one_definition d.kind d.def

-- The rules of lines, of definitions only those that are used.
abbrev pub rules_with_used_definitions : List Line → Rules
rules_with_used_definitions lines = record { defaults = (rules_of_policy_lines lines).defaults; defs = map alias_node_of_definition (used_definitions lines); specs = (rules_of_policy_lines lines).specs }

-- how many members the rules have
abbrev pub member_count_of_rules : List Line → ℕ
member_count_of_rules lines = specs_and_defaults_member_count lines + alias_lines_member_count (rules_with_used_definitions lines).defs
