-- Texts that are read as lines that say something given.
use Rattle.std.specs.Prelude.{◌≡◌, ℕ, true, List, map, Ok}
use Rattle.sudoers_grammar.specs.Node.{Node}
use Rattle.sudoers_tree.specs.Line.{Line}
use Rattle.sudoers_tree.specs.Load.{LoadedPolicy, policy_or_load_fault}
use Rattle.sudoers_cvt_rules.specs.Rules.{Rules, is_printed_within_limits, printed_rules}
use Rattle.laws_print.specs.Same.{AreItemsPairwiseRelated, NodeIsReadBackAs}
use Rattle.laws_load.specs.Alone.{single_file_named, policy_of_single_file}

abbrev pub nodes_of_lines : List Line → List Node
nodes_of_lines lines = map (λ (line : Line). line.node) lines

-- The text is a policy as the only file, under any name. Its lines say the same as these, one by one: places aside, and the backslash
-- before a host that would be read as something else.
pub record IsTextReadAsNodes (text : List ℕ) (nodes : List Node) : Type 0 where
  pub read : List Line
  pub loads : (name : List ℕ) → policy_or_load_fault (single_file_named name text) ≡ Ok (policy_of_single_file name read)
  pub same : AreItemsPairwiseRelated NodeIsReadBackAs nodes (nodes_of_lines read)

-- The rules are printed within the limits. What is printed, as the only file of some name, is this policy.
pub record IsPolicyOfPrintedRules (rules : Rules) (policy : LoadedPolicy) : Type 0 where
  pub size : is_printed_within_limits rules ≡ true
  pub name : List ℕ
  pub loads : policy_or_load_fault (single_file_named name (printed_rules rules)) ≡ Ok policy
