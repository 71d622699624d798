-- Lines that are filtered or expanded define what they defined.
use Rattle.sudoers_cvt_rewrite.proofs.Common.{Bool, Filter, HostGroup, Line, List, Member, Node, None, Option, PolicyChanges, Some, [], ap₂, definitions_from_line_number, definitions_in_line, definitions_of_lines}
use Rattle.sudoers_cvt_rewrite.proofs.Common.{false, node_or_blank_left_by_filter, host_groups_left_by_filter, if◌then◌else◌, is_scope_in_filter, is_user_list_in_filter, map, node_expanded_if_wanted, node_filtered_if_any, refl}
use Rattle.sudoers_cvt_rewrite.proofs.Common.{rewritten_lines_of_policy, rewritten_node, spec_or_blank_of_left_groups, true, ℕ, ◌++◌, ◌+◌, ◌∙◌, ◌∷◌, ◌≡◌}
use Rattle.sudoers_grammar.specs.Node as node

module _ (lines : List Line) where
  expanded_defines : (expand : Bool) (k : ℕ) (n : Node) → definitions_in_line k (node_expanded_if_wanted expand lines n) ≡ definitions_in_line k n
  expanded_defines false k n = refl
  expanded_defines true k (node.Defaults scope params) = refl
  expanded_defines true k (node.Spec users groups) = refl
  expanded_defines true k (node.Alias j defs) = refl
  expanded_defines true k node.Blank = refl
  expanded_defines true k node.Comment = refl
  expanded_defines true k (node.Include dir path) = refl

  module _ (f : Filter) (prune : Bool) (k : ℕ) where
    spec_defines : (b : Bool) (users : List Member) (groups : List HostGroup) → definitions_in_line k (if b then spec_or_blank_of_left_groups lines f prune users groups else node.Blank) ≡ []
    spec_defines true users [] = refl
    spec_defines true users (g ∷ gs) = refl
    spec_defines false users groups = refl

    scope_defines : (b : Bool) (n : Node) → definitions_in_line k n ≡ [] → definitions_in_line k (if b then n else node.Blank) ≡ []
    scope_defines true n e = e
    scope_defines false n e = refl

    filter_defines : (n : Node) → definitions_in_line k (node_or_blank_left_by_filter lines f prune n) ≡ definitions_in_line k n
    filter_defines (node.Defaults scope params) = scope_defines (is_scope_in_filter lines f scope) (node.Defaults scope params) refl
    filter_defines (node.Spec users groups) = spec_defines (is_user_list_in_filter lines f users) users (host_groups_left_by_filter lines f prune groups)
    filter_defines (node.Alias j defs) = refl
    filter_defines node.Blank = refl
    filter_defines node.Comment = refl
    filter_defines (node.Include dir path) = refl

  filtered_defines : (o : Option Filter) (prune : Bool) (k : ℕ) (n : Node) → definitions_in_line k (node_filtered_if_any lines o prune n) ≡ definitions_in_line k n
  filtered_defines None prune k n = refl
  filtered_defines (Some f) prune k n = filter_defines f prune k n

  all_define : (c : PolicyChanges) (k : ℕ) (ls : List Line)
      → definitions_from_line_number k (map (λ (line : Line). record { text = []; node = rewritten_node lines c line.node }) ls) ≡ definitions_from_line_number k ls
  all_define c k [] = refl
  all_define c k (line ∷ ls) =
      ap₂ (λ xs ys. xs ++ ys)
      (expanded_defines c.expand k (node_filtered_if_any lines c.filter c.prune line.node) ∙ filtered_defines c.filter c.prune k line.node)
      (all_define c (k + 1) ls)

pub rewritten_policy_keeps_definitions : (lines : List Line) (c : PolicyChanges) → definitions_of_lines (rewritten_lines_of_policy c lines) ≡ definitions_of_lines lines
rewritten_policy_keeps_definitions lines c = all_define lines c 0 lines
