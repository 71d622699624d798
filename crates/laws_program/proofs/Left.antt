-- What a filter leaves can be read, and definitions stay.
use Rattle.laws_program.proofs.Common.{◌≡◌, ◌≢◌, ℕ, ◌+◌, Bool, true, false, ◌||◌, List, [], ◌∷◌, ◌++◌, map, Option, Some, None, refl, ap₂, ◌∙◌, cond}
use Rattle.laws_program.proofs.Common.{AllByRecursion, filter, Kind, User, Host, Member, HostGroup, Node, Line, PlacedDefinition, definitions_in_line, definitions_from_line_number}
use Rattle.laws_program.proofs.Common.{definitions_of_lines, AreWalkLinesWithoutNul, IsNonEmptyListOf, IsWritableMemberOfKind, IsWritableHostGroup, IsReadableNode, is_any_value_matched, is_any_value_allowed, PolicyChanges}
use Rattle.sudoers_grammar.specs.Node as node
use Rattle.laws_print.specs.Writable.{IsWritableUserMember, IsWritableHostMember}
use Rattle.laws_print.proofs.Kept.{nonempty_list_has_property_of_all}
use Rattle.sudoers_cvt_rewrite.specs.declared.filter.Filter.{Filter}
use Rattle.sudoers_cvt_rewrite.specs.Filter.{is_atom_matching_user_name, is_atom_matching_group_name, is_atom_matching_host_name, is_list_without_items, is_filter_without_users, is_user_list_in_filter, is_host_list_in_filter, users_left_by_filter, hosts_left_by_filter}
use Rattle.sudoers_cvt_rewrite.specs.Filter.{is_scope_in_filter, host_group_pruned_if_wanted, host_groups_left_by_filter, spec_or_blank_of_left_groups, node_or_blank_left_by_filter}
use Rattle.sudoers_cvt_rewrite.specs.Rewrite.{node_filtered_if_any, node_expanded_if_wanted, rewritten_node, rewritten_lines_of_policy}
use Rattle.laws_program.proofs.Matching.{filter_with_passing_element_is_not_empty, allowing_has, either_has}
use Rattle.laws_program.proofs.Readable.{ChangedSignKeepsWritable, AreReadableLines, node_may}

-- what the law of what stays writable says of fewer members
abbrev pub NonemptyFilterKeepsWritableMembers : Type 0
NonemptyFilterKeepsWritableMembers = (k : Kind) (ms : List Member) (test : Member → Bool) → IsNonEmptyListOf (IsWritableMemberOfKind k) ms → filter test ms ≢ [] → IsNonEmptyListOf (IsWritableMemberOfKind k) (filter test ms)

-- ---- a filter

module _ (fewer : NonemptyFilterKeepsWritableMembers) (lines : List Line) (f : Filter) where
  abbrev has_user : Member → Bool
  has_user m = is_any_value_matched lines User is_atom_matching_user_name f.users (m ∷ []) || is_any_value_matched lines User is_atom_matching_group_name f.groups (m ∷ [])

  abbrev has_host : Member → Bool
  has_host m = is_any_value_matched lines Host is_atom_matching_host_name f.hosts (m ∷ [])

  users_may : (ms : List Member) → is_user_list_in_filter lines f ms ≡ true → IsNonEmptyListOf IsWritableUserMember ms → IsNonEmptyListOf IsWritableUserMember (users_left_by_filter lines f ms)
  users_may ms e all = by (is_filter_without_users f) e
    where
      by : (b : Bool) → (b || (is_any_value_allowed lines User is_atom_matching_user_name f.users ms || is_any_value_allowed lines User is_atom_matching_group_name f.groups ms)) ≡ true
          → IsNonEmptyListOf IsWritableUserMember (cond b ms (filter has_user ms))
      by true h = all
      by false h = fewer User ms has_user all (filter_with_passing_element_is_not_empty has_user ms (either_has User lines is_atom_matching_user_name is_atom_matching_group_name f.users f.groups ms h))

  hosts_may : (ms : List Member) → is_host_list_in_filter lines f ms ≡ true → IsNonEmptyListOf IsWritableHostMember ms → IsNonEmptyListOf IsWritableHostMember (hosts_left_by_filter lines f ms)
  hosts_may ms e all = by (is_list_without_items f.hosts) e
    where
      by : (b : Bool) → (b || is_any_value_allowed lines Host is_atom_matching_host_name f.hosts ms) ≡ true → IsNonEmptyListOf IsWritableHostMember (cond b ms (filter has_host ms))
      by true h = all
      by false h = fewer Host ms has_host all (filter_with_passing_element_is_not_empty has_host ms (allowing_has Host lines is_atom_matching_host_name f.hosts ms h))

  group_may : (prune : Bool) (g : HostGroup) → is_host_list_in_filter lines f g.hosts ≡ true → IsWritableHostGroup g → IsWritableHostGroup (host_group_pruned_if_wanted lines f prune g)
  group_may true g e is = record { hosts = hosts_may g.hosts e is.hosts; commands = is.commands }
  group_may false g e is = record { hosts = is.hosts; commands = is.commands }

  groups_may : (prune : Bool) (gs : List HostGroup) → AllByRecursion IsWritableHostGroup gs → AllByRecursion IsWritableHostGroup (host_groups_left_by_filter lines f prune gs)
  groups_may prune [] all = tt
  groups_may prune (g ∷ gs) all = by (is_host_list_in_filter lines f g.hosts) refl (groups_may prune gs all.1)
    where
      by : (b : Bool) → is_host_list_in_filter lines f g.hosts ≡ b → AllByRecursion IsWritableHostGroup (host_groups_left_by_filter lines f prune gs)
          → AllByRecursion IsWritableHostGroup (map (host_group_pruned_if_wanted lines f prune) (cond b (g ∷ filter (λ (g : HostGroup). is_host_list_in_filter lines f g.hosts) gs) (filter (λ (g : HostGroup). is_host_list_in_filter lines f g.hosts) gs)))
      by true e rest = (group_may prune g e all.0, rest)
      by false e rest = rest

  spec_may : (prune : Bool) (users : List Member) (gs : List HostGroup) → is_user_list_in_filter lines f users ≡ true → IsNonEmptyListOf IsWritableUserMember users → AllByRecursion IsWritableHostGroup gs
      → IsReadableNode (spec_or_blank_of_left_groups lines f prune users gs)
  spec_may prune users [] e all each = tt
  spec_may true users (g ∷ gs) e all each = (users_may users e all, each)
  spec_may false users (g ∷ gs) e all each = (all, each)

  left_may : (prune : Bool) (n : Node) → IsReadableNode n → IsReadableNode (node_or_blank_left_by_filter lines f prune n)
  left_may prune (node.Spec users groups) is = by (is_user_list_in_filter lines f users) refl
    where
      by : (b : Bool) → is_user_list_in_filter lines f users ≡ b → IsReadableNode (cond b (spec_or_blank_of_left_groups lines f prune users (host_groups_left_by_filter lines f prune groups)) node.Blank)
      by true e = spec_may prune users (host_groups_left_by_filter lines f prune groups) e is.0 (groups_may prune groups (nonempty_list_has_property_of_all IsWritableHostGroup groups is.1))
      by false e = tt
  left_may prune (node.Defaults scope params) is = by (is_scope_in_filter lines f scope)
    where
      by : (b : Bool) → IsReadableNode (cond b (node.Defaults scope params) node.Blank)
      by true = is
      by false = tt
  left_may prune (node.Alias k defs) is = is
  left_may prune n is = tt

-- ---- all changes

module _ (sign : ChangedSignKeepsWritable) (fewer : NonemptyFilterKeepsWritableMembers) (c : PolicyChanges) (lines : List Line) (policy : AreWalkLinesWithoutNul lines) (readable : AreReadableLines lines) where
  filtered_may : (f : Option Filter) (n : Node) → IsReadableNode n → IsReadableNode (node_filtered_if_any lines f c.prune n)
  filtered_may None n is = is
  filtered_may (Some f) n is = left_may fewer lines f c.prune n is

  expanded_may : (expand : Bool) (n : Node) → IsReadableNode n → IsReadableNode (node_expanded_if_wanted expand lines n)
  expanded_may true n is = node_may sign lines policy readable n is
  expanded_may false n is = is

  each_may : (ls : List Line) → AreReadableLines ls → AreReadableLines (map (λ (line : Line). record { text = []; node = rewritten_node lines c line.node }) ls)
  each_may [] all = tt
  each_may (line ∷ ls) all =
      (expanded_may c.expand (node_filtered_if_any lines c.filter c.prune line.node) (filtered_may c.filter line.node all.0), each_may ls all.1)

  -- Rewritten, each line says what can be read.
  pub rewritten_readable : AreReadableLines (rewritten_lines_of_policy c lines)
  rewritten_readable = each_may lines readable

-- ---- definitions

module _ (lines : List Line) (number : ℕ) where
  abbrev are : Node → List PlacedDefinition
  are n = definitions_in_line number n

  spec_defines : (f : Filter) (prune : Bool) (users : List Member) (gs : List HostGroup) → are (spec_or_blank_of_left_groups lines f prune users gs) ≡ []
  spec_defines f prune users [] = refl
  spec_defines f prune users (g ∷ gs) = refl

  chosen_defines : (b : Bool) (n : Node) → are n ≡ [] → are (cond b n node.Blank) ≡ []
  chosen_defines true n e = e
  chosen_defines false n e = refl

  left_defines : (f : Filter) (prune : Bool) (n : Node) → are (node_or_blank_left_by_filter lines f prune n) ≡ are n
  left_defines f prune (node.Spec users groups) =
      chosen_defines (is_user_list_in_filter lines f users) (spec_or_blank_of_left_groups lines f prune users (host_groups_left_by_filter lines f prune groups)) (spec_defines f prune users (host_groups_left_by_filter lines f prune groups))
  left_defines f prune (node.Defaults scope params) = chosen_defines (is_scope_in_filter lines f scope) (node.Defaults scope params) refl
  left_defines f prune n = refl

  filtered_defines : (f : Option Filter) (prune : Bool) (n : Node) → are (node_filtered_if_any lines f prune n) ≡ are n
  filtered_defines None prune n = refl
  filtered_defines (Some f) prune n = left_defines f prune n

  expanded_defines : (expand : Bool) (n : Node) → are (node_expanded_if_wanted expand lines n) ≡ are n
  expanded_defines false n = refl
  expanded_defines true (node.Alias k defs) = refl
  expanded_defines true (node.Spec users groups) = refl
  expanded_defines true (node.Defaults scope params) = refl
  expanded_defines true node.Blank = refl
  expanded_defines true node.Comment = refl
  expanded_defines true (node.Include dir path) = refl

-- Rewritten lines define what the lines define.
pub rewritten_lines_keep_definitions : (c : PolicyChanges) (lines : List Line) → definitions_of_lines (rewritten_lines_of_policy c lines) ≡ definitions_of_lines lines
rewritten_lines_keep_definitions c lines = by 0 lines
  where
    by : (number : ℕ) (ls : List Line)
        → definitions_from_line_number number (map (λ (line : Line). record { text = []; node = rewritten_node lines c line.node }) ls) ≡ definitions_from_line_number number ls
    by number [] = refl
    by number (line ∷ ls) =
        ap₂ (λ (xs ys : List PlacedDefinition). xs ++ ys)
        (expanded_defines lines number c.expand (node_filtered_if_any lines c.filter c.prune line.node) ∙ filtered_defines lines number c.filter c.prune line.node)
        (by (number + 1) ls)
