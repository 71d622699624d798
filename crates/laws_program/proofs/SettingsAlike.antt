-- Printed rules have the settings of runas_default that the policy had.
use Rattle.laws_program.proofs.Common.{◌≡◌, ℕ, List, [], ◌∷◌, ◌++◌, map, Option, Some, None, refl, sym, ap, subst, ◌∙◌, append-nil, flat_map, Kind, User, Runas}
use Rattle.laws_program.proofs.Common.{Host, Cmnd, Member, Scope, Node, Line, atom_read_back, MemberIsReadBackAs, AreItemsPairwiseRelated, ScopeIsReadBackAs, NodeIsReadBackAs, IsPointwiseRelated, HaveSameFlatListAfterRewrite}
use Rattle.laws_program.proofs.Common.{AreScopeListsAlike, AreDefaultsScopesAlike, AreRunasDefaultsAlike, AreAllRunasDefaultsAlike, runas_defaults_in_params, setting_with_scope, settings_of, runas_defaults_of_lines}
use Rattle.laws_program.proofs.Common.{rules_of_policy_lines, rule_nodes_in_print_order, nodes_of_lines}
use Rattle.sudoers_grammar.specs.Node.{Param}
use Rattle.sudoers_grammar.specs.Node as node
use Rattle.sudoers_cvt_rules.specs.Rules.{defaults_nodes_of_line_node}
use Rattle.laws_program.proofs.Parts.{no_defs, no_specs, made_of_defaults, same_nodes_make_related_items}

pub runas_defaults_of_lines_are_of_nodes : (lines : List Line) → runas_defaults_of_lines lines ≡ flat_map settings_of (nodes_of_lines lines)
runas_defaults_of_lines_are_of_nodes lines = by lines
  where
    by : (ls : List Line) → flat_map (λ (line : Line). settings_of line.node) ls ≡ flat_map settings_of (nodes_of_lines ls)
    by [] = refl
    by (line ∷ ls) = ap (λ rest. settings_of line.node ++ rest) (by ls)

pub defaults_nodes_keep_settings : (n : Node) → flat_map settings_of (defaults_nodes_of_line_node n) ≡ settings_of n
defaults_nodes_keep_settings (node.Defaults scope params) = append-nil (settings_of (node.Defaults scope params))
defaults_nodes_keep_settings n = refl

module _ (lines read : List Line) (lists : (k : Kind) (ms ns : List Member) → AreItemsPairwiseRelated MemberIsReadBackAs ms ns → HaveSameFlatListAfterRewrite atom_read_back k lines read ms ns) where
  abbrev SettingsAlike : Option Scope × List ℕ → Option Scope × List ℕ → Type 0
  SettingsAlike = AreRunasDefaultsAlike atom_read_back lines read

  counted_alike : (k : Kind) (ms ns : List Member) → AreItemsPairwiseRelated MemberIsReadBackAs ms ns → AreScopeListsAlike atom_read_back lines read k ms ns
  counted_alike User ms ns same = lists User ms ns same
  counted_alike Host ms ns same = lists Host ms ns same
  counted_alike Runas ms ns same = tt
  counted_alike Cmnd ms ns same = tt

  scope_alike : (s t : Option Scope) → ScopeIsReadBackAs s t → AreDefaultsScopesAlike atom_read_back lines read s t
  scope_alike None None same = tt
  scope_alike (Some s) (Some t) same = (sym same.0, counted_alike s.kind s.members t.members same.1)
  scope_alike s t same = absurd same

  values_alike : (s t : Option Scope) → AreDefaultsScopesAlike atom_read_back lines read s t → (values : List (List ℕ))
      → IsPointwiseRelated SettingsAlike (map (setting_with_scope s) values) (map (setting_with_scope t) values)
  values_alike s t alike [] = tt
  values_alike s t alike (value ∷ values) = (record { scope = alike; value = refl }, values_alike s t alike values)

  node_alike : (n m : Node) → NodeIsReadBackAs n m → IsPointwiseRelated SettingsAlike (settings_of n) (settings_of m)
  node_alike (node.Defaults s params) (node.Defaults t others) same =
      subst (λ (ps : List Param). IsPointwiseRelated SettingsAlike (settings_of (node.Defaults s params)) (settings_of (node.Defaults t ps))) same.1
      (values_alike s t (scope_alike s t same.0) (runas_defaults_in_params params))
  node_alike (node.Alias k ds) (node.Alias j es) same = tt
  node_alike (node.Spec users groups) (node.Spec others places) same = tt
  node_alike n m same = absurd same

  pub settings_alike : AreItemsPairwiseRelated NodeIsReadBackAs (rule_nodes_in_print_order (rules_of_policy_lines lines)) (nodes_of_lines read) → AreAllRunasDefaultsAlike atom_read_back lines read
  settings_alike same =
      subst (λ xs. IsPointwiseRelated SettingsAlike xs (runas_defaults_of_lines read)) (made_of_defaults settings_of settings_of defaults_nodes_keep_settings (no_defs settings_of (λ k d. refl)) (no_specs settings_of (λ users groups. refl)) lines ∙ sym (runas_defaults_of_lines_are_of_nodes lines))
      (subst (λ ys. IsPointwiseRelated SettingsAlike (flat_map settings_of (rule_nodes_in_print_order (rules_of_policy_lines lines))) ys) (sym (runas_defaults_of_lines_are_of_nodes read))
      (same_nodes_make_related_items SettingsAlike settings_of node_alike (rule_nodes_in_print_order (rules_of_policy_lines lines)) (nodes_of_lines read) same))
