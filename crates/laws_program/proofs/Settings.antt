-- With its aliases replaced, a policy has the same settings of runas_default.
use Rattle.laws_program.proofs.Common.{◌≡◌, inl, inr, ℕ, List, [], ◌∷◌, map, Option, Some, None, refl, sym, subst, flat_map, Kind, User, Runas, Host, Cmnd}
use Rattle.laws_program.proofs.Common.{Member, Scope, Node, Line, AreWalkLinesWithoutNul, ListHasElement, HasCyclicAliasReachedFromSpecOrDefaults, IsPointwiseRelated, AreScopeListsAlike, AreDefaultsScopesAlike, AreRunasDefaultsAlike}
use Rattle.laws_program.proofs.Common.{AreAllRunasDefaultsAlike, runas_defaults_in_params, setting_with_scope, runas_defaults_of_lines, LeadsToNoCyclicAlias, appended_related_lists_are_related, expanded_scope_list, expanded_scope}
use Rattle.laws_program.proofs.Common.{expanded_node, lines_with_aliases_replaced}
use Rattle.std.specs.Option.{option_map}
use Rattle.sudoers_grammar.specs.Node as node
use Rattle.sudoers_match.specs.Default.{runas_defaults_in_node}
use Rattle.sudoers_match.specs.internal.Straight.{ScopeLeadsToNoCycle}
use Rattle.sudoers_match.proofs.Reached.{scope_straight}
use Rattle.sudoers_match_list.specs.Alike.{unchanged_atom}
use Rattle.laws_program.proofs.Flattened.{LawsOfFlatLists, KeepsUndefinedAliases, list_alike, line_with_aliases_expanded}

module _ (laws : LawsOfFlatLists) (lines others : List Line) (policy : AreWalkLinesWithoutNul lines) (keep : KeepsUndefinedAliases lines others) (straight : HasCyclicAliasReachedFromSpecOrDefaults lines → ⊥) where
  abbrev SettingsAlike : Option Scope × List ℕ → Option Scope × List ℕ → Type 0
  SettingsAlike = AreRunasDefaultsAlike unchanged_atom lines others

  counted_alike : (k : Kind) (ms : List Member) → LeadsToNoCyclicAlias k lines ms → AreScopeListsAlike unchanged_atom lines others k ms (expanded_scope_list lines k ms)
  counted_alike User ms is = list_alike laws lines others policy keep User ms is
  counted_alike Host ms is = list_alike laws lines others policy keep Host ms is
  counted_alike Runas ms is = tt
  counted_alike Cmnd ms is = tt

  scope_alike : (s : Option Scope) → ScopeLeadsToNoCycle lines s → AreDefaultsScopesAlike unchanged_atom lines others s (option_map (expanded_scope lines) s)
  scope_alike None is = tt
  scope_alike (Some s) is = (refl, counted_alike s.kind s.members is)

  values_alike : (s t : Option Scope) → AreDefaultsScopesAlike unchanged_atom lines others s t → (values : List (List ℕ))
      → IsPointwiseRelated SettingsAlike (map (setting_with_scope s) values) (map (setting_with_scope t) values)
  values_alike s t alike [] = tt
  values_alike s t alike (value ∷ values) = (record { scope = alike; value = refl }, values_alike s t alike values)

  node_alike : (line : Line) → ListHasElement lines line → (n : Node) → line.node ≡ n → IsPointwiseRelated SettingsAlike (runas_defaults_in_node n) (runas_defaults_in_node (expanded_node lines n))
  node_alike line there (node.Defaults scope params) e =
      values_alike scope (option_map (expanded_scope lines) scope) (scope_alike scope (scope_straight lines straight line there scope params e)) (runas_defaults_in_params params)
  node_alike line there n e = tt

  each_alike : (ls : List Line) → ((line : Line) → ListHasElement ls line → ListHasElement lines line)
      → IsPointwiseRelated SettingsAlike (flat_map (λ (line : Line). runas_defaults_in_node line.node) ls) (flat_map (λ (line : Line). runas_defaults_in_node line.node) (map (line_with_aliases_expanded lines) ls))
  each_alike [] among = tt
  each_alike (line ∷ ls) among =
      appended_related_lists_are_related SettingsAlike (runas_defaults_in_node line.node) (runas_defaults_in_node (expanded_node lines line.node))
      (flat_map (λ (l : Line). runas_defaults_in_node l.node) ls) (flat_map (λ (l : Line). runas_defaults_in_node l.node) (map (line_with_aliases_expanded lines) ls))
      (node_alike line (among line (inl refl)) line.node refl) (each_alike ls (λ l h. among l (inr h)))

  pub settings_alike : runas_defaults_of_lines others ≡ runas_defaults_of_lines (lines_with_aliases_replaced lines) → AreAllRunasDefaultsAlike unchanged_atom lines others
  settings_alike are = subst (λ ss. IsPointwiseRelated SettingsAlike (runas_defaults_of_lines lines) ss) (sym are) (each_alike lines (λ line h. h))
