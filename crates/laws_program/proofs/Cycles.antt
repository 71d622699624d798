-- Where no reachable alias of a policy is cyclic, none is in the rules that are kept of it with its aliases replaced.
use Rattle.laws_program.proofs.Common.{◌≡◌, inl, inr, Bool, true, false, if◌then◌else◌, List, [], ◌∷◌, ◌++◌, map, refl, sym, ap, subst, ◌∙◌, AllByRecursion}
use Rattle.laws_program.proofs.Common.{flat_map, filter, flat_map-append, Kind, Node, Line, PlacedDefinition, definitions_of_lines, ListHasElement, IsReachedByChainOfSteps, here, onward, alias_names_among_members, DefinitionMentionsName}
use Rattle.laws_program.proofs.Common.{root_names_in_node, root_alias_names, IsReachedFromSpecOrDefaults, HasCyclicAliasReachedFromSpecOrDefaults, is_used, all_append, rules_of_policy_lines, alias_node_of_definition, used_definitions, lines_with_aliases_replaced}
use Rattle.sudoers_grammar.specs.Node as node
use Rattle.sudoers_cvt_rules.specs.Rules.{defaults_nodes_of_line_node}
use Rattle.laws_program.proofs.Aliases.{KindAndDefinition, kinds_and_definitions_of_placed}
use Rattle.sudoers_match_list.proofs.Defined.{list_element_has_property_of_all}
use Rattle.laws_program.proofs.Flattened.{lines_expanded_keep_definitions, line_with_aliases_expanded}
use Rattle.laws_program.proofs.Kept.{user_spec_nodes_in, lines_of_used_rules, used_lines_have_used_definitions, flat_map_over_lines_is_over_nodes, all_kept, none_of_defs}
use Rattle.laws_program.proofs.RootsAlike.{AliasName}
use Rattle.sudoers_match.proofs.MetMembers.{left_of, right_of, of_has}
use Rattle.laws_program.proofs.Reached.{node_met}

-- ---- what the kept lines mention

module _ (lines : List Line) (k : Kind) where
  abbrev AreReached : List AliasName → Type 0
  AreReached names = AllByRecursion (IsReachedFromSpecOrDefaults k lines) names

  reached_roots : AreReached (root_alias_names k lines)
  reached_roots = of_has (IsReachedFromSpecOrDefaults k lines) (root_alias_names k lines) (λ x h. here x h)

  abbrev EachReached : List Line → Type 0
  EachReached ls = AllByRecursion (λ (line : Line). AreReached (root_names_in_node k line.node)) ls

  each_reached : (ls : List Line) → AreReached (flat_map (λ (line : Line). root_names_in_node k line.node) ls) → EachReached (map (line_with_aliases_expanded lines) ls)
  each_reached [] all = tt
  each_reached (line ∷ ls) all =
      let rest = flat_map (λ (l : Line). root_names_in_node k l.node) ls in
      (node_met lines k line.node (left_of (IsReachedFromSpecOrDefaults k lines) (root_names_in_node k line.node) rest all), each_reached ls (right_of (IsReachedFromSpecOrDefaults k lines) (root_names_in_node k line.node) rest all))

  -- some of the lines, as lines of their own
  some_reached : (from : Node → List Node) → ((n : Node) → AreReached (root_names_in_node k n) → AreReached (flat_map (root_names_in_node k) (from n))) → (ls : List Line) → EachReached ls
      → AreReached (flat_map (root_names_in_node k) (flat_map (λ (line : Line). from line.node) ls))
  some_reached from each [] all = tt
  some_reached from each (line ∷ ls) all =
      let rest = flat_map (λ (l : Line). from l.node) ls in
      subst AreReached (sym (flat_map-append (root_names_in_node k) (from line.node) rest))
      (all_append (IsReachedFromSpecOrDefaults k lines) (flat_map (root_names_in_node k) (from line.node)) (flat_map (root_names_in_node k) rest) (each line.node all.0) (some_reached from each ls all.1))

  of_defaults : (n : Node) → AreReached (root_names_in_node k n) → AreReached (flat_map (root_names_in_node k) (defaults_nodes_of_line_node n))
  of_defaults (node.Defaults scope params) all = all_append (IsReachedFromSpecOrDefaults k lines) (root_names_in_node k (node.Defaults scope params)) [] all tt
  of_defaults n all = tt

  of_specs : (n : Node) → AreReached (root_names_in_node k n) → AreReached (flat_map (root_names_in_node k) (user_spec_nodes_in n))
  of_specs (node.Spec users groups) all = all_append (IsReachedFromSpecOrDefaults k lines) (root_names_in_node k (node.Spec users groups)) [] all tt
  of_specs n all = tt

  kept_reached : AreReached (root_alias_names k (lines_of_used_rules (lines_with_aliases_replaced lines)))
  kept_reached =
      let new = lines_with_aliases_replaced lines in
      let each = each_reached lines reached_roots in
      let ds = flat_map (root_names_in_node k) (rules_of_policy_lines new).defaults in
      let ss = flat_map (root_names_in_node k) (flat_map (λ (line : Line). user_spec_nodes_in line.node) new) in
      let es = flat_map (root_names_in_node k) (map alias_node_of_definition (used_definitions new)) in
      subst AreReached (sym (flat_map_over_lines_is_over_nodes (root_names_in_node k) (lines_of_used_rules new) ∙ all_kept (root_names_in_node k) new))
      (all_append (IsReachedFromSpecOrDefaults k lines) (ds ++ es) ss
      (all_append (IsReachedFromSpecOrDefaults k lines) ds es (some_reached defaults_nodes_of_line_node of_defaults new each)
      (subst AreReached (sym (none_of_defs (root_names_in_node k) new (λ j d. refl) (used_definitions new))) tt))
      (some_reached user_spec_nodes_in of_specs new each))

-- ---- what the kept definitions mention

module _ {X : Type 0} where
  of_filter : (p : X → Bool) (xs : List X) (x : X) → ListHasElement (filter p xs) x → ListHasElement xs x
  of_filter p [] x h = absurd h
  of_filter p (y ∷ xs) x h = by (p y) (of_filter p xs x) h
    where
      by : (b : Bool) → (ListHasElement (filter p xs) x → ListHasElement xs x) → ListHasElement (if b then y ∷ filter p xs else filter p xs) x → ListHasElement (y ∷ xs) x
      by true more (inl e) = inl e
      by true more (inr h) = inr (more h)
      by false more h = inr (more h)

-- what a definition says, its place aside
abbrev kind_and_definition_of_placed : PlacedDefinition → KindAndDefinition
kind_and_definition_of_placed d = (d.kind, d.def)

list_with_definition_has_its_kind_pair : (ds : List PlacedDefinition) (d : PlacedDefinition) → ListHasElement ds d → ListHasElement (kinds_and_definitions_of_placed ds) (kind_and_definition_of_placed d)
list_with_definition_has_its_kind_pair [] d h = absurd h
list_with_definition_has_its_kind_pair (x ∷ ds) d (inl e) = inl (ap kind_and_definition_of_placed e)
list_with_definition_has_its_kind_pair (x ∷ ds) d (inr h) = inr (list_with_definition_has_its_kind_pair ds d h)

kind_pair_in_list_is_of_definition : (ds : List PlacedDefinition) (s : KindAndDefinition) → ListHasElement (kinds_and_definitions_of_placed ds) s → (d : PlacedDefinition) × ListHasElement ds d × (kind_and_definition_of_placed d ≡ s)
kind_pair_in_list_is_of_definition [] s h = absurd h
kind_pair_in_list_is_of_definition (x ∷ ds) s (inl e) = (x, inl refl, e)
kind_pair_in_list_is_of_definition (x ∷ ds) s (inr h) = let more = kind_pair_in_list_is_of_definition ds s h in (more.0, inr more.1, more.2)

module _ (lines : List Line) where
  -- A kept definition says what one of the policy says.
  was_there : (d : PlacedDefinition) → ListHasElement (definitions_of_lines (lines_of_used_rules (lines_with_aliases_replaced lines))) d → (e : PlacedDefinition) × ListHasElement (definitions_of_lines lines) e × (kind_and_definition_of_placed e ≡ kind_and_definition_of_placed d)
  was_there d h =
      let new = lines_with_aliases_replaced lines in
      let found = kind_pair_in_list_is_of_definition (used_definitions new) (kind_and_definition_of_placed d) (subst (λ ss. ListHasElement ss (kind_and_definition_of_placed d)) (used_lines_have_used_definitions new) (list_with_definition_has_its_kind_pair (definitions_of_lines (lines_of_used_rules new)) d h)) in
      (found.0, subst (λ ds. ListHasElement ds found.0) (lines_expanded_keep_definitions lines) (of_filter (is_used new) (definitions_of_lines new) found.0 found.1), found.2)

  joined : (k : Kind) (x y : AliasName) → DefinitionMentionsName k (definitions_of_lines (lines_of_used_rules (lines_with_aliases_replaced lines))) x y → DefinitionMentionsName k (definitions_of_lines lines) x y
  joined k x y j =
      let e = was_there j.by j.stands in
      record {
        by = e.0;
        stands = e.1;
        of_kind = ap (λ (s : KindAndDefinition). s.0) e.2 ∙ j.of_kind;
        of_name = ap (λ (s : KindAndDefinition). s.1.name) e.2 ∙ j.of_name;
        mentions = subst (λ (s : KindAndDefinition). ListHasElement (alias_names_among_members s.1.members) y) (sym e.2) j.mentions;
      }

  reached : (k : Kind) (x : AliasName) → IsReachedFromSpecOrDefaults k (lines_of_used_rules (lines_with_aliases_replaced lines)) x → IsReachedFromSpecOrDefaults k lines x
  reached k x (here y h) = list_element_has_property_of_all (IsReachedFromSpecOrDefaults k lines) (root_alias_names k (lines_of_used_rules (lines_with_aliases_replaced lines))) (kept_reached lines k) y h
  reached k x (onward y z c j) = onward y z (reached k y c) (joined k y z j)

  chained : (k : Kind) (From : AliasName → Type 0) (x : AliasName) → IsReachedByChainOfSteps (DefinitionMentionsName k (definitions_of_lines (lines_of_used_rules (lines_with_aliases_replaced lines)))) From x → IsReachedByChainOfSteps (DefinitionMentionsName k (definitions_of_lines lines)) From x
  chained k From x (here y h) = here y h
  chained k From x (onward y z c j) = onward y z (chained k From y c) (joined k y z j)

  -- A reachable cyclic alias there was one in the policy.
  pub cycle_back : HasCyclicAliasReachedFromSpecOrDefaults (lines_of_used_rules (lines_with_aliases_replaced lines)) → HasCyclicAliasReachedFromSpecOrDefaults lines
  cycle_back h =
      let e = was_there h.alias h.stands in
      let there = reached h.alias.kind h.alias.def.name h.reached in
      let round = chained h.alias.kind (ListHasElement (alias_names_among_members h.alias.def.members)) h.alias.def.name h.cyclic in
      record {
        alias = e.0;
        stands = e.1;
        reached = subst (λ (s : KindAndDefinition). IsReachedFromSpecOrDefaults s.0 lines s.1.name) (sym e.2) there;
        cyclic = subst (λ (s : KindAndDefinition). IsReachedByChainOfSteps (DefinitionMentionsName s.0 (definitions_of_lines lines)) (ListHasElement (alias_names_among_members s.1.members)) s.1.name) (sym e.2) round;
      }
