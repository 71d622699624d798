-- Where no reachable alias is cyclic, no list of a user specification or of a Defaults line leads to a cyclic alias.
use Rattle.sudoers_match_list.proofs.Common.{DefinitionMentionsName, HasCyclicAliasReachedFromSpecOrDefaults, IsReachedByChainOfSteps, Kind, Line, List, ListHasElement, ListLeadsToCyclicAlias, Member, [], alias_names_among_members}
use Rattle.sudoers_match_list.proofs.Common.{alias_names_of_atom, definitions_of_lines, chain_from_some_is_chain_from_superset, inl, inr, refl, root_alias_names, root_names_in_node, subst, sym, ℕ, ◌∷◌, ◌≡◌}
use Rattle.sudoers_check.proofs.Named.{element_of_appended_is_in_either, element_of_part_is_in_flat_map}

-- the names of members that are among others
contained_members_have_contained_alias_names : (all ms : List Member) → ((m : Member) → ListHasElement ms m → ListHasElement all m) → (name : List ℕ) → ListHasElement (alias_names_among_members ms) name → ListHasElement (alias_names_among_members all) name
contained_members_have_contained_alias_names all [] among name h = absurd h
contained_members_have_contained_alias_names all (m ∷ ms) among name h = elim (element_of_appended_is_in_either (alias_names_of_atom m.atom) (alias_names_among_members ms) name h) [
  | inl l ↦ element_of_part_is_in_flat_map (λ (x : Member). alias_names_of_atom x.atom) all m name (among m (inl refl)) l
  | inr r ↦ contained_members_have_contained_alias_names all ms (λ x s. among x (inr s)) name r
]

-- a list whose names are roots of a line leads where a reachable alias is
pub root_list_cycle_is_reachable_cycle : (lines : List Line) (line : Line) → ListHasElement lines line → (k : Kind) (ms : List Member) → ((name : List ℕ) → ListHasElement (alias_names_among_members ms) name → ListHasElement (root_names_in_node k line.node) name)
    → ListLeadsToCyclicAlias k lines ms → HasCyclicAliasReachedFromSpecOrDefaults lines
root_list_cycle_is_reachable_cycle lines line stands k ms among l = record {
  alias = l.alias;
  stands = l.stands;
  reached = subst (λ j. IsReachedByChainOfSteps (DefinitionMentionsName j (definitions_of_lines lines)) (ListHasElement (root_alias_names j lines)) l.alias.def.name) (sym l.of_kind)
      (chain_from_some_is_chain_from_superset (ListHasElement (alias_names_among_members ms)) (ListHasElement (root_alias_names k lines)) (λ name h. element_of_part_is_in_flat_map (λ (x : Line). root_names_in_node k x.node) lines line name stands (among name h)) l.alias.def.name l.reached);
  cyclic = l.cyclic;
}

module _ (lines : List Line) (straight : HasCyclicAliasReachedFromSpecOrDefaults lines → ⊥) (line : Line) (stands : ListHasElement lines line) where
  -- a list whose members are among those of the line
  pub list_straight : (k : Kind) (ms all : List Member) → root_names_in_node k line.node ≡ alias_names_among_members all → ((m : Member) → ListHasElement ms m → ListHasElement all m) → ListLeadsToCyclicAlias k lines ms → ⊥
  list_straight k ms all are among l =
      straight (root_list_cycle_is_reachable_cycle lines line stands k ms (λ name h. subst (λ ns. ListHasElement ns name) (sym are) (contained_members_have_contained_alias_names all ms among name h)) l)
