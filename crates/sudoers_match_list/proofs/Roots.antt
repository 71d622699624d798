-- An alias that a line mentions leads to a cyclic one exactly if a reachable alias is cyclic.
use Rattle.sudoers_match_list.proofs.Common.{AliasLeadsToCycle, AliasMember, Atom, Bool, HasCyclicAliasReachedFromSpecOrDefaults, IsFlatListOf, Kind, Line, List, ListHasElement, ListLeadsToCyclicAlias, ListedMember, Member, Node, None}
use Rattle.sudoers_match_list.proofs.Common.{SignedAtom, Some, SomeAliasLeadsToCycle, [], alias_member_named, alias_member_of_atom, alias_names_among_members, alias_names_of_atom, aliases_among_listed}
use Rattle.sudoers_match_list.proofs.Common.{aliases_in_spec_or_defaults, ap, arith, definitions_of_lines, false, chain_starts_at_one_element, if◌then◌else◌, inl, inr, is_equal_kind, length, single_member_list_naming_alias, listed_members_of_node}
use Rattle.sudoers_match_list.proofs.Common.{many, members_of_definition_number, none, number_of_definition, one, place_of, refl, root_alias_names, root_names_in_node, slice_get, slice_get_within, subst, sym, true}
use Rattle.sudoers_match_list.proofs.Common.{ℕ, ◌<◌, ◌∙◌, ◌∷◌, ◌≡◌, ◌≤◌}
use Rattle.sudoers_grammar.specs.declared.node.Atom.TheVariants as atom
use Rattle.sudoers_grammar.specs.Node as node
use Rattle.sudoers_tree.specs.Mention.{members_of_kind_among_listed}
use Rattle.sudoers_tree.proofs.ListedMembers.{members_of_kind_are_listed_members}
use Rattle.sudoers_check.proofs.Named.{element_of_appended_is_in_either, element_of_front_is_in_appended, element_of_back_is_in_appended, flat_map_element_is_of_some_part, kinds_tested_equal_are_equal, kind_is_equal_to_itself}
use Rattle.sudoers_match_list.proofs.Numbered.{alias_some, alias_none}
use Rattle.sudoers_match_list.proofs.Straight.{root_list_cycle_is_reachable_cycle}
use Rattle.sudoers_match_list.proofs.Whole.{to_cycle}

-- ---- one alias

module _ (k : Kind) (lines : List Line) (name : List ℕ) where
  -- one that leads to a cyclic alias
  pub finds : (n : ℕ) → number_of_definition k name (definitions_of_lines lines) ≡ Some n → AliasLeadsToCycle k lines n → ListLeadsToCyclicAlias k lines (single_member_list_naming_alias name)
  finds n e f = to_cycle k lines (λ _. false) (single_member_list_naming_alias name) 0 (alias_member_named name) refl n e f

  module _ (no_cycle : (ms : List Member) (fs : List SignedAtom) → IsFlatListOf k lines ms fs → ListLeadsToCyclicAlias k lines ms → ⊥) where
    -- one that is not defined
    pub ends_undefined : number_of_definition k name (definitions_of_lines lines) ≡ None → ListLeadsToCyclicAlias k lines (single_member_list_naming_alias name) → ⊥
    ends_undefined e = no_cycle (single_member_list_naming_alias name) _ (one (alias_member_named name) [] [] (alias_none k lines (atom.Alias name) e) none)

    -- one whose members have a flat list
    pub ends_flat : (n : ℕ) → number_of_definition k name (definitions_of_lines lines) ≡ Some n → (fs : List SignedAtom) → IsFlatListOf k lines (members_of_definition_number lines n) fs → ListLeadsToCyclicAlias k lines (single_member_list_naming_alias name) → ⊥
    ends_flat n e fs f = no_cycle (single_member_list_naming_alias name) _ (many (alias_member_named name) [] (members_of_definition_number lines n) fs [] (alias_some k lines (atom.Alias name) n e) f none)

-- ---- aliases and names

-- an alias of this kind and name stands among these
abbrev HasAliasOfKindAndName : Kind → List ℕ → List AliasMember → Type 0
HasAliasOfKindAndName k name aliases = (a : AliasMember) × ListHasElement aliases a × (a.kind ≡ k) × (a.name ≡ name)

-- the alias that a member of that name is
member_of_alias_name_has_alias : (k : Kind) (name : List ℕ) (m : Member) (a : Atom) → ListHasElement (alias_names_of_atom a) name → HasAliasOfKindAndName k name (alias_member_of_atom k m a)
member_of_alias_name_has_alias k name m (atom.Alias n) (inl e) = (record { kind = k; name = n; stop = m.stop }, inl refl, refl, e)
member_of_alias_name_has_alias k name m (atom.Alias n) (inr h) = absurd h
member_of_alias_name_has_alias k name m other h = absurd h

-- the kind and the name of the alias that a member is
alias_of_member_has_kind_and_name : (j : Kind) (m : Member) (x : Atom) (a : AliasMember) → ListHasElement (alias_member_of_atom j m x) a → (j ≡ a.kind) × ListHasElement (alias_names_of_atom x) a.name
alias_of_member_has_kind_and_name j m (atom.Alias n) a (inl e) = (ap (λ (b : AliasMember). b.kind) e, inl (ap (λ (b : AliasMember). b.name) e))
alias_of_member_has_kind_and_name j m (atom.Alias n) a (inr h) = absurd h
alias_of_member_has_kind_and_name j m other a h = absurd h

-- the names of a kind are those of aliases
name_of_listed_member_has_alias : (k : Kind) (name : List ℕ) (ls : List ListedMember) → ListHasElement (alias_names_among_members (members_of_kind_among_listed k ls)) name → HasAliasOfKindAndName k name (aliases_among_listed ls)
name_of_listed_member_has_alias k name [] h = absurd h
name_of_listed_member_has_alias k name (l ∷ ls) h =
    by (is_equal_kind k l.0) refl (λ g. let s = name_of_listed_member_has_alias k name ls g in (s.0, element_of_back_is_in_appended (alias_member_of_atom l.0 l.1 l.1.atom) (aliases_among_listed ls) s.0 s.1, s.2, s.3)) h
  where
    by : (b : Bool) → is_equal_kind k l.0 ≡ b → (ListHasElement (alias_names_among_members (members_of_kind_among_listed k ls)) name → HasAliasOfKindAndName k name (aliases_among_listed (l ∷ ls)))
        → ListHasElement (alias_names_among_members (if b then l.1 ∷ members_of_kind_among_listed k ls else members_of_kind_among_listed k ls)) name → HasAliasOfKindAndName k name (aliases_among_listed (l ∷ ls))
    by true t rest g = elim (element_of_appended_is_in_either (alias_names_of_atom l.1.atom) (alias_names_among_members (members_of_kind_among_listed k ls)) name g) [
      | inl first ↦
          let s = member_of_alias_name_has_alias l.0 name l.1 l.1.atom first in
          (s.0, element_of_front_is_in_appended (alias_member_of_atom l.0 l.1 l.1.atom) (aliases_among_listed ls) s.0 s.1, s.2 ∙ sym (kinds_tested_equal_are_equal k l.0 t), s.3)
      | inr later ↦ rest later
    ]
    by false t rest g = rest g

-- the name of an alias is one of its kind
listed_alias_name_is_among_member_names : (ls : List ListedMember) (a : AliasMember) → ListHasElement (aliases_among_listed ls) a → ListHasElement (alias_names_among_members (members_of_kind_among_listed a.kind ls)) a.name
listed_alias_name_is_among_member_names [] a h = absurd h
listed_alias_name_is_among_member_names (l ∷ ls) a h = elim (element_of_appended_is_in_either (alias_member_of_atom l.0 l.1 l.1.atom) (aliases_among_listed ls) a h) [
  | inl first ↦
      let is = alias_of_member_has_kind_and_name l.0 l.1 l.1.atom a first in
      subst (λ (b : Bool). ListHasElement (alias_names_among_members (if b then l.1 ∷ members_of_kind_among_listed a.kind ls else members_of_kind_among_listed a.kind ls)) a.name)
      (sym (ap (is_equal_kind a.kind) is.0 ∙ kind_is_equal_to_itself a.kind)) (element_of_front_is_in_appended (alias_names_of_atom l.1.atom) (alias_names_among_members (members_of_kind_among_listed a.kind ls)) a.name is.1)
  | inr later ↦ by (is_equal_kind a.kind l.0) (listed_alias_name_is_among_member_names ls a later)
]
  where
    by : (b : Bool) → ListHasElement (alias_names_among_members (members_of_kind_among_listed a.kind ls)) a.name → ListHasElement (alias_names_among_members (if b then l.1 ∷ members_of_kind_among_listed a.kind ls else members_of_kind_among_listed a.kind ls)) a.name
    by true g = element_of_back_is_in_appended (alias_names_of_atom l.1.atom) (alias_names_among_members (members_of_kind_among_listed a.kind ls)) a.name g
    by false g = g

-- a root of a line is the name of an alias in it
root_name_in_node_has_alias : (k : Kind) (name : List ℕ) (n : Node) → ListHasElement (root_names_in_node k n) name → HasAliasOfKindAndName k name (aliases_in_spec_or_defaults n)
root_name_in_node_has_alias k name (node.Spec users groups) h =
    name_of_listed_member_has_alias k name (listed_members_of_node (node.Spec users groups)) (subst (λ ms. ListHasElement (alias_names_among_members ms) name) (members_of_kind_are_listed_members k (node.Spec users groups)) h)
root_name_in_node_has_alias k name (node.Defaults scope params) h =
    name_of_listed_member_has_alias k name (listed_members_of_node (node.Defaults scope params)) (subst (λ ms. ListHasElement (alias_names_among_members ms) name) (members_of_kind_are_listed_members k (node.Defaults scope params)) h)
root_name_in_node_has_alias k name other h = absurd h

-- the name of an alias in a line is a root of it
alias_in_node_has_root_name : (n : Node) (a : AliasMember) → ListHasElement (aliases_in_spec_or_defaults n) a → ListHasElement (root_names_in_node a.kind n) a.name
alias_in_node_has_root_name (node.Spec users groups) a h =
    subst (λ ms. ListHasElement (alias_names_among_members ms) a.name) (sym (members_of_kind_are_listed_members a.kind (node.Spec users groups))) (listed_alias_name_is_among_member_names (listed_members_of_node (node.Spec users groups)) a h)
alias_in_node_has_root_name (node.Defaults scope params) a h =
    subst (λ ms. ListHasElement (alias_names_among_members ms) a.name) (sym (members_of_kind_are_listed_members a.kind (node.Defaults scope params))) (listed_alias_name_is_among_member_names (listed_members_of_node (node.Defaults scope params)) a h)
alias_in_node_has_root_name other a h = absurd h

-- ---- the lines of a policy

module _ (lines : List Line) where
  -- an alias in a line that leads to a cycle
  pub is_reachable : (line : Line) → ListHasElement lines line → SomeAliasLeadsToCycle lines (aliases_in_spec_or_defaults line.node) → HasCyclicAliasReachedFromSpecOrDefaults lines
  is_reachable line stands h =
      let a : AliasMember = h.alias in
      root_list_cycle_is_reachable_cycle lines line stands a.kind (single_member_list_naming_alias a.name) (λ name own. elim own [ inl e ↦ subst (ListHasElement (root_names_in_node a.kind line.node)) e (alias_in_node_has_root_name line.node a h.among) | inr none_other ↦ absurd none_other ]) h.leads

  -- a reachable cycle comes from an alias in a line
  pub reachable_is : HasCyclicAliasReachedFromSpecOrDefaults lines → (line : Line) × ListHasElement lines line × SomeAliasLeadsToCycle lines (aliases_in_spec_or_defaults line.node)
  reachable_is h =
      let k = h.alias.kind in
      let first = chain_starts_at_one_element (ListHasElement (root_alias_names k lines)) h.alias.def.name h.reached in
      let line = flat_map_element_is_of_some_part (λ (x : Line). root_names_in_node k x.node) lines first.0 first.1 in
      let s = root_name_in_node_has_alias k first.0 line.0.node line.2 in
      let leads : ListLeadsToCyclicAlias k lines (single_member_list_naming_alias first.0) = record { alias = h.alias; stands = h.stands; of_kind = refl; reached = first.2; cyclic = h.cyclic } in
      (line.0, line.1, record { alias = s.0; among = s.1; leads = subst (λ j. ListLeadsToCyclicAlias j lines (single_member_list_naming_alias s.0.name)) (sym s.2) (subst (λ n. ListLeadsToCyclicAlias k lines (single_member_list_naming_alias n)) (sym s.3) leads) })

-- none of a list is what none at a place is
pub property_false_at_all_indices_has_none : {X : Type 0} (P : X → Type 0) (xs : List X) (i : ℕ) → length xs ≤ i → ((j : ℕ) → j < i → (x : X) → slice_get xs j ≡ Some x → P x → ⊥) → (x : X) → ListHasElement xs x → P x → ⊥
property_false_at_all_indices_has_none P xs i h none_at x has p =
    let place = place_of xs x has in
    none_at place.0 (omega (arith, h, slice_get_within xs place.0 x place.1)) x place.1 p

-- what is not so of the one at a place is not so of what stands there
pub property_false_at_index_stays_false : {X : Type 0} (P : X → Type 0) (xs : List X) (i : ℕ) (x y : X) → slice_get xs i ≡ Some x → (P x → ⊥) → slice_get xs i ≡ Some y → P y → ⊥
property_false_at_index_stays_false P xs i x y at_x not at_y p = let same : y ≡ x = let two : Some y ≡ Some x = sym at_y ∙ at_x in cc in not (subst P same p)
