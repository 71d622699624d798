-- Chains of numbers are those of mentions.
use Rattle.sudoers_match_list.proofs.Common.{DefinitionMentionsName, HasAliasAsMember, IsReachedByChainOfSteps, Kind, Line, List, ListHasElement, ListLeadsToAliasCycle, ListLeadsToCyclicAlias, Member, None, Option}
use Rattle.sudoers_match_list.proofs.Common.{PlacedDefinition, Some, [], alias_names_among_members, ap, cons_option, definitions_of_lines, here, inl, inr, members_of_optional_definition, members_of_definition_number}
use Rattle.sudoers_match_list.proofs.Common.{number_of_definition, numbers_of_defined_names, onward, refl, slice_get, subst, sym, ℕ, ◌∙◌, ◌∷◌, ◌≡◌, ◌⊎◌}
use Rattle.sudoers_match_list.proofs.Numbered.{number_of_definition_is_of_its_definition, definition_of_name_has_kind_and_name}

cons_option_element_is_head_or_listed : (o : Option ℕ) (xs : List ℕ) (x : ℕ) → ListHasElement (cons_option o xs) x → (o ≡ Some x) ⊎ ListHasElement xs x
cons_option_element_is_head_or_listed None xs x h = inr h
cons_option_element_is_head_or_listed (Some y) xs x (inl e) = inl (ap Some e)
cons_option_element_is_head_or_listed (Some y) xs x (inr h) = inr h

cons_option_keeps_element_of_list : (o : Option ℕ) (xs : List ℕ) (x : ℕ) → ListHasElement xs x → ListHasElement (cons_option o xs) x
cons_option_keeps_element_of_list None xs x h = h
cons_option_keeps_element_of_list (Some y) xs x h = inr h

cons_option_has_its_head : (o : Option ℕ) (xs : List ℕ) (x : ℕ) → o ≡ Some x → ListHasElement (cons_option o xs) x
cons_option_has_its_head None xs x e = absurd cc
cons_option_has_its_head (Some y) xs x e = inl cc

module _ (kd : Kind) (lines : List Line) where
  name_of : (names : List (List ℕ)) (i : ℕ) → ListHasElement (numbers_of_defined_names kd names (definitions_of_lines lines)) i
      → (name : List ℕ) × ListHasElement names name × (number_of_definition kd name (definitions_of_lines lines) ≡ Some i)
  name_of [] i h = absurd h
  name_of (n ∷ names) i h = elim (cons_option_element_is_head_or_listed (number_of_definition kd n (definitions_of_lines lines)) (numbers_of_defined_names kd names (definitions_of_lines lines)) i h) [
    | inl e ↦ (n, inl refl, e)
    | inr rest ↦ let found = name_of names i rest in (found.0, inr found.1, found.2)
  ]

  has_number : (names : List (List ℕ)) (name : List ℕ) (i : ℕ) → ListHasElement names name → number_of_definition kd name (definitions_of_lines lines) ≡ Some i
      → ListHasElement (numbers_of_defined_names kd names (definitions_of_lines lines)) i
  has_number [] name i h e = absurd h
  has_number (n ∷ names) name i (inl same) e =
      cons_option_has_its_head (number_of_definition kd n (definitions_of_lines lines)) (numbers_of_defined_names kd names (definitions_of_lines lines)) i (ap (λ m. number_of_definition kd m (definitions_of_lines lines)) same ∙ e)
  has_number (n ∷ names) name i (inr h) e =
      cons_option_keeps_element_of_list (number_of_definition kd n (definitions_of_lines lines)) (numbers_of_defined_names kd names (definitions_of_lines lines)) i (has_number names name i h e)

  abbrev Joined : List (List ℕ) → List ℕ → Type 0
  Joined names = IsReachedByChainOfSteps (DefinitionMentionsName kd (definitions_of_lines lines)) (ListHasElement names)

  -- a chain of numbers is one of names
  pub to_names : (names : List (List ℕ)) (i : ℕ) → IsReachedByChainOfSteps (HasAliasAsMember kd lines) (ListHasElement (numbers_of_defined_names kd names (definitions_of_lines lines))) i
      → (name : List ℕ) × (number_of_definition kd name (definitions_of_lines lines) ≡ Some i) × Joined names name
  to_names names i (here x h) = let found = name_of names x h in (found.0, found.2, here found.0 found.1)
  to_names names i (onward x y chain leads) =
      let before = to_names names x chain in
      let d = number_of_definition_is_of_its_definition kd before.0 (definitions_of_lines lines) x before.1 in
      let is = definition_of_name_has_kind_and_name kd before.0 d.definition d.is in
      let found = name_of (alias_names_among_members (members_of_definition_number lines x)) y leads in (
        found.0,
        found.2,
        onward before.0 found.0 before.2 (record {
          by = d.definition;
          stands = d.stands;
          of_kind = is.0;
          of_name = is.1;
          mentions = subst (λ o. ListHasElement (alias_names_among_members (members_of_optional_definition o)) found.0) d.at found.1;
        }),
      )

  pub round_is : (ms : List Member) → ListLeadsToAliasCycle kd lines ms → ListLeadsToCyclicAlias kd lines ms
  round_is ms l =
      let to = to_names (alias_names_among_members ms) l.alias l.reached in
      let d = number_of_definition_is_of_its_definition kd to.0 (definitions_of_lines lines) l.alias to.1 in
      let is = definition_of_name_has_kind_and_name kd to.0 d.definition d.is in
      let round = to_names (alias_names_among_members (members_of_definition_number lines l.alias)) l.alias l.cyclic in
      let again = number_of_definition_is_of_its_definition kd round.0 (definitions_of_lines lines) l.alias round.1 in
      let same : again.definition ≡ d.definition = let two : Some again.definition ≡ Some d.definition = sym again.at ∙ d.at in cc in
      let called : round.0 ≡ d.definition.def.name = sym (definition_of_name_has_kind_and_name kd round.0 again.definition again.is).1 ∙ ap (λ (x : PlacedDefinition). x.def.name) same in
      record {
        alias = d.definition;
        stands = d.stands;
        of_kind = is.0;
        reached = subst (Joined (alias_names_among_members ms)) (sym is.1) to.2;
        cyclic = subst (λ k. IsReachedByChainOfSteps (DefinitionMentionsName k (definitions_of_lines lines)) (ListHasElement (alias_names_among_members d.definition.def.members)) d.definition.def.name) (sym is.0)
            (subst (λ o. IsReachedByChainOfSteps (DefinitionMentionsName kd (definitions_of_lines lines)) (ListHasElement (alias_names_among_members (members_of_optional_definition o))) d.definition.def.name) d.at (subst (Joined (alias_names_among_members (members_of_definition_number lines l.alias))) called round.2));
      }

  -- ---- and the other way, where each definition has the number of its name

  module _ (own : (d : PlacedDefinition) → ListHasElement (definitions_of_lines lines) d
      → (n : ℕ) × (number_of_definition d.kind d.def.name (definitions_of_lines lines) ≡ Some n) × (slice_get (definitions_of_lines lines) n ≡ Some d)) where
    to_numbers : (names : List (List ℕ)) (name : List ℕ) → Joined names name → (n : ℕ) → number_of_definition kd name (definitions_of_lines lines) ≡ Some n
        → IsReachedByChainOfSteps (HasAliasAsMember kd lines) (ListHasElement (numbers_of_defined_names kd names (definitions_of_lines lines))) n
    to_numbers names name (here x h) n e = here n (has_number names x n h e)
    to_numbers names name (onward x y chain joins) n e =
        let at = own joins.by joins.stands in
        let number : number_of_definition kd x (definitions_of_lines lines) ≡ Some at.0 =
        ap (λ k. number_of_definition k x (definitions_of_lines lines)) (sym joins.of_kind) ∙ ap (λ m. number_of_definition joins.by.kind m (definitions_of_lines lines)) (sym joins.of_name) ∙ at.1 in
        onward at.0 n (to_numbers names x chain at.0 number)
        (has_number (alias_names_among_members (members_of_definition_number lines at.0)) y n (subst (λ o. ListHasElement (alias_names_among_members (members_of_optional_definition o)) y) (sym at.2) joins.mentions) e)

    pub is_round : (ms : List Member) → ListLeadsToCyclicAlias kd lines ms → ListLeadsToAliasCycle kd lines ms
    is_round ms l =
        let at = own l.alias l.stands in
        let number : number_of_definition kd l.alias.def.name (definitions_of_lines lines) ≡ Some at.0 = ap (λ k. number_of_definition k l.alias.def.name (definitions_of_lines lines)) (sym l.of_kind) ∙ at.1 in
        record {
          alias = at.0;
          reached = to_numbers (alias_names_among_members ms) l.alias.def.name l.reached at.0 number;
          cyclic = to_numbers (alias_names_among_members (members_of_definition_number lines at.0)) l.alias.def.name
              (subst (λ o. Joined (alias_names_among_members (members_of_optional_definition o)) l.alias.def.name) (sym at.2) (subst (λ k. IsReachedByChainOfSteps (DefinitionMentionsName k (definitions_of_lines lines)) (ListHasElement (alias_names_among_members l.alias.def.members)) l.alias.def.name) l.of_kind l.cyclic)) at.0 number;
        }
