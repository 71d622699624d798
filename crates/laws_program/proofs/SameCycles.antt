-- Printed rules have a reachable cycle if the policy has one, and only then.
use Rattle.laws_program.proofs.Common.{◌≡◌, inl, inr, ◌↔◌, ℕ, List, [], ◌∷◌, refl, sym, subst, ◌∙◌, Kind, Line, PlacedDefinition, definitions_of_lines, ListHasElement, IsReachedByChainOfSteps, here}
use Rattle.laws_program.proofs.Common.{onward, alias_names_among_members, DefinitionMentionsName, root_alias_names, HasCyclicAliasReachedFromSpecOrDefaults, AreItemsPairwiseRelated, NodeIsReadBackAs, IsPointwiseRelated, rules_of_policy_lines, rule_nodes_in_print_order, nodes_of_lines}
use Rattle.laws_program.proofs.Aliases.{IsKindAndDefinitionSameButPlace, kinds_and_definitions_of_placed, printed_rules_keep_definitions}
use Rattle.laws_program.proofs.RootsAlike.{same_members_have_same_alias_names, printed_rules_keep_root_alias_names}

-- two definitions of one name that mention the same names
record DefinitionsMentionSameNames (d e : PlacedDefinition) : Type 0 where
  kind : e.kind ≡ d.kind
  name : e.def.name ≡ d.def.name
  names : alias_names_among_members e.def.members ≡ alias_names_among_members d.def.members

same_definitions_mention_same_names : (ds es : List PlacedDefinition) → IsPointwiseRelated IsKindAndDefinitionSameButPlace (kinds_and_definitions_of_placed ds) (kinds_and_definitions_of_placed es) → IsPointwiseRelated DefinitionsMentionSameNames ds es
same_definitions_mention_same_names [] [] all = tt
same_definitions_mention_same_names (d ∷ ds) (e ∷ es) all =
    (record { kind = sym all.0.kind; name = sym all.0.def.name; names = same_members_have_same_alias_names d.def.members e.def.members all.0.def.members }, same_definitions_mention_same_names ds es all.1)
same_definitions_mention_same_names ds es all = absurd all

mention_relation_is_symmetric : (ds es : List PlacedDefinition) → IsPointwiseRelated DefinitionsMentionSameNames ds es → IsPointwiseRelated DefinitionsMentionSameNames es ds
mention_relation_is_symmetric [] [] all = tt
mention_relation_is_symmetric (d ∷ ds) (e ∷ es) all = (record { kind = sym all.0.kind; name = sym all.0.name; names = sym all.0.names }, mention_relation_is_symmetric ds es all.1)
mention_relation_is_symmetric ds es all = absurd all

definition_has_counterpart_of_same_mentions : (ds es : List PlacedDefinition) → IsPointwiseRelated DefinitionsMentionSameNames ds es → (d : PlacedDefinition) → ListHasElement ds d → (e : PlacedDefinition) × ListHasElement es e × DefinitionsMentionSameNames d e
definition_has_counterpart_of_same_mentions [] es all d h = absurd h
definition_has_counterpart_of_same_mentions (x ∷ ds) [] all d h = absurd all
definition_has_counterpart_of_same_mentions (x ∷ ds) (e ∷ es) all d (inl is) = (e, inl refl, subst (λ (c : PlacedDefinition). DefinitionsMentionSameNames c e) is all.0)
definition_has_counterpart_of_same_mentions (x ∷ ds) (e ∷ es) all d (inr h) = let more = definition_has_counterpart_of_same_mentions ds es all.1 d h in (more.0, inr more.1, more.2)

-- what definitions that mention the same join
module _ (lines others : List Line) (all : IsPointwiseRelated DefinitionsMentionSameNames (definitions_of_lines lines) (definitions_of_lines others)) (rooted : (k : Kind) (x : List ℕ) → ListHasElement (root_alias_names k lines) x → ListHasElement (root_alias_names k others) x) where
  joins_there : (k : Kind) (x y : List ℕ) → DefinitionMentionsName k (definitions_of_lines lines) x y → DefinitionMentionsName k (definitions_of_lines others) x y
  joins_there k x y j =
      let e = definition_has_counterpart_of_same_mentions (definitions_of_lines lines) (definitions_of_lines others) all j.by j.stands in
      record { by = e.0; stands = e.1; of_kind = e.2.kind ∙ j.of_kind; of_name = e.2.name ∙ j.of_name; mentions = subst (λ ns. ListHasElement ns y) (sym e.2.names) j.mentions }

  chain_there : (k : Kind) (P Q : List ℕ → Type 0) → ((x : List ℕ) → P x → Q x) → (x : List ℕ) → IsReachedByChainOfSteps (DefinitionMentionsName k (definitions_of_lines lines)) P x → IsReachedByChainOfSteps (DefinitionMentionsName k (definitions_of_lines others)) Q x
  chain_there k P Q to x (here y p) = here y (to y p)
  chain_there k P Q to x (onward y z c j) = onward y z (chain_there k P Q to y c) (joins_there k y z j)

  cycle_there : HasCyclicAliasReachedFromSpecOrDefaults lines → HasCyclicAliasReachedFromSpecOrDefaults others
  cycle_there h =
      let e = definition_has_counterpart_of_same_mentions (definitions_of_lines lines) (definitions_of_lines others) all h.alias h.stands in
      let k = h.alias.kind in
      let name = h.alias.def.name in
      let reached = chain_there k (ListHasElement (root_alias_names k lines)) (ListHasElement (root_alias_names k others)) (rooted k) name h.reached in
      let cyclic = chain_there k (ListHasElement (alias_names_among_members h.alias.def.members)) (ListHasElement (alias_names_among_members e.0.def.members)) (λ x m. subst (λ ns. ListHasElement ns x) (sym e.2.names) m) name h.cyclic in
      record {
        alias = e.0;
        stands = e.1;
        reached = subst (λ (j : Kind). IsReachedByChainOfSteps (DefinitionMentionsName j (definitions_of_lines others)) (ListHasElement (root_alias_names j others)) e.0.def.name) (sym e.2.kind)
            (subst (λ n. IsReachedByChainOfSteps (DefinitionMentionsName k (definitions_of_lines others)) (ListHasElement (root_alias_names k others)) n) (sym e.2.name) reached);
        cyclic = subst (λ (j : Kind). IsReachedByChainOfSteps (DefinitionMentionsName j (definitions_of_lines others)) (ListHasElement (alias_names_among_members e.0.def.members)) e.0.def.name) (sym e.2.kind)
            (subst (λ n. IsReachedByChainOfSteps (DefinitionMentionsName k (definitions_of_lines others)) (ListHasElement (alias_names_among_members e.0.def.members)) n) (sym e.2.name) cyclic);
      }

pub printed_rules_keep_reachable_cycle : (lines read : List Line) → AreItemsPairwiseRelated NodeIsReadBackAs (rule_nodes_in_print_order (rules_of_policy_lines lines)) (nodes_of_lines read) → HasCyclicAliasReachedFromSpecOrDefaults lines ↔ HasCyclicAliasReachedFromSpecOrDefaults read
printed_rules_keep_reachable_cycle lines read same = (
  cycle_there lines read (same_definitions_mention_same_names (definitions_of_lines lines) (definitions_of_lines read) (printed_rules_keep_definitions lines read same)) (λ k x. (printed_rules_keep_root_alias_names lines read same k x).0),
  cycle_there read lines (mention_relation_is_symmetric (definitions_of_lines lines) (definitions_of_lines read) (same_definitions_mention_same_names (definitions_of_lines lines) (definitions_of_lines read) (printed_rules_keep_definitions lines read same)))
      (λ k x. (printed_rules_keep_root_alias_names lines read same k x).1),
)
