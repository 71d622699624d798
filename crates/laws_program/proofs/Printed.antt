-- What is read of the printed rules of a policy with its aliases replaced answers as the policy.
use Rattle.laws_program.proofs.Common.{◌≡◌, ◌↔◌, ℕ, true, List, Option, Ok, sym, subst, ◌∙◌, Kind, Member, Line, AreWalkLinesWithoutNul, policy_lines_of_text, HasCyclicAliasReachedFromSpecOrDefaults}
use Rattle.laws_program.proofs.Common.{Who, atom_read_back, MemberIsReadBackAs, AreItemsPairwiseRelated, NodeIsReadBackAs, HaveSameFlatListAfterRewrite, HostGroupPlace, Request, KeepsAtomMatches, AreAllRunasDefaultsAlike}
use Rattle.laws_program.proofs.Common.{AreAnswersSameButNumbers, Answer, IsAnswerToRequest, IsRunasDefault, ArePlacesOfMatchingHostGroups}
use Rattle.laws_program.proofs.Common.{FlatListIsUnique, Rules, rules_of_policy_lines, rule_nodes_in_print_order, printed_rules, is_printed_within_limits, nodes_of_lines, IsTextReadAsSameNodes}
use Rattle.laws_program.proofs.Common.{rules_with_used_definitions, lines_with_aliases_replaced}
use Rattle.laws_program.proofs.PrintedSpecs.{specs_equal, specs_for_same}
use Rattle.laws_program.proofs.PrintedAnswers.{AgreeingAliasesGiveSameFlatLists, AlikeSettingsGiveSameRunasDefault, AlikeSpecsHaveSameHostGroups, AlikeSpecsGiveSameAnswers as EqualLaw, lists_alike, defaults_there}
use Rattle.laws_program.proofs.SameCycles.{printed_rules_keep_reachable_cycle}
use Rattle.laws_program.proofs.Cycles.{cycle_back}
use Rattle.laws_program.proofs.Flattened.{LawsOfFlatLists, expansion_keeps_undefined_aliases}
use Rattle.laws_program.proofs.Kept.{lines_of_used_rules, rules_of_used_lines_are_used_rules, used_lines_keep_user_specs, used_lines_keep_runas_defaults}
use Rattle.laws_program.proofs.ExpandedAnswers.{AlikeRowsFitSameRequests, AnswerToRequestIsUnique, AlikeRowsHaveAlikeAnswers, IsLikeExpandedPolicy, same_default, same_groups, there, back}
use Rattle.laws_program.proofs.Used.{used_lines_keep_undefined_aliases}

equivalences_compose : {A B C : Type 0} → A ↔ B → B ↔ C → A ↔ C
equivalences_compose f g = (λ a. g.0 (f.0 a), λ c. f.1 (g.1 c))

-- ---- what is read of printed rules

module _ (law : AgreeingAliasesGiveSameFlatLists) (hits : KeepsAtomMatches atom_read_back) (lines read : List Line) (same : AreItemsPairwiseRelated NodeIsReadBackAs (rule_nodes_in_print_order (rules_of_policy_lines lines)) (nodes_of_lines read)) where
  lists : (k : Kind) (ms ns : List Member) → AreItemsPairwiseRelated MemberIsReadBackAs ms ns → HaveSameFlatListAfterRewrite atom_read_back k lines read ms ns
  lists = lists_alike law lines read same

  settings : AreAllRunasDefaultsAlike atom_read_back lines read
  settings = defaults_there law lines read same

  read_default : AlikeSettingsGiveSameRunasDefault → (who : Who) (name : List ℕ) → IsRunasDefault lines who name ↔ IsRunasDefault read who name
  read_default defaults who name = defaults atom_read_back lines read hits settings who name

  read_groups : AlikeSpecsHaveSameHostGroups → (who : Who) (places : List HostGroupPlace) → ArePlacesOfMatchingHostGroups lines who places ↔ ArePlacesOfMatchingHostGroups read who places
  read_groups groups who places = groups atom_read_back lines read hits (specs_for_same lines read lists same) who places

  read_answers : EqualLaw → (q : Request) (answer : Option Answer) → IsAnswerToRequest lines q answer ↔ IsAnswerToRequest read q answer
  read_answers equal q answer = equal atom_read_back lines read hits settings (specs_equal lines read lists same) q answer

-- ---- the rules that are kept of a policy with its aliases replaced

abbrev pub lines_of_used_expanded_rules : List Line → List Line
lines_of_used_expanded_rules lines = lines_of_used_rules (lines_with_aliases_replaced lines)

used_expanded_lines_are_like_expanded_policy : (lines : List Line) → IsLikeExpandedPolicy lines (lines_of_used_expanded_rules lines)
used_expanded_lines_are_like_expanded_policy lines = record {
  keep = λ k a e. used_lines_keep_undefined_aliases (lines_with_aliases_replaced lines) k a (expansion_keeps_undefined_aliases lines k a e);
  specs = used_lines_keep_user_specs (lines_with_aliases_replaced lines);
  settings = used_lines_keep_runas_defaults (lines_with_aliases_replaced lines);
}

-- what the law of printed rules says
abbrev pub PrintedExpandedRulesAreRead : Type 0
PrintedExpandedRulesAreRead = (lines : List Line) → AreWalkLinesWithoutNul lines → is_printed_within_limits (rules_with_used_definitions (lines_with_aliases_replaced lines)) ≡ true
    → IsTextReadAsSameNodes (printed_rules (rules_with_used_definitions (lines_with_aliases_replaced lines))) (rule_nodes_in_print_order (rules_with_used_definitions (lines_with_aliases_replaced lines)))

lines_read_of_expanded_print_are_same : PrintedExpandedRulesAreRead → (lines read : List Line) → AreWalkLinesWithoutNul lines → is_printed_within_limits (rules_with_used_definitions (lines_with_aliases_replaced lines)) ≡ true → policy_lines_of_text (printed_rules (rules_with_used_definitions (lines_with_aliases_replaced lines))) ≡ Ok read
    → AreItemsPairwiseRelated NodeIsReadBackAs (rule_nodes_in_print_order (rules_of_policy_lines (lines_of_used_expanded_rules lines))) (nodes_of_lines read)
lines_read_of_expanded_print_are_same reads lines read policy size e =
    let is = reads lines policy size in
    let one : is.read ≡ read = let both = sym is.is ∙ e in cc in
    subst (λ (r : Rules). AreItemsPairwiseRelated NodeIsReadBackAs (rule_nodes_in_print_order r) (nodes_of_lines read)) (sym (rules_of_used_lines_are_used_rules (lines_with_aliases_replaced lines)))
    (subst (λ (ls : List Line). AreItemsPairwiseRelated NodeIsReadBackAs (rule_nodes_in_print_order (rules_with_used_definitions (lines_with_aliases_replaced lines))) (nodes_of_lines ls)) one is.same)

module _ (reads : PrintedExpandedRulesAreRead) (law : AgreeingAliasesGiveSameFlatLists) (hits : KeepsAtomMatches atom_read_back) (laws : LawsOfFlatLists) (lines read : List Line) (policy : AreWalkLinesWithoutNul lines)
    (straight : HasCyclicAliasReachedFromSpecOrDefaults lines → ⊥) (size : is_printed_within_limits (rules_with_used_definitions (lines_with_aliases_replaced lines)) ≡ true) (e : policy_lines_of_text (printed_rules (rules_with_used_definitions (lines_with_aliases_replaced lines))) ≡ Ok read) where
  same : AreItemsPairwiseRelated NodeIsReadBackAs (rule_nodes_in_print_order (rules_of_policy_lines (lines_of_used_expanded_rules lines))) (nodes_of_lines read)
  same = lines_read_of_expanded_print_are_same reads lines read policy size e

  pub printed_default : AlikeSettingsGiveSameRunasDefault → (who : Who) (name : List ℕ) → IsRunasDefault lines who name ↔ IsRunasDefault read who name
  printed_default defaults who name =
      equivalences_compose (same_default laws lines (lines_of_used_expanded_rules lines) policy straight (used_expanded_lines_are_like_expanded_policy lines) defaults who name)
      (read_default law hits (lines_of_used_expanded_rules lines) read same defaults who name)

  pub printed_groups : AlikeSpecsHaveSameHostGroups → (who : Who) (places : List HostGroupPlace) → ArePlacesOfMatchingHostGroups lines who places ↔ ArePlacesOfMatchingHostGroups read who places
  printed_groups groups who places =
      equivalences_compose (same_groups laws lines (lines_of_used_expanded_rules lines) policy straight (used_expanded_lines_are_like_expanded_policy lines) groups who places)
      (read_groups law hits (lines_of_used_expanded_rules lines) read same groups who places)

  module _ (answers : AlikeRowsHaveAlikeAnswers) (equal : EqualLaw) (q : Request) where
    pub printed_there : (answer : Option Answer) → IsAnswerToRequest lines q answer → (other : Option Answer) × IsAnswerToRequest read q other × AreAnswersSameButNumbers answer other
    printed_there answer a =
        let mid = there laws lines (lines_of_used_expanded_rules lines) policy straight (used_expanded_lines_are_like_expanded_policy lines) answers q answer a in
        (mid.0, (read_answers law hits (lines_of_used_expanded_rules lines) read same equal q mid.0).0 mid.1, mid.2)

    pub printed_back : AlikeRowsFitSameRequests → FlatListIsUnique → AnswerToRequestIsUnique → (other : Option Answer) → IsAnswerToRequest read q other → (answer : Option Answer) × IsAnswerToRequest lines q answer × AreAnswersSameButNumbers answer other
    printed_back is_printed_within_limits one_flat one other b =
        back laws lines (lines_of_used_expanded_rules lines) policy straight (used_expanded_lines_are_like_expanded_policy lines) answers q is_printed_within_limits one_flat one other
        ((read_answers law hits (lines_of_used_expanded_rules lines) read same equal q other).1 b)

-- None of its reachable aliases is cyclic.
pub printed_expansion_has_no_cycle : PrintedExpandedRulesAreRead → (lines read : List Line) → AreWalkLinesWithoutNul lines → (HasCyclicAliasReachedFromSpecOrDefaults lines → ⊥) → is_printed_within_limits (rules_with_used_definitions (lines_with_aliases_replaced lines)) ≡ true
    → policy_lines_of_text (printed_rules (rules_with_used_definitions (lines_with_aliases_replaced lines))) ≡ Ok read → HasCyclicAliasReachedFromSpecOrDefaults read → ⊥
printed_expansion_has_no_cycle reads lines read policy straight size e h =
    straight (cycle_back lines ((printed_rules_keep_reachable_cycle (lines_of_used_expanded_rules lines) read (lines_read_of_expanded_print_are_same reads lines read policy size e)).1 h))
