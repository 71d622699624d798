-- Policies whose lines are counterparts answer the same.
use Rattle.sudoers_match.proofs.Common.{Answer, ArePlacesOfMatchingHostGroups, Atom, HasCyclicAliasReachedFromSpecOrDefaults, HaveSameFlatListAfterRewrite, HostGroupPlace, IsAnswerToRequest, IsPointwiseRelated, IsRunasDefault, KeepsAliasCounterparts}
use Rattle.sudoers_match.proofs.Common.{KeepsAtomMatches, Kind, Line, List, ListLeadsToCyclicAlias, Member, Option, Request, Who, nodes_without_alias_lines, ℕ, ◌↔◌}
use Rattle.sudoers_tree.specs.Policy.{AreValidWalkLines}
use Rattle.sudoers_match.proofs.Alike.{AlikeListsHaveSameVerdict, alike_settings_give_same_runas_default}
use Rattle.sudoers_match.proofs.Counterparts.{AtomCounterpartRelation, IsLineCounterpart, root_members_of_lines, reachable_cycle_is_reached_by_root_members, cycle_of_root_members_is_reachable, specs_equal, defaults_alike, roots_alike}
use Rattle.sudoers_match.proofs.SpecsEqual.{equal_specs_answer, equal_specs_groups}

-- what the law of lists that lead to a cyclic alias says
abbrev pub AlikeListsLeadToSameCycle : Type 0
AlikeListsLeadToSameCycle = (write : Atom → Atom) (k : Kind) (lines others : List Line) (ms ns : List Member) → AreValidWalkLines lines → AreValidWalkLines others
    → HaveSameFlatListAfterRewrite write k lines others ms ns → ListLeadsToCyclicAlias k lines ms ↔ ListLeadsToCyclicAlias k others ns

module _ (S : AtomCounterpartRelation) (write : Atom → Atom) (lines others : List Line) (keeps : (k : Kind) → KeepsAliasCounterparts (S k) write k lines others)
    (all : IsPointwiseRelated (IsLineCounterpart S) (nodes_without_alias_lines lines) (nodes_without_alias_lines others)) where
  module _ (law : AlikeListsHaveSameVerdict) (hits : KeepsAtomMatches write) where
    -- Each request has the same answers.
    pub same_answer : (q : Request) (answer : Option Answer) → IsAnswerToRequest lines q answer ↔ IsAnswerToRequest others q answer
    same_answer q answer =
        equal_specs_answer law write lines others hits (specs_equal S write lines others keeps all)
        (defaults_alike S write lines others keeps all) q answer

    -- A user has the same runas_default.
    pub same_runas_default : (who : Who) (name : List ℕ) → IsRunasDefault lines who name ↔ IsRunasDefault others who name
    same_runas_default who name = alike_settings_give_same_runas_default law write lines others hits (defaults_alike S write lines others keeps all) who name

    -- A user has rules at the same places.
    pub same_host_groups : (who : Who) (places : List HostGroupPlace) → ArePlacesOfMatchingHostGroups lines who places ↔ ArePlacesOfMatchingHostGroups others who places
    same_host_groups who places = equal_specs_groups law write lines others hits (specs_equal S write lines others keeps all) who places

  -- Both have a reachable cyclic alias, or neither does.
  pub same_cycle : AlikeListsLeadToSameCycle → AreValidWalkLines lines → AreValidWalkLines others → HasCyclicAliasReachedFromSpecOrDefaults lines ↔ HasCyclicAliasReachedFromSpecOrDefaults others
  same_cycle law here there = (to, from)
    where
      both : (k : Kind) → ListLeadsToCyclicAlias k lines (root_members_of_lines k lines) ↔ ListLeadsToCyclicAlias k others (root_members_of_lines k others)
      both k = law write k lines others (root_members_of_lines k lines) (root_members_of_lines k others) here there (roots_alike S write lines others keeps all k)

      to : HasCyclicAliasReachedFromSpecOrDefaults lines → HasCyclicAliasReachedFromSpecOrDefaults others
      to h = let l = reachable_cycle_is_reached_by_root_members lines h in cycle_of_root_members_is_reachable others l.0 ((both l.0).0 l.1)

      from : HasCyclicAliasReachedFromSpecOrDefaults others → HasCyclicAliasReachedFromSpecOrDefaults lines
      from h = let l = reachable_cycle_is_reached_by_root_members others h in cycle_of_root_members_is_reachable lines l.0 ((both l.0).1 l.1)
