use Rattle.std.proofs.Common.{◌∙◌, ◌++◌, ◌⊎◌, inl, inr, sym, ap, subst}
use Rattle.sudoers_check.specs.Chain.{ListHasElement}
use Rattle.sudoers_check.proofs.Lists.{Has_front}
use Rattle.sudoers_check.proofs.Named.{element_of_appended_is_in_either}
use Rattle.sudoers_undecided.specs.FoundMembers.{HasAtomInPart}
use Rattle.sudoers_undecided.specs.internal.Collected.{IsMemberOfLists, IsMemberUndecided}
use Rattle.sudoers_undecided.proofs.Asking.{found_stays}
use Rattle.sudoers_undecided.proofs.Listed.{collected_one_more, found_kept, has_back, listed_all}
use Rattle.sudoers_undecided.proofs.Origins.{collected_on, new_collector_of_lists}
use Rattle.sudoers_undecided.proofs.member_search.MemberSearch.append_members.Goals as goal

pub loop-list-init : goal.loop-list-init
loop-list-init c = record {
  settled = c.in_ok-collector.ensures.settled;
  part = c.in_ok-collector.ensures.part;
  aliases = c.in_ok-collector.ensures.aliases;
  found = λ list h s w. absurd h;
  only = λ _. new_collector_of_lists c.args.self.now.policy.now c.args.lists.now c.in_ok-collector.collector c.in_ok-collector.ensures.empty c.in_ok-collector.ensures.settled.none_pending;
  undecided = λ u h. absurd (subst (λ us. ListHasElement us u) c.in_ok-collector.ensures.empty h);
}

pub collect_from_list-requires-clause-settled : goal.collect_from_list-requires-clause-settled
collect_from_list-requires-clause-settled c = c.loop-list.invariant.settled

pub loop-list-preserved : goal.loop-list-preserved
loop-list-preserved c =
    let lines = c.args.self.now.policy.now in
    let d = c.args.aliases.now in
    let old = c.loop-list.collector in
    let new = c.collect_from_list.new.self in
    let keeps = c.in_ok-collect_from_list.ensures.keeps in
    record {
      settled = c.in_ok-collect_from_list.ensures.settled;
      part = keeps.part ∙ c.loop-list.invariant.part;
      aliases = keeps.aliases ∙ c.loop-list.invariant.aliases;
      found = collected_one_more lines _ d old.aliases.now c.loop-list.invariant.aliases c.definition_numbers-numbers.ensures c.args.lists.now c.loop-list.list-index c.list-item.result c.loop-list-test.true new.found.items new.part
          (λ list h s w. found_stays old new keeps s (c.loop-list.invariant.found list h s w)) c.list-item.result c.list-item.is c.in_ok-collect_from_list.ensures.found;
      only = λ flat. collected_on lines _ d old new c.loop-list.invariant.aliases c.definition_numbers-numbers.ensures c.args.lists.now c.loop-list.list-index c.list-item.result c.loop-list-test.true c.list-item.is
          c.in_ok-collect_from_list.ensures.only flat (c.loop-list.invariant.only flat);
      undecided = λ u h. elim (keeps.undecided u h) as (λ _. IsMemberUndecided d u) [
        | inl before ↦ c.loop-list.invariant.undecided u before
        | inr it ↦ subst (λ x. IsMemberUndecided x u) c.loop-list.invariant.aliases it
      ];
    }

pub returns-clause-kept : goal.returns-clause-kept
returns-clause-kept c u h = subst (λ us. ListHasElement us u) (sym c.in_ok-extend_from_slice.ensures.items) (Has_front c.args.found.now.items c.as_slice.result.now u h)

pub returns-clause-found : goal.returns-clause-found
returns-clause-found c s w =
    let self = c.loop-list.collector in
    let it : HasAtomInPart self.found.items c.args.part s =
    subst (λ p. HasAtomInPart self.found.items p s) c.loop-list.invariant.part
    (c.loop-list.invariant.found w.list (listed_all c.args.lists.now c.loop-list.list-index c.loop-list-test.false w.list w.stands) s w.is_wanted) in
    found_kept self.found.items c.extend_from_slice.new.self.items c.args.part s
    (λ u h. subst (λ us. ListHasElement us u) (sym (c.in_ok-extend_from_slice.ensures.items ∙ ap (λ us. c.args.found.now.items ++ us) c.as_slice.ensures.value)) (has_back c.args.found.now.items self.found.items u h)) it

pub returns-clause-only : goal.returns-clause-only
returns-clause-only c flat u h =
    let lines = c.args.self.now.policy.now in
    let lists = c.args.lists.now in
    let self = c.loop-list.collector in
    elim (element_of_appended_is_in_either c.args.found.now.items self.found.items u (subst (λ us. ListHasElement us u) (c.in_ok-extend_from_slice.ensures.items ∙ ap (λ us. c.args.found.now.items ++ us) c.as_slice.ensures.value) h))
    as (λ _. ListHasElement c.args.found.now.items u ⊎ IsMemberOfLists lines c.args.aliases.now c.args.part lists u) [
      | inl old ↦ inl old
      | inr new ↦ inr
          (subst (λ d. IsMemberOfLists lines d c.args.part lists u) c.loop-list.invariant.aliases
          (subst (λ p. IsMemberOfLists lines self.aliases.now p lists u) c.loop-list.invariant.part ((c.loop-list.invariant.only flat).found u new)))
    ]

pub returns-clause-undecided : goal.returns-clause-undecided
returns-clause-undecided c u h =
    let self = c.loop-list.collector in
    elim (element_of_appended_is_in_either c.args.found.now.items self.found.items u (subst (λ us. ListHasElement us u) (c.in_ok-extend_from_slice.ensures.items ∙ ap (λ us. c.args.found.now.items ++ us) c.as_slice.ensures.value) h))
    as (λ _. ListHasElement c.args.found.now.items u ⊎ IsMemberUndecided c.args.aliases.now u) [
      | inl old ↦ inl old
      | inr new ↦ inr (c.loop-list.invariant.undecided u new)
    ]
