use Rattle.std.proofs.Common.{◌≡◌, ◌∙◌, [], append-nil, sym, subst, refl, rules}
use Rattle.sudoers_line_rows.specs.View.{members_of_view}
use Rattle.sudoers_check.specs.Chain.{ListHasElement}
use Rattle.sudoers_check.proofs.Lists.{Has_pushed}
use Rattle.sudoers_undecided.specs.declared.alias_collector.AliasCollector.{AliasCollector}
use Rattle.sudoers_undecided.specs.declared.decided_aliases.DecidedAliases.{DecidedAliases}
use Rattle.sudoers_undecided.specs.internal.Collected.{IsClosedUpTo, IsCollectorOfLists, KeepsFound}
use Rattle.sudoers_undecided.specs.internal.Decided.{matched_by, undecided_by}
use Rattle.sudoers_undecided.specs.internal.Wanted.{IsWantedOfList}
use Rattle.sudoers_undecided.proofs.Asking.{closed_after_pop, closed_on, closed_with_none_pending, keeps_on, members_stay_handled, pop_keeps, settled_collector_has_found, stays_collector}
use Rattle.sudoers_undecided.proofs.Origins.{collector_after_pop, list_is_wanted}
use Rattle.sudoers_undecided.proofs.alias_collector.AliasCollector.collect_from_list.Goals as goal

pub loop-asked-init : goal.loop-asked-init
loop-asked-init c =
    let lines = c.args.numbers.now.walk in
    let more = c.in_ok-collect_members.ensures.more in
    record {
      keeps = more.keeps;
      collector = stays_collector lines c.args.self.now c.collect_members.new.self more.keeps c.requires.settled.collector;
      closed = closed_on lines c.args.self.now c.collect_members.new.self more c.requires.settled.closed;
      handled = c.in_ok-collect_members.ensures.handled;
      only = c.in_ok-collect_members.ensures.only;
    }

pub loop-asked-preserved : goal.loop-asked-preserved
loop-asked-preserved c =
    let lines = c.args.numbers.now.walk in
    let self = c.loop-asked.self in
    let popped : AliasCollector = record self { pending = c.pop.new.self } in
    let new = c.collect_from_alias.new.self in
    let more = c.in_ok-collect_from_alias.ensures.more in
    let keeps : KeepsFound self new = keeps_on self popped new (pop_keeps self popped refl refl refl refl) more.keeps in
    record {
      keeps = keeps_on c.args.self.now self new c.loop-asked.invariant.keeps keeps;
      collector = stays_collector lines self new keeps c.loop-asked.invariant.collector;
      closed = closed_after_pop lines self popped new c.in-Some.asked keeps more refl c.in-Some.ensures.items c.in_ok-collect_from_alias.ensures.handled c.loop-asked.invariant.closed;
      handled = members_stay_handled lines self new keeps c.args.list.now.wanted (members_of_view c.args.list.now.members) c.loop-asked.invariant.handled;
      only = λ lists wanted h.
          let before : IsCollectorOfLists lines lists self = c.loop-asked.invariant.only lists wanted h in
          c.in_ok-collect_from_alias.ensures.only lists (before.pending c.in-Some.asked (subst (λ ps. ListHasElement ps c.in-Some.asked) (sym c.in-Some.ensures.items) (Has_pushed c.pop.new.self.items c.in-Some.asked)))
          (collector_after_pop lines lists self popped refl refl before _ c.in-Some.ensures.items refl);
    }

pub returns-clause-settled : goal.returns-clause-settled
returns-clause-settled c =
    let lines = c.args.numbers.now.walk in
    let self = c.loop-asked.self in
    let popped : AliasCollector = record self { pending = c.pop.new.self } in
    let keeps : KeepsFound self popped = pop_keeps self popped refl refl refl refl in
    let left : c.pop.new.self.items ≡ [] = search rules in
    let none : self.pending.items ≡ [] = c.in_default.ensures.items ∙ append-nil c.pop.new.self.items ∙ left in
    record {
      collector = stays_collector lines self popped keeps c.loop-asked.invariant.collector;
      none_pending = left;
      closed = closed_with_none_pending lines self popped keeps refl none c.loop-asked.invariant.closed;
    }

pub returns-clause-found : goal.returns-clause-found
returns-clause-found c s x =
    let lines = c.args.numbers.now.walk in
    let self = c.loop-asked.self in
    let left : c.pop.new.self.items ≡ [] = search rules in
    let none : self.pending.items ≡ [] = c.in_default.ensures.items ∙ append-nil c.pop.new.self.items ∙ left in
    let wanted = subst (λ (d : DecidedAliases). IsWantedOfList d.kind lines (undecided_by d) (matched_by d) (members_of_view c.args.list.now.members) c.args.list.now.wanted s) (sym c.loop-asked.invariant.keeps.aliases) x in
    settled_collector_has_found lines self (subst (IsClosedUpTo lines self) none c.loop-asked.invariant.closed) c.args.list.now.wanted (members_of_view c.args.list.now.members) c.loop-asked.invariant.handled
    wanted.flat s wanted.is_flat wanted.is_wanted

pub returns-clause-only : goal.returns-clause-only
returns-clause-only c lists stands flat h =
    let lines = c.args.numbers.now.walk in
    collector_after_pop lines lists c.loop-asked.self _ refl refl (c.loop-asked.invariant.only lists (list_is_wanted lines c.args.self.now.aliases.now lists c.args.list.now stands flat) h) _ c.in_default.ensures.items refl
