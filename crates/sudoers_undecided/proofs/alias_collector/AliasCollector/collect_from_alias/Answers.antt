use Rattle.std.proofs.Common.{OnOk, subst}
use Rattle.sudoers_undecided.specs.internal.Collected.{AreMembersHandled, CollectsOnlyOf}
use Rattle.sudoers_undecided.proofs.Deciding.{definition_held_at, read_element}
use Rattle.sudoers_undecided.proofs.alias_collector.AliasCollector.collect_from_alias.Goals as goal

pub returns-clause-handled : goal.returns-clause-handled
returns-clause-handled c =
    let lines = c.args.numbers.now.walk in
    let h = definition_held_at lines c.args.definitions.now c.args.asked.number c.in-Some.definition.now c.requires.definitions
    (read_element c.args.definitions.now c.args.asked.number c.get.result c.in-Some.definition c.get.ensures.lookup.0 c.get.ensures.lookup.1 c.in-Some.is) in
    subst (λ ms. OnOk c.collect_members.result (AreMembersHandled lines c.collect_members.new.self c.args.asked.wanted ms)) h.members_are c.collect_members.ensures.handled

pub returns-clause-only : goal.returns-clause-only
returns-clause-only c =
    let lines = c.args.numbers.now.walk in
    let h = definition_held_at lines c.args.definitions.now c.args.asked.number c.in-Some.definition.now c.requires.definitions
    (read_element c.args.definitions.now c.args.asked.number c.get.result c.in-Some.definition c.get.ensures.lookup.0 c.get.ensures.lookup.1 c.in-Some.is) in
    subst (λ ms. OnOk c.collect_members.result (CollectsOnlyOf lines ms c.args.asked.wanted c.args.self.now c.collect_members.new.self)) h.members_are c.collect_members.ensures.only
