use Rattle.std.proofs.Common.{◌+◌, length}
use Rattle.sudoers_line_rows.specs.View.{members_of_view}
use Rattle.sudoers_undecided.specs.internal.Collected.{AreMembersHandled, CollectsOnlyOf, IsClosedUpTo, IsCollector, KeepsFound, marks_left}
use Rattle.sudoers_undecided.proofs.alias_collector.AliasCollector.collect_from_list.Given as goal

abbrev pub invariant-loop-asked : goal.invariant-loop-asked
invariant-loop-asked l = record {
  keeps : KeepsFound l.fn.self l.self;
  collector : IsCollector l.numbers.walk l.self;
  closed : IsClosedUpTo l.numbers.walk l.self l.self.pending.items;
  handled : AreMembersHandled l.numbers.walk l.self l.list.wanted (members_of_view l.list.members);
  only : CollectsOnlyOf l.numbers.walk (members_of_view l.list.members) l.list.wanted l.fn.self l.self;
}

abbrev pub decreases-loop-asked : goal.decreases-loop-asked
decreases-loop-asked l = marks_left l.self.marks.items + length l.self.pending.items
