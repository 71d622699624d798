use Rattle.std.proofs.Common.{◌≤◌, drop, length}
use Rattle.sudoers_line_rows.specs.View.{members_of_view}
use Rattle.sudoers_undecided.specs.internal.Collected.{AreMembersHandled, AsksMore, CollectsOnlyOf, MatchesNothingUnlessAllWanted}
use Rattle.sudoers_undecided.proofs.alias_collector.AliasCollector.collect_members.Given as goal

abbrev pub invariant-loop-left : goal.invariant-loop-left
invariant-loop-left l = record {
  within : l.left ≤ length l.rows;
  more : AsksMore l.fn.self l.self;
  handled : AreMembersHandled l.numbers.walk l.self l.wanted (drop l.left (members_of_view l.members));
  behind : MatchesNothingUnlessAllWanted l.numbers.walk l.fn.self.aliases.now l.wanted (drop l.left (members_of_view l.members));
  only : CollectsOnlyOf l.numbers.walk (members_of_view l.members) l.wanted l.fn.self l.self;
}

abbrev pub decreases-loop-left : goal.decreases-loop-left
decreases-loop-left l = l.left
