use Rattle.sudoers_check.proofs.Common.{AreOpenNodesClosedFromPlaceOn, length, ◌≡◌, ◌≤◌}
use Rattle.sudoers_check.proofs.cycles.CycleSearch.close_open_nodes.Given as goal

abbrev pub invariant-loop-self : goal.invariant-loop-self
invariant-loop-self l = record {
  closed : AreOpenNodesClosedFromPlaceOn l.graph l.alone (length l.self.nodes.items) l.initial.self.standings.items l.initial.self.marks.items l.initial.self.nodes.items l.self.standings.items l.self.marks.items l.self.nodes.items;
  place : l.place ≤ length l.self.nodes.items;
  groups : l.self.groups.items ≡ l.initial.self.groups.items;
  way : l.self.way.items ≡ l.initial.self.way.items;
}

abbrev pub decreases-loop-self : goal.decreases-loop-self
decreases-loop-self l = length l.self.nodes.items
