use Rattle.sudoers_check.proofs.Common.{SearchHasMetNode, cycle_search_steps_left}
use Rattle.sudoers_check.proofs.cycles.CycleSearch.search_from_node.Given as goal

abbrev pub invariant-loop-step : goal.invariant-loop-step
invariant-loop-step l = SearchHasMetNode l.graph l.fn.self.standings.items l.node l.self

abbrev pub decreases-loop-step : goal.decreases-loop-step
decreases-loop-step l = cycle_search_steps_left l.graph l.self.standings.items l.self.way.items
