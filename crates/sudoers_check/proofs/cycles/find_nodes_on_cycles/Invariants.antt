use Rattle.sudoers_check.proofs.Common.{HasSearchInvariant, IsMetNode, [], ℕ, ◌<◌, ◌≡◌}
use Rattle.sudoers_check.proofs.cycles.find_nodes_on_cycles.Given as goal

abbrev pub invariant-loop-node : goal.invariant-loop-node
invariant-loop-node l = record {
  kept : HasSearchInvariant l.graph l.search;
  way : l.search.way.items ≡ [];
  met : (v : ℕ) → v < l.node → IsMetNode l.search.standings.items v;
}
