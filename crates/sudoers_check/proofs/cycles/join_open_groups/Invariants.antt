use Rattle.sudoers_check.proofs.Common.{HasAscendingKeys, ListHasElement, length, ℕ, ◌≤◌}
use Rattle.sudoers_check.proofs.cycles.join_open_groups.Given as goal

abbrev pub invariant-loop-start : goal.invariant-loop-start
invariant-loop-start l = record {
  kept : (b : ℕ) → ListHasElement l.groups.items b → ListHasElement l.initial.groups.items b;
  all : (b : ℕ) → ListHasElement l.initial.groups.items b → b ≤ l.place → ListHasElement l.groups.items b;
  ascend : HasAscendingKeys (λ n. n) l.groups.items;
}

abbrev pub decreases-loop-start : goal.decreases-loop-start
decreases-loop-start l = length l.groups.items
