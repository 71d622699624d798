use Rattle.sudoers_match.specs.internal.Misses.{IsValidMissSearch}
use Rattle.sudoers_match.proofs.near_misses.MissSearch.append_misses_of_groups.Given as goal

abbrev pub invariant-loop-row : goal.invariant-loop-row
invariant-loop-row l = IsValidMissSearch l.asked l.self
