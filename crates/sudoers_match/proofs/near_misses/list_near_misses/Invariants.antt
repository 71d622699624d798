use Rattle.sudoers_match.specs.internal.Misses.{IsValidMissSearch}
use Rattle.sudoers_match.proofs.near_misses.list_near_misses.Given as goal

abbrev pub invariant-loop-spec : goal.invariant-loop-spec
invariant-loop-spec l = IsValidMissSearch l.asked l.search
