use Rattle.sudoers_match.proofs.Common.{AccumulatedCommandSettings, HoldsCommandSettings, RunasSpecLeadsToNoCycle}
use Rattle.sudoers_match.specs.internal.Misses.{IsValidMissSearch}
use Rattle.sudoers_match.proofs.near_misses.MissSearch.append_misses_of_group.Given as goal

abbrev pub invariant-loop-row : goal.invariant-loop-row
invariant-loop-row l =
    IsValidMissSearch l.asked l.self
    × ((h : AccumulatedCommandSettings) × HoldsCommandSettings l.head h × RunasSpecLeadsToNoCycle l.asked.policy.now h.runas)
