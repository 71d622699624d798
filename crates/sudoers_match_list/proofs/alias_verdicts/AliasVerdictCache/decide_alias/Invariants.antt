use Rattle.sudoers_match_list.proofs.Common.{IsSearchFromAlias, search_steps_left}
use Rattle.sudoers_match_list.proofs.alias_verdicts.AliasVerdictCache.decide_alias.Given as goal

abbrev pub invariant-loop-step : goal.invariant-loop-step
invariant-loop-step g l = IsSearchFromAlias l.kind l.numbers.walk (g.K.MemberKind.test l.asked) l.alias.number l.self

abbrev pub decreases-loop-step : goal.decreases-loop-step
decreases-loop-step g l = search_steps_left l.numbers.walk l.self.standings.items l.self.way.items
