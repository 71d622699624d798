use Rattle.sudoers_undecided.specs.internal.Decided.{AsksSame, HoldsSwaysOfAliases}
use Rattle.sudoers_undecided.proofs.decided_aliases.DecidedAliases.decide_in_order.Given as goal

abbrev pub invariant-loop-number : goal.invariant-loop-number
invariant-loop-number l = record { holds : HoldsSwaysOfAliases l.numbers.walk l.self; same : AsksSame l.self l.fn.self }
