use Rattle.std.proofs.Common.{◌≡◌}
use Rattle.sudoers_undecided.specs.internal.Decided.{HoldsSwaysOfAliases, sways_left}
use Rattle.sudoers_undecided.proofs.decided_aliases.DecidedAliases.new.Given as goal

abbrev pub invariant-loop : goal.invariant-loop
invariant-loop l = record {
  holds : HoldsSwaysOfAliases l.numbers.walk l.decided;
  kind : l.decided.kind ≡ l.fn.kind;
  question : l.decided.question ≡ l.question;
}

abbrev pub decreases-loop : goal.decreases-loop
decreases-loop l = sways_left l.decided.sways.items
