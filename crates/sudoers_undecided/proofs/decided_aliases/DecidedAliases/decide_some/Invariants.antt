use Rattle.std.proofs.Common.{◌≡◌, ◌≤◌, ◌<◌, ℕ, true, false}
use Rattle.sudoers_undecided.specs.internal.Decided.{AsksSame, HoldsSwaysOfAliases, WaitsForOther, sways_left}
use Rattle.sudoers_undecided.proofs.decided_aliases.DecidedAliases.decide_some.Given as goal

abbrev pub invariant-loop-number : goal.invariant-loop-number
invariant-loop-number l = record {
  holds : HoldsSwaysOfAliases l.numbers.walk l.self;
  same : AsksSame l.self l.fn.self;
  fewer : sways_left l.self.sways.items ≤ sways_left l.fn.self.sways.items;
  more : l.more ≡ true → sways_left l.self.sways.items < sways_left l.fn.self.sways.items;
  waits : l.more ≡ false → (k : ℕ) → k < l.number → WaitsForOther l.numbers.walk l.self k;
}
