use Rattle.std.proofs.Common.{◌≡◌, [], take, drop}
use Rattle.sudoers_defaults.specs.Values.{timed_parts}
use Rattle.sudoers_defaults.proofs.time_values.split_timed_part.Given as goal

abbrev pub invariant-loop-at : goal.invariant-loop-at
invariant-loop-at l = timed_parts [] l.text ≡ timed_parts (take l.at l.text) (drop l.at l.text)
