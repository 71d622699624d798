use Rattle.std.proofs.Common.{◌≡◌, ◌≤◌, ◌+◌, [], length}
use Rattle.std.specs.Prelude.{◌&&◌, nat_le}
use Rattle.sudoers_defaults.specs.Values.{are_timed_parts, is_time, seconds_of_timed_parts, timed_parts}
use Rattle.sudoers_defaults.proofs.time_values.is_time.Given as goal

abbrev pub invariant-loop-rest : goal.invariant-loop-rest
invariant-loop-rest l = record {
  within : l.seconds ≤ 2147483647;
  same : (are_timed_parts l.longest (timed_parts [] l.rest) && nat_le (l.seconds + seconds_of_timed_parts (timed_parts [] l.rest)) 2147483647) ≡ is_time l.value;
}

abbrev pub decreases-loop-rest : goal.decreases-loop-rest
decreases-loop-rest l = length l.rest
