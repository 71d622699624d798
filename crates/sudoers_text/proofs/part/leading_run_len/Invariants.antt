use Rattle.std.proofs.Common.{◌≡◌, ◌+◌, ◌-◌, ◌≤◌, length, drop}
use Rattle.sudoers_text.specs.Part.{reach_of_units, run_unit_size}
use Rattle.sudoers_text.proofs.part.leading_run_len.Given as goal

-- what has been reached and what is reached behind it are all
abbrev pub invariant-loop-len : goal.invariant-loop-len
invariant-loop-len l = record {
  within : l.len ≤ length l.bytes;
  so_far : l.len + reach_of_units (run_unit_size l.rule) 0 (drop l.len l.bytes) ≡ reach_of_units (run_unit_size l.rule) 0 l.bytes;
}

abbrev pub decreases-loop-len : goal.decreases-loop-len
decreases-loop-len l = length l.bytes - l.len
