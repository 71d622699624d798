use Rattle.std.proofs.Common.{◌≡◌, ◌-◌, ◌≤◌, length}
use Rattle.sudoers_line_reader.proofs.reading.count_tokens_before.Given as goal

abbrev pub invariant-loop-before : goal.invariant-loop-before
invariant-loop-before l = record {
  value : l.before - length l.left ≡ length l.parts - length l.fn.left;
  within : l.before ≤ length l.parts;
}

abbrev pub decreases-loop-before : goal.decreases-loop-before
decreases-loop-before l = l.before
