use Rattle.std.proofs.Common.{◌≤◌}
use Rattle.sudoers_text.proofs.tokenizing.last_unescaped_offset_before.Given as goal

abbrev pub invariant-loop-place : goal.invariant-loop-place
invariant-loop-place l = record {
  not_before : l.from ≤ l.place;
  not_behind : l.place ≤ l.fn.at;
}

abbrev pub decreases-loop-place : goal.decreases-loop-place
decreases-loop-place l = l.place
