use Rattle.std.proofs.Common.{◌≢◌, ◌<◌, ◌≤◌, ℕ, length, get_or}
use Rattle.sudoers_match_member.proofs.set_cache.closing_bracket_free_tail_len.Given as goal

abbrev pub invariant-loop-at : goal.invariant-loop-at
invariant-loop-at l = record {
  within : l.at ≤ length l.pattern;
  free : (i : ℕ) → l.at ≤ i → i < length l.pattern → get_or l.pattern i 0 ≢ 93;
}

abbrev pub decreases-loop-at : goal.decreases-loop-at
decreases-loop-at l = l.at
