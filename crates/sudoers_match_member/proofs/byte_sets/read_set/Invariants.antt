use Rattle.std.proofs.Common.{◌≡◌, ◌-◌, ◌<◌, ℕ, length, drop, get_or, false}
use Rattle.sudoers_match_member.specs.Sets.{set_items_behind_opening_bracket, set_items_after_skipped_bytes}
use Rattle.sudoers_match_member.specs.internal.Seen.{set_end_and_byte_seen}
use Rattle.sudoers_match_member.specs.Folded.{bytes_case_folded_if_wanted}
use Rattle.sudoers_match_member.proofs.byte_sets.read_set.Given as goal

abbrev pub invariant-loop-at : goal.invariant-loop-at
invariant-loop-at l = record {
  rest : (b : ℕ) → b < 256 → set_end_and_byte_seen b l.at (get_or l.has b false) (set_items_after_skipped_bytes 0 (drop l.at (bytes_case_folded_if_wanted l.lower l.bytes)))
      ≡ set_end_and_byte_seen b 0 false (set_items_behind_opening_bracket (bytes_case_folded_if_wanted l.lower l.bytes));
  some : 0 < l.at;
}

abbrev pub decreases-loop-at : goal.decreases-loop-at
decreases-loop-at l = length l.bytes - l.at
