use Rattle.std.proofs.Common.{◌≡◌, ◌<◌, ℕ, false, true, length, get_or}
use Rattle.sudoers_match_member.specs.internal.Places.{IsTaker}
use Rattle.sudoers_match_member.proofs.place_search.add_item_for_taken_bytes.Given as goal

abbrev pub invariant-loop-byte : goal.invariant-loop-byte
invariant-loop-byte l = record {
  size : length l.takers ≡ length l.fn.takers;
  taker : (b : ℕ) → b < l.byte → get_or l.taken b false ≡ true → IsTaker l.takers b l.item;
  kept : (b i : ℕ) → IsTaker l.fn.takers b i → IsTaker l.takers b i;
}
