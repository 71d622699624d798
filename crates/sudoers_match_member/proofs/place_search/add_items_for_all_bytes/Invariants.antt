use Rattle.std.proofs.Common.{◌≡◌, ◌<◌, ◌≤◌, ℕ, length}
use Rattle.sudoers_match_member.specs.internal.Places.{IsTaker, IsTakerOrOfAll}
use Rattle.sudoers_match_member.proofs.place_search.add_items_for_all_bytes.Given as goal

abbrev pub invariant-loop-byte : goal.invariant-loop-byte
invariant-loop-byte l = record {
  size : length l.takers ≡ length l.fn.takers;
  done : (b i : ℕ) → b < l.byte → i < 256 → IsTakerOrOfAll l.fn.takers l.of_all b i → IsTaker l.takers b i;
  rest : (b i : ℕ) → l.byte ≤ b → IsTaker l.fn.takers b i → IsTaker l.takers b i;
}
