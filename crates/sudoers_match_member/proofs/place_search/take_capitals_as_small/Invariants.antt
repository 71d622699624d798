use Rattle.std.proofs.Common.{◌≡◌, ◌<◌, ◌≤◌, ◌+◌, ℕ, length, get_or}
use Rattle.sudoers_match_member.specs.internal.Places.{no_items}
use Rattle.sudoers_match_member.proofs.place_search.take_capitals_as_small.Given as goal

abbrev pub invariant-loop-byte : goal.invariant-loop-byte
invariant-loop-byte l = record {
  size : length l.takers ≡ length l.fn.takers;
  done : (b : ℕ) → 65 ≤ b → b < l.byte → b < 91 → get_or l.takers b no_items ≡ get_or l.fn.takers (b + 32) no_items;
  low : (b : ℕ) → b < 65 → get_or l.takers b no_items ≡ get_or l.fn.takers b no_items;
  rest : (b : ℕ) → l.byte ≤ b → get_or l.takers b no_items ≡ get_or l.fn.takers b no_items;
}
