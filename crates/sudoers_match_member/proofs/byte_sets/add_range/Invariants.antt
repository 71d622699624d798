use Rattle.std.proofs.Common.{◌≡◌, ◌<◌, ◌≤◌, ◌+◌, ℕ, true, false, length, get_or}
use Rattle.std.specs.Prelude.{max}
use Rattle.sudoers_match_member.proofs.byte_sets.add_range.Given as goal

abbrev pub invariant-loop-byte : goal.invariant-loop-byte
invariant-loop-byte l = record {
  size : length l.has ≡ length l.fn.has;
  low : l.low ≤ l.byte;
  high : l.byte ≤ max l.low (l.high + 1);
  done : (b : ℕ) → l.low ≤ b → b < l.byte → get_or l.has b false ≡ true;
  before : (b : ℕ) → b < l.low → get_or l.has b false ≡ get_or l.fn.has b false;
  rest : (b : ℕ) → l.byte ≤ b → get_or l.has b false ≡ get_or l.fn.has b false;
}
