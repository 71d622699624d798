use Rattle.std.proofs.Common.{◌≡◌, ◌≤◌, ◌+◌, drop, false}
use Rattle.std.specs.Prelude.{if◌then◌else◌}
use Rattle.sudoers_forms.specs.Spelling.{spelled_size}
use Rattle.sudoers_forms.proofs.spelling.Spelling.size_of.Given as goal

-- A backslash that escapes counts with its pair.
abbrev pub invariant-loop-byte : goal.invariant-loop-byte
invariant-loop-byte l = record {
  within : l.size + (if l.is_escaped then 1 else 0) ≤ l.byte-index;
  same : l.size + spelled_size l.self l.is_escaped (drop l.byte-index l.bytes) ≡ spelled_size l.self false l.bytes;
}
