use Rattle.std.proofs.Common.{◌≡◌, false, not, length, get_or}
use Rattle.std.specs.Bool.{beq}
use Rattle.sudoers_match_member.proofs.Tables.{IsDoneBelow}
use Rattle.sudoers_match_member.proofs.first_pattern_item.turn_into_taken_bytes.Given as goal

abbrev pub invariant-loop-byte : goal.invariant-loop-byte
invariant-loop-byte l = record {
  size : length l.takes ≡ length l.fn.takes;
  so_far : IsDoneBelow l.fn.takes l.takes (λ b. not (beq (get_or l.fn.takes b false) l.negated)) l.byte;
}
