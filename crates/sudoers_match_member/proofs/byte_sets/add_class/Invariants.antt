use Rattle.std.proofs.Common.{◌≡◌, ◌||◌, false, length, get_or}
use Rattle.sudoers_match_member.specs.Class.{is_byte_of_class}
use Rattle.sudoers_match_member.proofs.Tables.{IsDoneBelow}
use Rattle.sudoers_match_member.proofs.byte_sets.add_class.Given as goal

abbrev pub invariant-loop-byte : goal.invariant-loop-byte
invariant-loop-byte l = record {
  size : length l.has ≡ length l.fn.has;
  so_far : IsDoneBelow l.fn.has l.has (λ b. get_or l.fn.has b false || is_byte_of_class l.class b) l.byte;
}
