use Rattle.sudoers_tree.proofs.Common.{length, lf_count, ◌+◌, ◌≡◌}
use Rattle.sudoers_tree.proofs.physical_position.lf_count.Given as goal

-- The LF that are left are those that are not counted.
abbrev pub invariant-loop : goal.invariant-loop
invariant-loop l = l.count + length l.iterator' ≡ lf_count l.bytes
