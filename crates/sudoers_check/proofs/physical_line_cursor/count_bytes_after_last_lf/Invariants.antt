use Rattle.sudoers_check.proofs.Common.{byte_count_after_last_lf, drop, ◌+◌, ◌≡◌, ◌≤◌}
use Rattle.sudoers_check.proofs.physical_line_cursor.count_bytes_after_last_lf.Given as goal

abbrev pub invariant-loop-byte : goal.invariant-loop-byte
invariant-loop-byte l =
    (byte_count_after_last_lf l.behind (drop l.byte-index l.bytes) ≡ byte_count_after_last_lf l.before l.bytes) × (l.behind ≤ l.before + l.byte-index)
