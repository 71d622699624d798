use Rattle.std.proofs.Common.{◌≤◌}
use Rattle.cases.proofs.benchmark_work.parsed_line_count_of.Given as goal

abbrev pub invariant-loop-i : goal.invariant-loop-i
invariant-loop-i l = l.count ≤ l.i
