use Rattle.sudoers_cvt_rewrite.proofs.Common.{drop, marked_definitions_member_count, ◌+◌, ◌≡◌}
use Rattle.sudoers_cvt_rewrite.proofs.member_tally.MemberTally.count_marked_definitions.Given as goal

abbrev pub invariant-loop-number : goal.invariant-loop-number
invariant-loop-number l =
    l.self.count + marked_definitions_member_count (drop l.number l.marks) (drop l.number l.definitions) ≡ l.fn.self.count + marked_definitions_member_count l.marks l.definitions
