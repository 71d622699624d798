use Rattle.sudoers_match_member.specs.Folded.{bytes_case_folded_if_wanted}
use Rattle.sudoers_match_member.specs.internal.Run.{IsMatchOutcomeOfWholePattern, remaining_pattern_measure}
use Rattle.sudoers_match_member.specs.internal.Known.{IsKnownBehindStar}
use Rattle.sudoers_match_member.proofs.wildcards.matches_whole_pattern.Given as goal

abbrev pub invariant-loop-run : goal.invariant-loop-run
invariant-loop-run l = record {
  so_far : IsMatchOutcomeOfWholePattern l.mode l.lower (bytes_case_folded_if_wanted l.lower l.fn.pattern) (bytes_case_folded_if_wanted l.lower l.fn.text) l.run;
  behind : IsKnownBehindStar l.lower l.known l.run;
}

abbrev pub decreases-loop-run : goal.decreases-loop-run
decreases-loop-run l = remaining_pattern_measure l.run
