use Rattle.std.proofs.Common.{◌≤◌, ◌-◌, length, drop}
use Rattle.sudoers_match_member.specs.Folded.{bytes_case_folded_if_wanted}
use Rattle.sudoers_match_member.specs.internal.Run.{DoItemsTakePrefix}
use Rattle.sudoers_match_member.specs.internal.Known.{IsCorrectSetCache}
use Rattle.sudoers_match_member.proofs.wildcards.match_up_to_star.Given as goal

abbrev pub invariant-loop-at : goal.invariant-loop-at
invariant-loop-at l = record {
  passed : DoItemsTakePrefix l.mode (bytes_case_folded_if_wanted l.lower l.pattern) (bytes_case_folded_if_wanted l.lower l.text) (drop l.at (bytes_case_folded_if_wanted l.lower l.pattern)) (drop l.place (bytes_case_folded_if_wanted l.lower l.text));
  within : l.at ≤ length l.pattern;
  placed : l.place ≤ length l.text;
  known : IsCorrectSetCache l.mode l.lower l.pattern l.known;
}

abbrev pub decreases-loop-at : goal.decreases-loop-at
decreases-loop-at l = length l.pattern - l.at
