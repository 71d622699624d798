use Rattle.std.proofs.Common.{◌≤◌, ◌-◌, length, drop}
use Rattle.sudoers_match_member.specs.Folded.{bytes_case_folded_if_wanted}
use Rattle.sudoers_match_member.specs.internal.Known.{IsCorrectSetCache}
use Rattle.sudoers_match_member.specs.internal.Count.{BeginsWithStarlessItems}
use Rattle.sudoers_match_member.proofs.wildcards.count_items_if_no_star.Given as goal

abbrev pub invariant-loop-at : goal.invariant-loop-at
invariant-loop-at l = record {
  counted : BeginsWithStarlessItems (bytes_case_folded_if_wanted l.lower l.pattern) (drop l.at (bytes_case_folded_if_wanted l.lower l.pattern)) l.count;
  within : l.at ≤ length l.pattern;
  fewer : l.count ≤ l.at;
  known : IsCorrectSetCache l.mode l.lower l.pattern l.known;
}

abbrev pub decreases-loop-at : goal.decreases-loop-at
decreases-loop-at l = length l.pattern - l.at
