use Rattle.std.proofs.Common.{◌≡◌, ◌<◌, ◌≤◌, ◌-◌, length}
use Rattle.sudoers_match_member.specs.internal.Known.{IsCorrectSetCache}
use Rattle.sudoers_match_member.specs.internal.Places.{items_from_place, BeginWithStarless, DoesMatchFromNoneBefore}
use Rattle.sudoers_match_member.proofs.place_search.find_place_to_try.Given as goal

abbrev pub invariant-loop-passed : goal.invariant-loop-passed
invariant-loop-passed l = record {
  within : l.passed ≤ length l.text;
  some : 0 < l.most;
  most : l.most ≤ 16384;
  none : DoesMatchFromNoneBefore l.mode l.lower l.pattern l.text l.passed;
  count : BeginWithStarless (items_from_place l.lower l.pattern 0) l.count;
  known : IsCorrectSetCache l.mode l.lower l.pattern l.known;
  tail : l.known.tail ≡ l.fn.known.tail;
}

abbrev pub decreases-loop-passed : goal.decreases-loop-passed
decreases-loop-passed l = length l.text - l.passed
