use Rattle.std.proofs.Common.{◌≡◌, ◌<◌, ◌≤◌, ◌-◌, ℕ, true, false, length, drop, get_or}
use Rattle.sudoers_match_member.specs.internal.Known.{IsCorrectSetCache}
use Rattle.sudoers_match_member.specs.internal.Places.{items_from_place, BeginWithStarless, DoesMatchFrom}
use Rattle.sudoers_match_member.proofs.place_search.find_place_among_first.Given as goal

abbrev pub invariant-loop-mode : goal.invariant-loop-mode
invariant-loop-mode l = record {
  within : l.at ≤ length l.pattern;
  passed : l.passed ≤ length l.text;
  items : drop l.passed (items_from_place l.lower l.pattern 0) ≡ items_from_place l.lower l.pattern l.at;
  starless : BeginWithStarless (items_from_place l.lower l.pattern 0) l.passed;
  count : BeginWithStarless (items_from_place l.lower l.pattern 0) l.count;
  size : length l.places ≡ 16640;
  width : l.width ≤ l.most;
  few : (place : ℕ) → place < l.most → DoesMatchFrom l.mode l.lower l.pattern l.text place → place < l.width;
  may : (place : ℕ) → place < l.width → DoesMatchFrom l.mode l.lower l.pattern l.text place → get_or l.places place false ≡ true;
  known : IsCorrectSetCache l.mode l.lower l.pattern l.known;
  tail : l.known.tail ≡ l.fn.known.tail;
}

abbrev pub decreases-loop-mode : goal.decreases-loop-mode
decreases-loop-mode l = length l.pattern - l.at
