use Rattle.std.proofs.Common.{◌≡◌, ◌<◌, ◌≤◌, ◌+◌, ◌-◌, ℕ, false, true, length, drop, get_or}
use Rattle.sudoers_match_member.specs.Folded.{byte_case_folded_if_wanted}
use Rattle.sudoers_match_member.specs.Wildcard.{Star, is_byte_taken_by_item}
use Rattle.sudoers_match_member.specs.internal.Known.{IsCorrectSetCache}
use Rattle.sudoers_match_member.specs.internal.Places.{items_from_place, BeginWithStarless, IsTakerOrOfAll}
use Rattle.sudoers_match_member.proofs.place_search.read_item_row.Given as goal

abbrev pub invariant-loop-end : goal.invariant-loop-end
invariant-loop-end l = record {
  few : l.count ≤ 256;
  within : l.end ≤ length l.pattern;
  further : l.at + l.count ≤ l.end;
  rest : drop l.count (items_from_place l.lower l.pattern l.at) ≡ items_from_place l.lower l.pattern l.end;
  starless : BeginWithStarless (items_from_place l.lower l.pattern l.at) l.count;
  takers : (i b : ℕ) → i < l.count → b < 256 → is_byte_taken_by_item l.mode (get_or (items_from_place l.lower l.pattern l.at) i Star) (byte_case_folded_if_wanted false b) ≡ true → IsTakerOrOfAll l.takers l.of_all b i;
  known : IsCorrectSetCache l.mode l.lower l.pattern l.known;
  tail : l.known.tail ≡ l.fn.known.tail;
}

abbrev pub decreases-loop-end : goal.decreases-loop-end
decreases-loop-end l = length l.pattern - l.end
