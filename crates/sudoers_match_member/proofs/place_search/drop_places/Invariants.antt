use Rattle.std.proofs.Common.{◌≡◌, ◌<◌, ◌≤◌, ◌+◌, ℕ, true, false, length, get_or}
use Rattle.sudoers_match_member.specs.internal.Places.{HasItem, DoTakersTakeFrom}
use Rattle.sudoers_match_member.proofs.place_search.drop_places.Given as goal

abbrev pub invariant-loop-number : goal.invariant-loop-number
invariant-loop-number l = (place item : ℕ) → place + item + 1 ≡ l.number → item < l.fn.row.count → get_or l.fn.places place false ≡ true
    → DoTakersTakeFrom l.fn.row.takers l.fn.row.count l.text place → HasItem l.reached item

abbrev pub invariant-loop-place : goal.invariant-loop-place
invariant-loop-place l = record {
  size : length l.places ≡ length l.fn.places;
  reached : (place item : ℕ) → place + item + 1 ≡ l.place + l.last → item < l.fn.row.count → get_or l.fn.places place false ≡ true
      → DoTakersTakeFrom l.fn.row.takers l.fn.row.count l.text place → HasItem l.reached item;
  kept : (place : ℕ) → place < l.place → get_or l.fn.places place false ≡ true
      → DoTakersTakeFrom l.fn.row.takers l.fn.row.count l.text place → get_or l.places place false ≡ true;
  rest : (place : ℕ) → l.place ≤ place → get_or l.places place false ≡ get_or l.fn.places place false;
}
