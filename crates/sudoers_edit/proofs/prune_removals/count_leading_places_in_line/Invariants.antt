use Rattle.sudoers_edit.proofs.Common.{drop, leading_place_count_in_line, ◌+◌, ◌≡◌}
use Rattle.sudoers_edit.proofs.prune_removals.count_leading_places_in_line.Given as goal

abbrev pub invariant-loop-place : goal.invariant-loop-place
invariant-loop-place l = (l.count ≡ l.place-index) × (l.count + leading_place_count_in_line l.line (drop l.place-index l.places) ≡ leading_place_count_in_line l.line l.places)
