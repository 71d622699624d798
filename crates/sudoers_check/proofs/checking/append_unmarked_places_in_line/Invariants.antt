use Rattle.sudoers_check.proofs.Common.{drop, unmarked_places_in_line_counted_from, ◌++◌, ◌≡◌}
use Rattle.sudoers_check.proofs.checking.append_unmarked_places_in_line.Given as goal

abbrev pub invariant-loop-def : goal.invariant-loop-def
invariant-loop-def l =
    l.places.items ++ unmarked_places_in_line_counted_from l.line l.kind l.def (drop l.def l.marks) ≡ l.initial.places.items ++ unmarked_places_in_line_counted_from l.line l.kind 0 l.marks
