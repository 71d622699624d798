use Rattle.sudoers_match_member.specs.internal.Unclosed.{AreUnclosedPlaces}
use Rattle.sudoers_match_member.proofs.unclosed_places.UnclosedPlaces.find_in_pattern.Given as goal

abbrev pub invariant-loop-left : goal.invariant-loop-left
invariant-loop-left l = AreUnclosedPlaces l.lower l.pattern l.places
