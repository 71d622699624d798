use Rattle.sudoers_check.proofs.Common.{drop, kind_and_file_place, map, ◌++◌, ◌≡◌}
use Rattle.sudoers_check.proofs.checking.unused.Given as goal

abbrev pub invariant-loop-found : goal.invariant-loop-found
invariant-loop-found l =
    l.places.items ++ map (kind_and_file_place l.policy.walk) (drop l.found-index l.found-items) ≡ map (kind_and_file_place l.policy.walk) l.found-items
