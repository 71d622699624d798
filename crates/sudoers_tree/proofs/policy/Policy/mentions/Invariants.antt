use Rattle.sudoers_tree.proofs.Common.{drop, map, ◌++◌, ◌≡◌}
use Rattle.sudoers_tree.specs.FilePlaces.{file_span_from_walk}
use Rattle.sudoers_tree.proofs.policy.Policy.mentions.Given as goal

abbrev pub invariant-loop-span : goal.invariant-loop-span
invariant-loop-span l =
    l.spans.items ++ map (file_span_from_walk l.self.walk) (drop l.span-index l.span-items) ≡ map (file_span_from_walk l.self.walk) l.span-items
