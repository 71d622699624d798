use Rattle.sudoers_tree.proofs.Common.{length, name_without_trailing_slashes, ◌≡◌}
use Rattle.sudoers_tree.proofs.include_leads.drop_trailing_slashes.Given as goal

-- The front is the name but for `/` at its end.
abbrev pub invariant-loop-last : goal.invariant-loop-last
invariant-loop-last l = name_without_trailing_slashes l.front ≡ name_without_trailing_slashes l.name

abbrev pub decreases-loop-last : goal.decreases-loop-last
decreases-loop-last l = length l.front
