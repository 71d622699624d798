use Rattle.std.proofs.Common.{◌≡◌}
use Rattle.sudoers_review_users.proofs.examples.append_example.Given as goal

-- Nothing is appended yet, and the request is one of the same user.
abbrev pub invariant-loop-example : goal.invariant-loop-example
invariant-loop-example l = (l.request.who ≡ l.initial.request.who) × (l.out.items ≡ l.initial.out.items)
