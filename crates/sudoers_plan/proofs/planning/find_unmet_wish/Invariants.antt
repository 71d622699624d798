use Rattle.std.proofs.Common.{◌≡◌, drop}
use Rattle.sudoers_plan.specs.Plan.{first_unmet_wish}
use Rattle.sudoers_plan.proofs.planning.find_unmet_wish.Given as goal

abbrev pub invariant-loop-number : goal.invariant-loop-number
invariant-loop-number l = first_unmet_wish l.number (drop l.number l.wishes) l.policy ≡ first_unmet_wish 0 l.wishes l.policy
