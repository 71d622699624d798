use Rattle.std.proofs.Common.{◌≡◌, length}
use Rattle.sudoers_plan.specs.Plan.{first_number_of_file_named, number_of_file_on_walk}
use Rattle.sudoers_plan.proofs.line_wishes.find_file_on_walk.Given as goal

abbrev pub invariant-loop-file : goal.invariant-loop-file
invariant-loop-file l = first_number_of_file_named l.name l.policy l.left ≡ number_of_file_on_walk l.name l.policy

abbrev pub decreases-loop-file : goal.decreases-loop-file
decreases-loop-file l = length l.left
